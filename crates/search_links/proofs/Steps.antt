-- The two loops: what is sought from the activation that is asked next is what was sought at first (`Asking`), and the links found so far (`LinksFound`).
use Prim.Native.Nat.{ℕ, ◌+◌, ◌≤◌, ◌<◌}
use native.Mathlib.Omega.{arith}
use mathlib.Core.List.{List}
use mathlib.Core.Path.{◌≡◌, refl, sym, ap, ◌∙◌}
use borrow.Author.Tests.{eqb-true, eqb-false, leb-true, leb-false}
use lib.Dec.{eqb, leb}
use lib.ListN.{length, get_or, set, length-set}
use lib.Seq.{get_or-set_same, get_or-set_other}
use Rattle.laws.specs.Tests.{split}
use Rattle.search_links.specs.Enclosing.{level_at, shallower_from, link_at, Askable, AllAskable, LinksFound, shallower-last, shallower-here, shallower-on, ask-below}

pub record Asking (code blocks froms : List ℕ) (from v k : ℕ) : Type 0 where
  pub within : k ≤ from
  pub same : shallower_from code blocks froms v k ≡ shallower_from code blocks froms v from

module _ (code blocks froms : List ℕ) (from v k : ℕ) (a : Asking code blocks froms from v k) where
  pub found : 0 < k → level_at code blocks k < v → (k ≡ shallower_from code blocks froms v from) × (k ≤ from)
  found low e = (sym (shallower-here code blocks froms v k (omega arith) e) ∙ a.same, a.within)

  pub onward : Askable blocks froms from → 0 < k → v ≤ level_at code blocks k → {n : ℕ} → n ≡ get_or froms k 0 → Asking code blocks froms from v n
  onward asks low h {n} q =
      let l = asks.falls k (omega arith) a.within in
      record { within = omega (arith, a.within); same = ap (shallower_from code blocks froms v) q ∙ sym (shallower-on code blocks froms v from asks k (omega arith) a.within h) ∙ a.same }

  pub below : Askable blocks froms from → 0 < k → {n : ℕ} → n ≡ get_or froms k 0 → n < k
  below asks low {n} q = let l = asks.falls k (omega arith) a.within in omega arith

  pub heads : Askable blocks froms from → (k < 256) × (get_or blocks k 0 < 4096)
  heads asks = (omega (arith, asks.few, a.within), asks.heads k a.within)

  pub at_last : k ≤ 0 → (0 ≡ shallower_from code blocks froms v from) × (0 ≤ from)
  at_last h = let z : k ≡ 0 = omega arith in (sym (sym a.same ∙ ap (shallower_from code blocks froms v) z ∙ shallower-last code blocks froms v), omega arith)

-- the search begun where it goes on after activation k
pub from-there : {blocks froms : List ℕ} {k : ℕ} → Askable blocks froms k → 1 ≤ k → {n : ℕ} → n ≡ get_or froms k 0 → Askable blocks froms n
from-there {k = k} a low {n} q = let l = a.falls k low (omega arith) in ask-below a (omega arith)

pub encloses : (code blocks froms : List ℕ) (k : ℕ) → Askable blocks froms k → 1 ≤ k → {n v r : ℕ} → n ≡ get_or froms k 0 → v ≡ level_at code blocks k
    → (r ≡ shallower_from code blocks froms v n) × (r ≤ n) → (r ≡ link_at code blocks froms k) × (r < 256)
encloses code blocks froms k a low {n} {v} {r} q e is =
    let l = a.falls k low (omega arith) in
    (is.0 ∙ (λ i. shallower_from code blocks froms (e i) (q i)), omega (arith, a.few, is.1))

-- Links found

-- those of the activations before k are there
pub record Finding (code blocks froms : List ℕ) (live : ℕ) (links : List ℕ) (k : ℕ) (links' : List ℕ) : Type 0 where
  pub low : 1 ≤ k
  pub high : 2 ≤ k → k ≤ live
  pub so_far : LinksFound code blocks froms k links links'
  pub as_long : length links' ≡ 256

pub begun : (code blocks froms : List ℕ) (live : ℕ) (links : List ℕ) → length links ≡ 256 → Finding code blocks froms live links 1 links
begun code blocks froms live links long =
    record { low = omega arith; high = λ h. absurd (omega arith); so_far = record { links-are = λ j p q. absurd (omega arith); program = refl; others = λ j p. refl }; as_long = long }

module _ {code blocks froms : List ℕ} {live : ℕ} {links : List ℕ} {k : ℕ} {links' : List ℕ} (g : Finding code blocks froms live links k links') where
  pub one_more : k < live → k < 256 → {v : ℕ} → v ≡ link_at code blocks froms k → Finding code blocks froms live links (k + 1) (set links' k v)
  one_more more few {v} e =
      record {
        low = omega arith;
        high = λ h. omega arith;
        so_far = record {
          links-are = λ j p q.
              split (eqb j k)
              (λ t. let z : j ≡ k = eqb-true j k t in
              ap (λ i. get_or (set links' k v) i 0) z ∙ get_or-set_same links' k v 0 (omega (arith, g.as_long)) ∙ e ∙ sym (ap (link_at code blocks froms) z))
              (λ t. let d = eqb-false j k t in get_or-set_other links' k j v 0 d ∙ g.so_far.links-are j p (omega (arith, d)));
          program = get_or-set_other links' k 0 v 0 (λ z. omega (arith, g.low)) ∙ g.so_far.program;
          others = λ j p. get_or-set_other links' k j v 0 (λ z. omega arith) ∙ g.so_far.others j (omega arith);
        };
        as_long = length-set links' k v ∙ g.as_long;
      }

  pub placed : AllAskable blocks froms live → k < live → Askable blocks froms k × (1 ≤ k)
  placed l more = (l k more, g.low)

  pub all_found : live ≤ k → LinksFound code blocks froms live links links'
  all_found done =
      record {
        links-are = λ j p q. g.so_far.links-are j p (omega arith);
        program = g.so_far.program;
        others = λ j p.
            split (eqb j 0) (λ t. let z : j ≡ 0 = eqb-true j 0 t in ap (λ i. get_or links' i 0) z ∙ g.so_far.program ∙ sym (ap (λ i. get_or links i 0) z))
            (λ t. let d = eqb-false j 0 t in g.so_far.others j (beyond j d p));
      }
    where
      beyond : (j : ℕ) → (j ≡ 0 → ⊥) → live ≤ j → k ≤ j
      beyond j d p = split (leb 2 k) (λ t. omega (arith, g.high (leb-true 2 k t))) (λ t. omega (arith, leb-false 2 k t, d))
