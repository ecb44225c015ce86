-- A slot's word and the pair whose place it has, and the slots as places are stored.
use Prim.Native.Nat.{ℕ, ◌+◌, ◌-◌, ◌*◌, ◌/◌, ◌%◌, ◌<◌}
use mathlib.Core.Path.{◌≡◌, sym, ◌∙◌, ap, subst}
use mathlib.Core.List.{List}
use native.Mathlib.Omega.{arith}
use lib.IntN.{ℤ}
use lib.ListN.{replicate}
use Rattle.laws.specs.Lists.{zeros}
use Rattle.table_probes.specs.Probes.{by-set}
use Rattle.table_distinct.specs.Slots.{word_at, hash_of}
use Rattle.table_packed.specs.Packed.{tag_of, pair_in, Named, Placed, NewIn}

-- the word of the pair at i
module _ (i : ℕ) (low : i < 65535) (tag : ℕ) where
  place-of : (tag * 65536 + (i + 1)) % 65536 - 1 ≡ i
  place-of = omega arith

  tag-of : (tag * 65536 + (i + 1)) / 65536 ≡ tag
  tag-of = omega arith

  pub word_some : tag * 65536 + (i + 1) ≡ 0 → ⊥
  word_some e = omega arith

  pub word-pair : (ws : List ℤ) → pair_in ws (tag * 65536 + (i + 1)) ≡ word_at ws i
  word-pair ws = ap (word_at ws) place-of

pub placed-none : (ws : List ℤ) (size : ℕ) → Placed ws 0 (replicate size 0)
placed-none ws size = record { named = λ x u. absurd (u (zeros size x)) }

named_more : {ws : List ℤ} {i w : ℕ} → Named ws i w → Named ws (i + 1) w
named_more n = record { some = n.some; before = omega (arith, n.before); tagged = n.tagged }

pub placed-more : {ws : List ℤ} {i : ℕ} {slots after : List ℕ} → i < 65535 → Placed ws i slots → NewIn ws i slots after → Placed ws (i + 1) after
placed-more {ws} {i} {slots} low placed new =
    let word = tag_of (hash_of (word_at ws i)) * 65536 + (i + 1) in
    let q = new.slot in
    subst (Placed ws (i + 1)) (sym new.stored)
    record {
      named = λ x u. by-set slots q word x new.passed.reached.within
          (λ a z. rw z (record {
            some = omega arith;
            before = omega arith;
            tagged = tag-of i low (tag_of (hash_of (word_at ws i))) ∙ ap (λ (w : ℕ). tag_of (hash_of w)) (sym (word-pair i low (tag_of (hash_of (word_at ws i))) ws));
          }))
          (λ a z. rw z (named_more (placed.named x (λ o. u (z ∙ o)))));
    }
