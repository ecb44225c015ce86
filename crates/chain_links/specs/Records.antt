-- The activation records in a lent slice, as the lists of crate `arrays`, of 256 activations: `blocks_in`, `nexts_in`, `links_in`. `Linked`: from an activation,
-- links can
-- be followed; `hop-follows`: they lead where the lists' do. `Pushed`, `NextSet`: what a record that is written does to the lists.
use Rattle.std.specs.Prelude.{ℕ, zero, suc, ◌+◌, ◌≤◌, ◌<◌, List, [], ◌∷◌, ◌≡◌, refl, eqb, length, get_or, set}
use Rattle.std.proofs.Common.{arith, sym, ap, ◌∙◌, eqb-true, length-set, ext_get_or, get_or-set_same, get_or-set_other}
use Rattle.std.proofs.lemmas.Bool.{eqb-false}
use Rattle.laws.specs.Tests.{split}
use Rattle.arrays.proofs.Names.{follow}
use Rattle.chain_records.specs.declared.Activation.{Activation}
use Rattle.chain_records.specs.Records.{no_record, at, hop}
use Rattle.chain_records.specs.Records as activations

-- a field of so many records, from one on
unfoldable pub column : (Activation → ℕ) → List Activation → ℕ → ℕ → List ℕ
column f xs from zero = []
column f xs from (suc n) = f (at xs from) ∷ column f xs (suc from) n

abbrev pub blocks_in : List Activation → List ℕ
blocks_in xs = column (λ a. a.block) xs 0 256

abbrev pub nexts_in : List Activation → List ℕ
nexts_in xs = column (λ a. a.next) xs 0 256

abbrev pub links_in : List Activation → List ℕ
links_in xs = column (λ a. a.link) xs 0 256

pub column-length : (f : Activation → ℕ) (xs : List Activation) (from n : ℕ) → length (column f xs from n) ≡ n
unfolding column
column-length f xs from zero = refl
column-length f xs from (suc n) = ap suc (column-length f xs (suc from) n)

column-at : (f : Activation → ℕ) (xs : List Activation) (from n k : ℕ) → k < n → get_or (column f xs from n) k 0 ≡ f (at xs (from + k))
unfolding column
column-at f xs from zero k h = absurd (omega arith)
column-at f xs from (suc n) zero h = let e : from ≡ from + 0 = omega arith in ap (λ j. f (at xs j)) e
column-at f xs from (suc n) (suc k) h =
    let e : suc from + k ≡ from + suc k = omega arith in
    column-at f xs (suc from) n k (omega arith) ∙ ap (λ j. f (at xs j)) e

pub column-read : (f : Activation → ℕ) (xs : List Activation) (k : ℕ) → k < 256 → get_or (column f xs 0 256) k 0 ≡ f (at xs k)
column-read f xs k h = let e : 0 + k ≡ k = omega arith in column-at f xs 0 256 k h ∙ ap (λ j. f (at xs j)) e

-- the record of activation k is in the slice
pub record Room (xs : List Activation) (k : ℕ) : Type 0 where
  pub few : k < 256
  pub there : k < length xs

-- A record written

module _ (f : Activation → ℕ) (xs : List Activation) (k : ℕ) (a : Activation) (r : Room xs k) where
  pub column-set : column f (set xs k a) 0 256 ≡ set (column f xs 0 256) k (f a)
  column-set =
      ext_get_or 0 (column f (set xs k a) 0 256) (set (column f xs 0 256) k (f a))
      (column-length f _ 0 256 ∙ sym (length-set (column f xs 0 256) k (f a) ∙ column-length f xs 0 256))
      (λ j h. let low : j < 256 = omega (arith, column-length f (set xs k a) 0 256) in
      column-read f (set xs k a) j low
      ∙ split (eqb j k)
      (λ t. let e : j ≡ k = eqb-true j k t in
      ap (λ m. f (at (set xs k a) m)) e ∙ ap f (get_or-set_same xs k a no_record r.there)
      ∙ sym (ap (λ m. get_or (set (column f xs 0 256) k (f a)) m 0) e ∙ get_or-set_same (column f xs 0 256) k (f a) 0
      (omega (arith, r.few, column-length f xs 0 256))))
      (λ t. let d = eqb-false j k t in
      ap f (get_or-set_other xs k j a no_record d) ∙ sym (column-read f xs j low) ∙ sym (get_or-set_other (column f xs 0 256) k j (f a) 0 d)))

  -- a field that is written as it was
  pub column-kept : f a ≡ f (at xs k) → column f (set xs k a) 0 256 ≡ column f xs 0 256
  column-kept e =
      column-set ∙ ext_get_or 0 (set (column f xs 0 256) k (f a)) (column f xs 0 256) (length-set (column f xs 0 256) k (f a))
      (λ j h. split (eqb j k)
      (λ t. let q : j ≡ k = eqb-true j k t in
      ap (λ m. get_or (set (column f xs 0 256) k (f a)) m 0) q ∙ get_or-set_same (column f xs 0 256) k (f a) 0
      (omega (arith, r.few, column-length f xs 0 256)) ∙ e ∙ sym (ap (λ m. get_or (column f xs 0 256) m 0) q ∙ column-read f xs k r.few))
      (λ t. get_or-set_other (column f xs 0 256) k j (f a) 0 (eqb-false j k t)))

pub record Pushed (xs xs' : List Activation) (k block next link : ℕ) : Type 0 where
  pub blocks : blocks_in xs' ≡ set (blocks_in xs) k block
  pub nexts : nexts_in xs' ≡ set (nexts_in xs) k next
  pub links : links_in xs' ≡ set (links_in xs) k link
  pub long : length xs' ≡ length xs

pub pushed : (xs : List Activation) (k : ℕ) (a : Activation) → Room xs k → Pushed xs (set xs k a) k a.block a.next a.link
pushed xs k a r =
    record {
      blocks = column-set (λ b. b.block) xs k a r;
      nexts = column-set (λ b. b.next) xs k a r;
      links = column-set (λ b. b.link) xs k a r;
      long = length-set xs k a;
    }

-- the place of the next statement is another
abbrev pub with_next : Activation → ℕ → Activation
with_next a next = record { block = a.block; next = next; link = a.link }

pub record NextSet (xs xs' : List Activation) (k next : ℕ) : Type 0 where
  pub blocks : blocks_in xs' ≡ blocks_in xs
  pub nexts : nexts_in xs' ≡ set (nexts_in xs) k next
  pub links : links_in xs' ≡ links_in xs
  pub long : length xs' ≡ length xs

pub next-set : (xs : List Activation) (k next : ℕ) → Room xs k → NextSet xs (set xs k (with_next (at xs k) next)) k next
next-set xs k next r =
    record {
      blocks = column-kept (λ b. b.block) xs k (with_next (at xs k) next) r refl;
      nexts = column-set (λ b. b.next) xs k (with_next (at xs k) next) r;
      links = column-kept (λ b. b.link) xs k (with_next (at xs k) next) r refl;
      long = length-set xs k (with_next (at xs k) next);
    }

-- Links followed

-- no link leads further in
pub record Linked (xs : List Activation) (live : ℕ) : Type 0 where
  pub room : Room xs live
  pub down : (k : ℕ) → k ≤ live → get_or (links_in xs) k 0 ≤ k

pub linked-room : {xs : List Activation} {live : ℕ} → Linked xs live → (k : ℕ) → k ≤ live → Room xs k
linked-room l k h = record { few = omega (arith, l.room.few); there = omega (arith, l.room.there) }

pub as-linked : {xs : List Activation} {live : ℕ} → Linked xs live → activations.Linked xs live
as-linked {xs} l =
    record {
      there = l.room.there;
      down = λ k h. omega (arith, l.down k h, column-read (λ b. b.link) xs k (omega (arith, l.room.few)));
    }

pub hop-follows : {xs : List Activation} {live : ℕ} → Linked xs live → (k n : ℕ) → k ≤ live → hop xs k n ≡ follow (links_in xs) k n
unfolding follow
hop-follows l k zero h = refl
hop-follows {xs} l k (suc n) h =
    let e : get_or (links_in xs) k 0 ≡ (at xs k).link = column-read (λ b. b.link) xs k (omega (arith, l.room.few)) in
    hop-follows l (at xs k).link n (omega (arith, l.down k h)) ∙ ap (λ j. follow (links_in xs) j n) (sym e)
