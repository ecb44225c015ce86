-- The slots as pairs are stored: each pair that differs from all before it keeps them so.
use Prim.Native.Nat.{ℕ, suc, ◌+◌, ◌*◌, ◌%◌, ◌≤◌, ◌<◌}
use mathlib.Core.Path.{◌≡◌, refl, sym, ◌∙◌, ap, subst}
use mathlib.Core.Bool.{Bool, true, false}
use mathlib.Core.List.{List}
use native.Mathlib.Nat.{mod-lt, div-lt_iff_lt-mul, mul-lt-mul_of_pos_right}
use native.Mathlib.Omega.{arith}
use borrow.Author.Count.{below_more}
use lib.IntN.{ℤ, nat_abs}
use lib.ListN.{length, set, replicate, length-set, length-replicate}
use Rattle.laws.specs.Lists.{zeros}
use Rattle.laws.specs.Tables.{group_at, member_at}
use Rattle.laws.specs.Tests.{never}
use Rattle.table_probes.specs.Room.{room-none, room-put}
use Rattle.table_probes.specs.Probes.{Reached, Kept, kept-none, kept_put, absent, has_new, has-still, by-set}
use Rattle.table_keys.specs.Keys.{same_at, rank_at}
use Rattle.table_keys.proofs.Keys.{alike-rises}
use Rattle.table_keys.proofs.Ranks.{counted-hit, rank-counted, rank-one}
use Rattle.table_distinct.specs.Slots.{numbers_at, word_at, slot_of, home_of, Stored, Holds, Stands, Filled, Keyed}
use Rattle.table_distinct.proofs.Words.{same_word, word_same}

pub slot-below : (size hash : ℕ) → 0 < size → slot_of size hash < size
unfolding slot_of
slot-below size hash h =
    let x = hash % 4294967296 in
    let b : x < 4294967296 = mod-lt _ (omega arith) in
    (div-lt_iff_lt-mul {k = 4294967296} {x = x * size} {y = size} (omega arith)).1 (omega (arith, mul-lt-mul_of_pos_right {k = size} b h))

pub filled_none : (key_in : ℕ → ℕ) (ws : List ℤ) (mine : ℕ → Bool) (size : ℕ) → Filled key_in ws mine 0 0 (replicate size 0)
filled_none key_in ws mine size =
    record {
      kept = kept-none size;
      left = omega (arith, room-none size, length-replicate {A = ℕ} size 0);
      has = λ j l. absurd (omega arith);
      of-pairs = λ x u. absurd (u (zeros size x));
    }

rank-two : (ws : List ℤ) (i j : ℕ) → j < i → same_at true ws i j ≡ true → 1 < rank_at true i ws
rank-two ws i j l e =
    omega (arith, rank-counted true ws i, counted-hit true ws i j e, alike-rises true (group_at i ws) (member_at i ws) ws (suc j) i l)

module _ {key_in : ℕ → ℕ} {ws : List ℤ} {mine : ℕ → Bool} {i n : ℕ} {slots : List ℕ} (filled : Filled key_in ws mine i n slots) where
  stands-more : {w : ℕ} → Stands ws i w → Stands ws (i + 1) w
  stands-more s = record { place = s.place; before = omega (arith, s.before); same = s.same; low = s.low }

  -- the pair at i is passed over
  pub filled-skip : mine i ≡ false → Filled key_in ws mine (i + 1) n slots
  filled-skip e =
      record {
        kept = filled.kept;
        left = filled.left;
        has = below_more (λ (j : ℕ). mine j ≡ true → Holds key_in slots (word_at ws j)) i filled.has (λ t. never t e);
        of-pairs = λ x u. stands-more (filled.of-pairs x u);
      }

  -- the pair at i is stored
  module _ {word : ℕ} {after : List ℕ} (new : Stored key_in (word_at ws i) (home_of (length slots) (word_at ws i)) word slots after) where
    pub stored-first : Keyed ws mine → mine i ≡ true → rank_at true i ws ≤ 1
    stored-first keyed t =
        rank-one true ws i
        (λ j l e. let h = filled.has j l (sym (keyed i j e) ∙ t) in absent filled.kept new.passed new.empty h.slot h.used (h.there ∙ same_word ws i j e))

    pub filled_more : (word ≡ 0 → ⊥) → key_in word ≡ word_at ws i → nat_abs (member_at i ws) < 4294967296 → Filled key_in ws mine (i + 1) (n + 1) after
    filled_more some k m = subst (Filled key_in ws mine (i + 1) (n + 1)) (sym new.stored) more
      where
        q : ℕ
        q = new.slot

        within : q < length slots
        within = new.passed.reached.within

        still : {w : ℕ} → Holds key_in slots w → Holds key_in (set slots q word) w
        still h =
            let s = has-still slots q word within some new.empty (record { slot = h.slot; used = h.used; there = refl }) in
            record { slot = s.slot; used = s.used; there = ap key_in s.there ∙ h.there }

        own : Holds key_in (set slots q word) (word_at ws i)
        own = let s = has_new slots q word within some in record { slot = s.slot; used = s.used; there = ap key_in s.there ∙ k }

        reached : Reached (home_of (length slots) (key_in word)) slots q
        reached = rw k new.passed.reached

        more : Filled key_in ws mine (i + 1) (n + 1) (set slots q word)
        more =
            record {
              kept = subst (λ (size : ℕ). Kept key_in (home_of size) (set slots q word)) (sym (length-set slots q word)) (kept_put filled.kept reached some);
              left = omega (arith, room-put slots q word within new.empty some, length-set slots q word, filled.left);
              has = below_more (λ (j : ℕ). mine j ≡ true → Holds key_in (set slots q word) (word_at ws j)) i (λ j l t. still (filled.has j l t)) (λ t. own);
              of-pairs = λ x u. by-set slots q word x within
                  (λ a z. record { place = i; before = omega arith; same = ap key_in z ∙ k; low = m })
                  (λ a z. let s = stands-more (filled.of-pairs x (λ o. u (z ∙ o))) in record { place = s.place; before = s.before; same = ap key_in z ∙ s.same; low = s.low });
            }

  -- the pair at i stands in a slot
  pub held-twice : ((j : ℕ) → j ≤ i → numbers_at ws j ≡ true) → nat_abs (member_at i ws) < 4294967296 → Holds key_in slots (word_at ws i) → 1 < rank_at true i ws
  held-twice e m h =
      let s = filled.of-pairs h.slot h.used in
      rank-two ws i s.place s.before
      (word_same ws i s.place (e i (omega arith)) (e s.place (omega (arith, s.before))) m s.low (sym h.there ∙ s.same))
