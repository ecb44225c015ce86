-- What the bits and the marks say as pairs are inserted.
use Prim.Native.Nat.{ℕ, ◌+◌, ◌≤◌, ◌<◌}
use mathlib.Core.Path.{◌≡◌, sym, ◌∙◌, ap, subst}
use mathlib.Core.Bool.{Bool, true}
use mathlib.Core.List.{List}
use mathlib.Core.Logic.{inl, inr, ⊎_elim}
use native.Mathlib.Omega.{arith}
use borrow.Author.Count.{below_more}
use borrow.Author.Tests.{eqb-true}
use lib.Bits.{bit_and, or_add_and}
use lib.IntN.{ℤ}
use lib.ListN.{length, get_or, replicate, length-set, length-replicate}
use Rattle.table_keys.specs.Keys.{same_at, rank_at}
use Rattle.table_keys.proofs.Ranks.{rank-one}
use Rattle.table_filter.specs.Filter.{covers, join, Has}
use Rattle.table_filter.proofs.Filters.{has_more, has-own}
use Rattle.table_distinct.specs.Slots.{word_at, hash_of, Keyed}
use Rattle.table_distinct.proofs.Words.{same_word}
use Rattle.table_sieve.specs.Sieve.{cell_of, mask_of, mark_of, bit_of, set_in, hash_at, marked, Known, Sieved}

-- bits that are set change nothing
pub joined_same : (w m : ℕ) → covers w m ≡ true → join w m ≡ w
joined_same w m e = let z : bit_and w m ≡ m = eqb-true (bit_and w m) m e in omega (arith, or_add_and w m)

pub hash-same : (ws : List ℤ) (i j : ℕ) → same_at true ws i j ≡ true → hash_at ws i ≡ hash_at ws j
unfolding hash_at
hash-same ws i j e = ap hash_of (sym (same_word ws i j e))

pub marked-same : (ws : List ℤ) (marks : List ℕ) → Keyed ws (marked ws marks)
unfolding marked
marked-same ws marks i j e = ap (λ (h : ℕ). covers (get_or marks (mark_of h) 0) (bit_of h)) (hash-same ws i j e)

-- what the code has of a pair's mark, by the hash that it has
pub marked-is :
    (ws : List ℤ) (marks : List ℕ) (i : ℕ) {h : ℕ} {b : Bool} → h ≡ hash_of (word_at ws i) → b ≡ covers (get_or marks (mark_of h) 0) (bit_of h) → b ≡ marked ws marks i
unfolding marked hash_at
marked-is ws marks i e f = f ∙ ap (λ (h : ℕ). covers (get_or marks (mark_of h) 0) (bit_of h)) e

pub hash-is : (ws : List ℤ) (i : ℕ) {h : ℕ} → h ≡ hash_of (word_at ws i) → h ≡ hash_at ws i
unfolding hash_at
hash-is ws i e = e

pub sieved-none : (ws : List ℤ) (marks : List ℕ) → length marks ≡ 12288 → Sieved ws 0 (replicate 32768 0) marks
sieved-none ws marks h =
    record {
      seen-words = length-replicate {A = ℕ} 32768 0;
      mark-words = h;
      inserted = λ j l. absurd (omega arith);
      known = λ j l. absurd (omega arith);
    }

module _ {ws : List ℤ} {i : ℕ} {seen marks : List ℕ} (done : Sieved ws i seen marks) where
  -- a bit is clear: the pair stands nowhere before
  pub fresh : (Has seen (cell_of (hash_at ws i)) (mask_of (hash_at ws i)) → ⊥) → rank_at true i ws ≤ 1
  fresh n =
      rank-one true ws i (λ j l e. n (subst (λ (h : ℕ). Has seen (cell_of h) (mask_of h)) (sym (hash-same ws i j e)) (done.inserted j l)))

  inserted-more : (j : ℕ) → j < i + 1 → Has (set_in seen (cell_of (hash_at ws i)) (mask_of (hash_at ws i))) (cell_of (hash_at ws j)) (mask_of (hash_at ws j))
  inserted-more =
      let q = cell_of (hash_at ws i) in
      let mask = mask_of (hash_at ws i) in
      below_more (λ (j : ℕ). Has (set_in seen q mask) (cell_of (hash_at ws j)) (mask_of (hash_at ws j))) i
      (λ j l. has_more seen q mask (cell_of (hash_at ws j)) (mask_of (hash_at ws j)) (done.inserted j l))
      (has-own seen q mask (omega (arith, done.seen-words)))

  -- the pair is new
  pub sieved-new : rank_at true i ws ≤ 1 → Sieved ws (i + 1) (set_in seen (cell_of (hash_at ws i)) (mask_of (hash_at ws i))) marks
  sieved-new r =
      record {
        seen-words = length-set seen _ _ ∙ done.seen-words;
        mark-words = done.mark-words;
        inserted = inserted-more;
        known = below_more (Known ws marks) i done.known (inl r);
      }

  -- the pair is suspected, and marked
  marked_more : (j : ℕ) → Known ws marks j → Known ws (set_in marks (mark_of (hash_at ws i)) (bit_of (hash_at ws i))) j
  unfolding marked
  marked_more j = ⊎_elim inl (λ m. inr (has_more marks (mark_of (hash_at ws i)) (bit_of (hash_at ws i)) (mark_of (hash_at ws j)) (bit_of (hash_at ws j)) m))

  marked-own : marked ws (set_in marks (mark_of (hash_at ws i)) (bit_of (hash_at ws i))) i ≡ true
  unfolding marked
  marked-own = has-own marks (mark_of (hash_at ws i)) (bit_of (hash_at ws i)) (omega (arith, done.mark-words))

  pub sieved-suspected : Sieved ws (i + 1) (set_in seen (cell_of (hash_at ws i)) (mask_of (hash_at ws i))) (set_in marks (mark_of (hash_at ws i)) (bit_of (hash_at ws i)))
  sieved-suspected =
      record {
        seen-words = length-set seen _ _ ∙ done.seen-words;
        mark-words = length-set marks _ _ ∙ done.mark-words;
        inserted = inserted-more;
        known = below_more (Known ws (set_in marks (mark_of (hash_at ws i)) (bit_of (hash_at ws i)))) i (λ j l. marked_more j (done.known j l)) (inr marked-own);
      }
