-- What the bits of the pairs inserted and the marks of the suspected ones say.
use Prim.Native.Nat.{ℕ, ◌+◌, ◌*◌, ◌/◌, ◌%◌, ◌≤◌, ◌<◌, zero-le, max}
use mathlib.Core.Path.{◌≡◌, refl, sym, ◌∙◌, ap, subst}
use mathlib.Core.Bool.{Bool, true, false}
use mathlib.Core.List.{List}
use mathlib.Core.Logic.{inl, inr, ⊎_elim}
use native.Mathlib.Nat.{le_trans, le_of_eq, add-le-add, mul-le-mul_right, min-le_left, min-le_right, le-min, le-max_left, max-le}
use native.Mathlib.Omega.{arith}
use borrow.Author.Tests.{eq-eqb, eqb-true, eqb-false, ltb-true, ltb-false}
use lib.Arith.{bin_ind}
use lib.Bits.{bit_and, bit_or, and_step, or_step, and_self, and_le_r, or_comm}
use lib.Dec.{eqb, ltb}
use lib.IntN.{ℤ}
use lib.ListN.{length, get_or, set, replicate, length-set, length-replicate}
use lib.Seq.{get_or-set_same, get_or-set_other, set_out}
use Rattle.laws.specs.Tests.{never}
use Rattle.table_keys.specs.Keys.{same_at, rank_at}
use Rattle.table_hash.specs.Hashes.{hash_at, class_of, class_at, bucket, mask_of, mark_of, bucket_at, mask_at, mark_at}
use Rattle.table_filter.specs.Filter.{covers, join, Has, suspected, OfClass, Cleared, Inserted}
use Rattle.table_keys.proofs.Each.{below_next}
use Rattle.table_keys.proofs.Ranks.{rank-one}
use Rattle.table_hash.proofs.Hashing.{hash-key, class-key, bucket-below}

-- ---- bits

-- Bits that are set stay set.
and-grows : (w c m : ℕ) → bit_and w m ≤ bit_and (bit_or w c) m
and-grows w = bin_ind (λ (n : ℕ). (c m : ℕ) → bit_and n m ≤ bit_and (bit_or n c) m) (λ c m. zero-le) digit w
  where
    digit : (n : ℕ) → ((c m : ℕ) → bit_and (n / 2) m ≤ bit_and (bit_or (n / 2) c) m) → (c m : ℕ) → bit_and n m ≤ bit_and (bit_or n c) m
    digit n ih c m = grow (bit_or n c) (bit_or (n / 2) (c / 2)) (max (n % 2) (c % 2)) (or_step n c) (le-max_left (n % 2) (c % 2)) (max-le {k = 1} (omega arith) (omega arith)) (ih (c / 2) (m / 2))
      where
        grow : (u x d : ℕ) → u ≡ x * 2 + d → n % 2 ≤ d → d ≤ 1 → bit_and (n / 2) (m / 2) ≤ bit_and x (m / 2) → bit_and n m ≤ bit_and u m
        grow u x d e l h i =
            let half : x ≡ u / 2 = omega arith in
            let odd : n % 2 ≤ u % 2 = omega arith in
            le_trans (le_of_eq (and_step n m))
            (le_trans
            (add-le-add (mul-le-mul_right 2 (subst (λ (y : ℕ). bit_and (n / 2) (m / 2) ≤ bit_and y (m / 2)) half i)) (le-min (le_trans (min-le_left (n % 2) (m % 2)) odd) (min-le_right (n % 2) (m % 2))))
            (le_of_eq (sym (and_step u m))))

covers_more : (w c m : ℕ) → covers w m ≡ true → covers (join w c) m ≡ true
covers_more w c m e =
    let old : bit_and w m ≡ m = eqb-true (bit_and w m) m e in
    eq-eqb (bit_and (bit_or w c) m) m (omega (arith, and-grows w c m, and_le_r (bit_or w c) m))

covers-own : (w m : ℕ) → covers (join w m) m ≡ true
covers-own w m =
    let up : bit_and m m ≤ bit_and (bit_or w m) m = subst (λ (u : ℕ). bit_and m m ≤ bit_and u m) (or_comm m w) (and-grows m w m) in
    eq-eqb (bit_and (bit_or w m) m) m (omega (arith, and_self m, and_le_r (bit_or w m) m))

-- ---- words

abbrev pub put_in : List ℕ → ℕ → ℕ → List ℕ
put_in bits p mask = set bits p (join (get_or bits p 0) mask)

pub has_more : (bits : List ℕ) (p c q m : ℕ) → Has bits q m → Has (put_in bits p c) q m
has_more bits p c q m h = go (ltb p (length bits)) refl (eqb q p) refl
  where
    go : (b : Bool) → ltb p (length bits) ≡ b → (d : Bool) → eqb q p ≡ d → Has (put_in bits p c) q m
    go true l true d =
        let z : q ≡ p = eqb-true q p d in
        subst (λ (x : ℕ). covers (get_or (put_in bits p c) x 0) m ≡ true) (sym z)
        (subst (λ (x : ℕ). covers x m ≡ true) (sym (get_or-set_same bits p (join (get_or bits p 0) c) 0 (ltb-true p (length bits) l)))
        (covers_more (get_or bits p 0) c m (subst (λ (x : ℕ). covers (get_or bits x 0) m ≡ true) z h)))
    go false l d f = subst (λ (x : List ℕ). Has x q m) (sym (set_out bits p (join (get_or bits p 0) c) (ltb-false p (length bits) l))) h
    go true l false d = subst (λ (x : ℕ). covers x m ≡ true) (sym (get_or-set_other bits p q (join (get_or bits p 0) c) 0 (eqb-false q p d))) h

pub has-own : (bits : List ℕ) (p m : ℕ) → p < length bits → Has (put_in bits p m) p m
has-own bits p m l = subst (λ (x : ℕ). covers x m ≡ true) (sym (get_or-set_same bits p (join (get_or bits p 0) m) 0 l)) (covers-own (get_or bits p 0) m)

-- ---- marks

module _ (whole : Bool) (ws : List ℤ) where
  pub suspected-key : (marks : List ℕ) (i j : ℕ) → same_at whole ws i j ≡ true → suspected whole ws marks i ≡ suspected whole ws marks j
  unfolding suspected
  suspected-key marks i j e = ap (λ (h : ℕ). covers (get_or marks (mark_of h) 0) (mask_of h)) (hash-key whole ws i j e)

  -- what was set among the marks stays set
  pub suspected-more : (marks : List ℕ) (p c j : ℕ) → suspected whole ws marks j ≡ true → suspected whole ws (put_in marks p c) j ≡ true
  unfolding suspected
  suspected-more marks p c j = has_more marks p c (mark_at whole ws j) (mask_at whole ws j)

  pub suspected-own : (marks : List ℕ) (i : ℕ) → mark_at whole ws i < length marks → suspected whole ws (put_in marks (mark_at whole ws i) (mask_at whole ws i)) i ≡ true
  unfolding suspected
  suspected-own marks i = has-own marks (mark_at whole ws i) (mask_at whole ws i)

  pub insert-start : (classes class : ℕ) (marks : List ℕ) → length marks ≡ 4096 → Inserted whole ws classes class 0 (replicate 28161 0) marks
  insert-start classes class marks h =
      record {
        seen-words = length-replicate {A = ℕ} 28161 0;
        mark-words = h;
        inserted = λ j l. absurd (omega arith);
        cleared = λ j l. absurd (omega arith);
      }

-- ---- one pair more is inserted

module _ {whole : Bool} {ws : List ℤ} {classes class i : ℕ} {seen marks : List ℕ} (done : Inserted whole ws classes class i seen marks) where
  abbrev Mine : ℕ → Type 0
  Mine = OfClass whole ws classes class

  -- a bit is clear: no pair before has the key
  pub fresh : Mine i → covers (get_or seen (bucket_at 28160 whole ws i) 0) (mask_at whole ws i) ≡ false → rank_at whole i ws ≤ 1
  fresh m h =
      rank-one whole ws i
      (λ j l e. never (subst (λ (x : ℕ). Has seen (bucket 28160 x) (mask_of x)) (sym (hash-key whole ws i j e)) (done.inserted j l (sym (class-key whole ws classes i j e) ∙ m))) h)

  abbrev pub Grown : List ℕ → Type 0
  Grown after = (length after ≡ 4096) × ((j : ℕ) → suspected whole ws marks j ≡ true → suspected whole ws after j ≡ true)

  pub grown-same : Grown marks
  grown-same = (done.mark-words, λ j s. s)

  pub grown-put : (p c : ℕ) → Grown (put_in marks p c)
  grown-put p c = (length-set marks p _ ∙ done.mark-words, suspected-more whole ws marks p c)

  still : (after : List ℕ) → Grown after → (j : ℕ) → Cleared whole ws 1 marks j → Cleared whole ws 1 after j
  still after g j = ⊎_elim inl (λ s. inr (g.1 j s))

  -- a pair of another class
  pub insert-skip : (p c : ℕ) (after : List ℕ) → Grown after → (Mine i → ⊥) → Inserted whole ws classes class (i + 1) (put_in seen p c) after
  insert-skip p c after g h =
      record {
        seen-words = length-set seen p _ ∙ done.seen-words;
        mark-words = g.0;
        inserted = λ j l m. below_next j i (λ k. has_more seen p c (bucket_at 28160 whole ws j) (mask_at whole ws j) (done.inserted j k m)) (λ z. absurd (h (subst Mine z m))) l;
        cleared = λ j l m. below_next j i (λ k. still after g j (done.cleared j k m)) (λ z. absurd (h (subst Mine z m))) l;
      }

  pub insert-next :
      (after : List ℕ) → Grown after → Cleared whole ws 1 after i → Inserted whole ws classes class (i + 1) (put_in seen (bucket_at 28160 whole ws i) (mask_at whole ws i)) after
  insert-next after g t =
      let q = bucket_at 28160 whole ws i in
      let mask = mask_at whole ws i in
      record {
        seen-words = length-set seen q _ ∙ done.seen-words;
        mark-words = g.0;
        inserted = λ j l m. below_next j i (λ k. has_more seen q mask (bucket_at 28160 whole ws j) (mask_at whole ws j) (done.inserted j k m))
            (λ z. subst (λ (x : ℕ). Has (put_in seen q mask) (bucket_at 28160 whole ws x) (mask_at whole ws x)) (sym z)
            (has-own seen q mask (omega (arith, done.seen-words, bucket-below 28160 (hash_at whole ws i) (omega arith))))) l;
        cleared = λ j l m. below_next j i (λ k. still after g j (done.cleared j k m)) (λ z. subst (Cleared whole ws 1 after) (sym z) t) l;
      }

  -- a pair of the class sets its own bits, one of another class any
  pub insert-either :
      (after : List ℕ) {q m : ℕ} → Grown after → (Mine i → (q ≡ bucket_at 28160 whole ws i) × (m ≡ mask_at whole ws i)) →
      (Mine i → Cleared whole ws 1 after i) → Inserted whole ws classes class (i + 1) (put_in seen q m) after
  insert-either after {q} {m} g e t = go (eqb (class_at whole ws classes i) class) refl
    where
      go : (b : Bool) → eqb (class_at whole ws classes i) class ≡ b → Inserted whole ws classes class (i + 1) (put_in seen q m) after
      go true z =
          let own = eqb-true (class_at whole ws classes i) class z in
          subst (λ (T : Type 0). T) (λ j. Inserted whole ws classes class (i + 1) (put_in seen (sym (e own).0 j) (sym (e own).1 j)) after) (insert-next after g (t own))
      go false z = insert-skip q m after g (eqb-false (class_at whole ws classes i) class z)

-- the class that the code has, by the hash that it has
pub own-class :
    (whole : Bool) (ws : List ℤ) (classes class i : ℕ) {h c : ℕ} → h ≡ hash_at whole ws i → c ≡ class_of classes h → OfClass whole ws classes class i →
    eqb c class ≡ true
unfolding class_at
own-class whole ws classes class i {h} {c} hashed classed m = eq-eqb c class (classed ∙ ap (class_of classes) hashed ∙ m)
