-- What `list_right` says of a lent list. `list-means`, `list-holds`: the words needed are places that the table's count gives, and zeros. So the list
-- by its properties and the computed one agree (`right-is-computed`), only one list is right (`one_right`), and of every number, group or not, the
-- list says what a full count says (`reads-count`).
use Prim.Native.Nat.{ℕ, zero, suc, ◌+◌, ◌*◌, ◌-◌, ◌/◌, ◌≤◌, ◌<◌}
use native.Mathlib.Omega.{arith}
use Rattle.std.specs.Prelude.{Bool, ◌&&◌, ◌||◌, ◌⊎◌, ◌↔◌, eqb, ltb, ℤ, negsuc, drop, replicate}
use Rattle.std.proofs.Math.Bool.{true, false, not, and-eq-true_iff, or-eq-true_iff}
use mathlib.Core.List.{List, [], ◌∷◌, ◌++◌, map}
use Rattle.std.proofs.Math.Logic.{inl}
use Rattle.std.proofs.Common.{inr, sym, ◌∙◌, length-append, length-drop, take_at}
use Rattle.std.proofs.Math.Path.{◌≡◌, refl, ap, ap₂, subst}
use borrow.Author.Tests.{eq-eqb, ne_eqb, eqb-true, eqb-false, lt-ltb, ltb-true, le-leb, not-true, not-false}
use Rattle.std.proofs.Math.IntN.{pos}
use Rattle.std.proofs.Math.ListN.{length, take, length-map, length-take}
use Rattle.std.proofs.lemmas.List.{length-replicate}
use Rattle.std.proofs.Math.Seq.{drop_at}
use Rattle.std.specs.Int.Signed.{lt_z}
use Rattle.language.specs.Basics.{eq_z}
use Rattle.language.specs.Table.{Table, members, size, at_least_one, numbers_right}
use Rattle.language.specs.Groups.{list_words, in_use, all_above, groups_rise, none_empty, none_in_use, unused_last, numbers_true, number_of, groups_there, list_right, tallied, filled, group_list, relisted}
use Rattle.laws.specs.Tests.{split, both, eq_z-true, ne-eq_z, eq_z-refl}
use Rattle.laws.specs.Lists.{twice-suc}
use Rattle.laws.specs.Tables.{group_at, group_at-suc}
use Rattle.table_laws.specs.Pairs.{members-where}
use Rattle.table_laws.specs.Rightness.{numbers-means}
use Rattle.table_laws.specs.Places.{Rises, Tallies, number_in, number-there, number-elsewhere, tallies-rise, number-below, tallies-number, tallies-by, one_list, by_order}
use Rattle.table_laws.specs.Tallied.{natural, counting, Placed, tallied-places}

and : (a b : Bool) → a ≡ true → b ≡ true → a && b ≡ true
and a b p q = (and-eq-true_iff a b).1 (p, q)

or_left : (a b : Bool) → a ≡ true → a || b ≡ true
or_left a b p = rw p

or_right : (a b : Bool) → b ≡ true → a || b ≡ true
or_right true b p = refl
or_right false b p = p

-- of two, where the first does not hold
other : (a b : Bool) → not a || b ≡ true → a ≡ true → b ≡ true
other true b e p = e
other false b e p = let z : ◌≡◌ {A = ℕ} 0 1 = cc in absurd (omega arith)

-- The places in use, and zeros

abbrev none : ℕ → List ℤ
none k = replicate k (pos 0)

unused : in_use (pos 0) (pos 0) ≡ false
unfolding in_use eq_z
unused = refl

used : (a n : ℕ) → 0 < a → in_use (pos a) (pos n) ≡ true
unfolding in_use eq_z
used a n h = ap (λ (b : Bool). not (b && eqb n 0)) (ne_eqb a 0 (λ e. omega arith))

none_above : (g : ℤ) (k : ℕ) → all_above g (none k) ≡ true
unfolding all_above in_use eq_z
none_above g zero = refl
none_above g (suc zero) = refl
none_above g (suc (suc k)) = none_above g k

none-rise : (k : ℕ) → groups_rise (none k) ≡ true
unfolding groups_rise in_use eq_z
none-rise zero = refl
none-rise (suc zero) = refl
none-rise (suc (suc k)) = none-rise k

none-empty : (k : ℕ) → none_empty (none k) ≡ true
unfolding none_empty in_use eq_z
none-empty zero = refl
none-empty (suc zero) = refl
none-empty (suc (suc k)) = none-empty k

none-used : (k : ℕ) → none_in_use (none k) ≡ true
unfolding none_in_use in_use eq_z
none-used zero = refl
none-used (suc zero) = refl
none-used (suc (suc k)) = none-used k

none_last : (k : ℕ) → unused_last (none k) ≡ true
unfolding unused_last in_use eq_z
none_last zero = refl
none_last (suc zero) = refl
none_last (suc (suc k)) = and (none_in_use (none k)) (unused_last (none k)) (none-used k) (none_last k)

none_true : (t : Table) → size (pos 0) t ≡ 0 → (k : ℕ) → numbers_true t (none k) ≡ true
unfolding numbers_true
none_true t z zero = refl
none_true t z (suc zero) = refl
none_true t z (suc (suc k)) = and (eq_z (pos 0) (pos (size (pos 0) t))) (numbers_true t (none k)) (ap (λ (n : ℕ). eq_z (pos 0) (pos n)) z ∙ eq_z-refl (pos 0)) (none_true t z k)

none_number : (g : ℤ) (k : ℕ) → number_of g (none k) ≡ pos 0
unfolding number_of
none_number g zero = refl
none_number g (suc zero) = refl
none_number g (suc (suc k)) = go (eq_z (pos 0) g) (none_number g k)
  where
    go : (s : Bool) {z : ℤ} → z ≡ pos 0 → elim s as (λ x. ℤ) [ true ↦ pos 0 | false ↦ z ] ≡ pos 0
    go true e = refl
    go false e = e

-- places in words, and so many zeros after them
abbrev pub placed : List ℕ → ℕ → List ℤ
placed ps k = map pos ps ++ none k

placed-above : (g : ℕ) (ps : List ℕ) (k : ℕ) → Rises g ps → all_above (pos g) (placed ps k) ≡ true
unfolding all_above
placed-above g [] k r = none_above (pos g) k
placed-above g (a ∷ []) k r = absurd r
placed-above g (a ∷ n ∷ ps) k r =
    and (not (in_use (pos a) (pos n)) || ltb g a) (all_above (pos g) (placed ps k)) (or_right (not (in_use (pos a) (pos n))) (ltb g a) (lt-ltb g a r.0))
    (placed-above g ps k (lower ps r.1.1))
  where
    lower : (qs : List ℕ) → Rises a qs → Rises g qs
    lower [] s = tt
    lower (b ∷ []) s = absurd s
    lower (b ∷ m ∷ qs) s = (omega (arith, s.0, r.0), s.1)

placed-rise : (lo : ℕ) (ps : List ℕ) (k : ℕ) → Rises lo ps → groups_rise (placed ps k) ≡ true
unfolding groups_rise
placed-rise lo [] k r = none-rise k
placed-rise lo (a ∷ []) k r = absurd r
placed-rise lo (a ∷ n ∷ ps) k r =
    and (not (in_use (pos a) (pos n)) || all_above (pos a) (placed ps k)) (groups_rise (placed ps k))
    (or_right (not (in_use (pos a) (pos n))) (all_above (pos a) (placed ps k)) (placed-above a ps k r.1.1)) (placed-rise a ps k r.1.1)

placed-empty : (lo : ℕ) (ps : List ℕ) (k : ℕ) → Rises lo ps → none_empty (placed ps k) ≡ true
unfolding none_empty eq_z
placed-empty lo [] k r = none-empty k
placed-empty lo (a ∷ []) k r = absurd r
placed-empty lo (a ∷ n ∷ ps) k r =
    and (not (in_use (pos a) (pos n)) || not (eqb n 0)) (none_empty (placed ps k))
    (or_right (not (in_use (pos a) (pos n))) (not (eqb n 0)) (ap not (ne_eqb n 0 (λ e. omega (arith, r.1.0))))) (placed-empty a ps k r.1.1)

placed-last : (lo : ℕ) (ps : List ℕ) (k : ℕ) → Rises lo ps → unused_last (placed ps k) ≡ true
unfolding unused_last
placed-last lo [] k r = none_last k
placed-last lo (a ∷ []) k r = absurd r
placed-last lo (a ∷ n ∷ ps) k r =
    and (in_use (pos a) (pos n) || none_in_use (placed ps k)) (unused_last (placed ps k))
    (or_left (in_use (pos a) (pos n)) (none_in_use (placed ps k)) (used a n (omega (arith, r.0)))) (placed-last a ps k r.1.1)

pub placed-number : (g : ℕ) (ps : List ℕ) (k : ℕ) → (lo : ℕ) → Rises lo ps → number_of (pos g) (placed ps k) ≡ pos (number_in g ps)
unfolding number_of number_in eq_z
placed-number g [] k lo r = none_number (pos g) k
placed-number g (a ∷ []) k lo r = absurd r
placed-number g (a ∷ n ∷ ps) k lo r = go (eqb a g) (placed-number g ps k a r.1.1)
  where
    go : (s : Bool) {z : ℤ} {m : ℕ} → z ≡ pos m → elim s as (λ x. ℤ) [ true ↦ pos n | false ↦ z ] ≡ pos (elim s as (λ x. ℕ) [ true ↦ n | false ↦ m ])
    go true e = refl
    go false e = e

placed-none : (n : ℕ) (ps : List ℕ) (k : ℕ) → number_of (negsuc n) (placed ps k) ≡ pos 0
unfolding number_of eq_z
placed-none n [] k = none_number (negsuc n) k
placed-none n (a ∷ []) zero = refl
placed-none n (a ∷ []) (suc k) = odd k
  where
    odd : (j : ℕ) → number_of (negsuc n) (none j) ≡ pos 0
    odd j = none_number (negsuc n) j
placed-none n (a ∷ b ∷ ps) k = placed-none n ps k

-- The table's side

module _ (t : Table) (fits : 2 * t.used ≤ length t.words) (numbers : numbers_right t.used t.words ≡ true) where
  abbrev sizes : ℕ → ℕ
  sizes g = size (pos g) t

  -- a group that has members is a pair's, and so is at least 1
  pub member-natural : (z : ℤ) → 1 ≤ size z t → (n : ℕ) × (z ≡ pos (suc n))
  unfolding size
  member-natural z h = go (members-where z t.used t.words fits)
    where
      go : (members z t.used t.words ≡ 0) ⊎ ((i : ℕ) × (i < t.used) × (group_at i t.words ≡ z)) → (n : ℕ) × (z ≡ pos (suc n))
      go (inl e) = absurd (omega arith)
      go (inr p) = natural z (ap at_least_one (sym p.2) ∙ (numbers-means t.used t.words fits numbers p.0 p.1).0)

  pub no-group : (z : ℤ) → (at_least_one z ≡ false) → size z t ≡ 0
  unfolding at_least_one
  no-group z e = go (size z t) refl
    where
      go : (k : ℕ) → size z t ≡ k → size z t ≡ 0
      go zero q = q
      go (suc k) q =
          let n = member-natural z (omega (arith, q)) in
          let one : at_least_one z ≡ true = ap at_least_one n.1 ∙ le-leb 1 (suc n.0) (omega arith) in
          let c : ◌≡◌ {A = ℕ} 0 1 = cc in
          absurd (omega arith)

  -- the places that the count gives
  pub tallied-of : Placed t.used t.words
  tallied-of = tallied-places t.used t.words fits numbers

  sizes-counted : (ps : List ℕ) → Tallies 0 (counting t.used t.words) ps → Tallies 0 sizes ps
  unfolding size
  sizes-counted ps h = h

  -- From places that the count gives to the properties

  true-numbers : (lo : ℕ) (ps : List ℕ) (k : ℕ) → Tallies lo sizes ps → numbers_true t (placed ps k) ≡ true
  unfolding numbers_true eq_z at_least_one
  true-numbers lo [] k h = none_true t (no-group (pos 0) refl) k
  true-numbers lo (a ∷ []) k h = absurd h
  true-numbers lo (a ∷ n ∷ ps) k h =
      and (eqb n (sizes a)) (numbers_true t (placed ps k)) (eq-eqb n (sizes a) h.1.1.0) (true-numbers a ps k h.1.1.1.1)

  there : (k : ℕ) (ws : List ℤ) → 2 * k ≤ length ws → numbers_right k ws ≡ true → (l : List ℤ) → ((g : ℕ) → 0 < g → number_of (pos g) l ≡ pos (sizes g)) → groups_there t k ws l ≡ true
  unfolding groups_there numbers_right
  there zero ws f e l h = refl
  there (suc k) [] f e l h = refl
  there (suc k) (a ∷ []) f e l h = refl
  there (suc k) (a ∷ b ∷ ws) f e l h =
      let ones = both (at_least_one a && at_least_one b) (numbers_right k ws) e in
      let n = natural a (both (at_least_one a) (at_least_one b) ones.0).0 in
      let q : number_of a l ≡ pos (size a t) = subst (λ (z : ℤ). number_of z l ≡ pos (size z t)) (sym n.1) (h (suc n.0) (omega arith)) in
      and (eq_z (number_of a l) (pos (size a t))) (groups_there t k ws l) (ap (λ (z : ℤ). eq_z z (pos (size a t))) q ∙ eq_z-refl (pos (size a t)))
      (there k ws (omega arith) ones.1 l h)

  placed-right : (ps : List ℕ) (k : ℕ) → Tallies 0 sizes ps → (l : List ℤ) → l ≡ placed ps k
      → groups_rise l && none_empty l && unused_last l && numbers_true t l && groups_there t t.used t.words l ≡ true
  placed-right ps k h l e =
      let r = tallies-rise 0 sizes ps h in
      let at : (g : ℕ) → 0 < g → number_of (pos g) (placed ps k) ≡ pos (sizes g) = λ g o. placed-number g ps k 0 r ∙ ap pos (tallies-number 0 sizes ps h g o) in
      subst (λ (x : List ℤ). groups_rise x && none_empty x && unused_last x && numbers_true t x && groups_there t t.used t.words x ≡ true) (sym e)
      (and (groups_rise (placed ps k) && none_empty (placed ps k) && unused_last (placed ps k) && numbers_true t (placed ps k)) (groups_there t t.used t.words (placed ps k))
      (and (groups_rise (placed ps k) && none_empty (placed ps k) && unused_last (placed ps k)) (numbers_true t (placed ps k))
      (and (groups_rise (placed ps k) && none_empty (placed ps k)) (unused_last (placed ps k))
      (and (groups_rise (placed ps k)) (none_empty (placed ps k)) (placed-rise 0 ps k r) (placed-empty 0 ps k r)) (placed-last 0 ps k r))
      (true-numbers 0 ps k h)) (there t.used t.words fits numbers (placed ps k) at))

  -- From the properties to places

  nothing : (l : List ℤ) → none_in_use l ≡ true → (k : ℕ) → length l ≡ 2 * k → l ≡ none (2 * k)
  unfolding none_in_use in_use
  nothing [] e zero q = refl
  nothing [] e (suc k) q = absurd (omega arith)
  nothing (a ∷ []) e k q = absurd (odd k q)
    where
      odd : (k : ℕ) → 1 ≡ 2 * k → ⊥
      odd k q = omega arith
  nothing (a ∷ n ∷ l) e zero q = absurd (omega arith)
  nothing (a ∷ n ∷ l) e (suc k) q =
      let p = both (not (not (eq_z a (pos 0) && eq_z n (pos 0)))) (none_in_use l) e in
      let z = both (eq_z a (pos 0)) (eq_z n (pos 0)) (twice (eq_z a (pos 0) && eq_z n (pos 0)) p.0) in
      let rest = nothing l p.1 k (omega arith) in
      let x = eq_z-true a (pos 0) z.0 in
      let y = eq_z-true n (pos 0) z.1 in
      (λ i. x i ∷ y i ∷ rest i) ∙ ap none (sym (twice-suc k))
    where
      twice : (b : Bool) → not (not b) ≡ true → b ≡ true
      twice true h = refl
      twice false h = h

  -- places, each with a true number, and zeros
  record Found (lo k : ℕ) (l : List ℤ) : Type 0 where
    places : List ℕ
    rises : Rises lo places
    within : length places ≤ 2 * k
    true-there : (g : ℕ) → (number_in g places ≡ 0) ⊎ (number_in g places ≡ sizes g)
    are : l ≡ placed places (2 * k - length places)

  found_none : (lo k : ℕ) (l : List ℤ) → l ≡ none (2 * k) → Found lo k l
  unfolding number_in
  found_none lo k l e =
      let m : 2 * k ≡ 2 * k - 0 = omega arith in
      record { places = []; rises = tt; within = omega arith; true-there = λ g. inl refl; are = e ∙ ap none m }

  found-more : (lo k : ℕ) (a n : ℤ) (l : List ℤ) → lt_z (pos lo) a ≡ true → 1 ≤ size a t → n ≡ pos (size a t)
      → ((b : ℕ) → a ≡ pos b → Found b k l) → Found lo (suc k) (a ∷ n ∷ l)
  found-more lo k a n l above some is rest =
      let b = member-natural a some in
      subst (λ (z : ℤ). Found lo (suc k) (z ∷ n ∷ l)) (sym b.1)
      (with-place (suc b.0) (ltb-true lo (suc b.0) (ap (lt_z (pos lo)) (sym b.1) ∙ above)) (is ∙ ap (λ (z : ℤ). pos (size z t)) b.1) (omega (arith, some, ap (λ (z : ℤ). size z t) b.1)) (rest (suc b.0) b.1))
    where
      with-place : (b : ℕ) → lo < b → n ≡ pos (sizes b) → 1 ≤ sizes b → Found b k l → Found lo (suc k) (pos b ∷ n ∷ l)
      with-place b low q one f =
          record {
            places = b ∷ sizes b ∷ f.places;
            rises = (low, (one, f.rises));
            within = omega (arith, f.within);
            true-there = λ g. by_order b g (λ h. go g (λ e. omega arith)) (λ e. inr (number-there g b (sizes b) f.places e ∙ ap sizes e)) (λ h. go g (λ e. omega arith));
            are = λ i. pos b ∷ q i ∷ (f.are ∙ ap (placed f.places) count) i;
          }
        where
          count : 2 * k - length f.places ≡ 2 * suc k - suc (suc (length f.places))
          count = omega arith

          go : (g : ℕ) → (b ≡ g → ⊥) → (number_in g (b ∷ sizes b ∷ f.places) ≡ 0) ⊎ (number_in g (b ∷ sizes b ∷ f.places) ≡ sizes g)
          go g d = subst (λ (x : ℕ). (x ≡ 0) ⊎ (x ≡ sizes g)) (sym (number-elsewhere g b (sizes b) f.places d)) (f.true-there g)

  -- a place in use has a group with members
  module _ (a n : ℤ) (taken : in_use a n ≡ true) (counted : not (in_use a n) || not (eq_z n (pos 0)) ≡ true) (full : eq_z n (pos (size a t)) ≡ true) where
    number_is : n ≡ pos (size a t)
    number_is = eq_z-true n (pos (size a t)) full

    has-members : 1 ≤ size a t
    unfolding eq_z
    has-members = go (size a t) refl
      where
        go : (k : ℕ) → size a t ≡ k → 1 ≤ size a t
        go zero e =
            let z : eq_z n (pos 0) ≡ true = ap (λ (x : ℤ). eq_z x (pos 0)) (number_is ∙ ap pos e) ∙ eq_z-refl (pos 0) in
            let f : eq_z n (pos 0) ≡ false = not-true (eq_z n (pos 0)) (other (in_use a n) (not (eq_z n (pos 0))) counted taken) in
            let c : ◌≡◌ {A = ℕ} 0 1 = cc in
            absurd (omega arith)
        go (suc k) e = omega (arith, e)

  above_zero : (l : List ℤ) → none_empty l ≡ true → numbers_true t l ≡ true → all_above (pos 0) l ≡ true
  unfolding none_empty numbers_true all_above
  above_zero [] e f = refl
  above_zero (a ∷ []) e f = refl
  above_zero (a ∷ n ∷ l) e f =
      let p = both (not (in_use a n) || not (eq_z n (pos 0))) (none_empty l) e in
      let q = both (eq_z n (pos (size a t))) (numbers_true t l) f in
      and (not (in_use a n) || lt_z (pos 0) a) (all_above (pos 0) l) (split (in_use a n) (λ u. in_use_lem u p.0 q.0) (λ u. or_left (not (in_use a n)) (lt_z (pos 0) a) (ap not u))) (above_zero l p.1 q.1)
    where
      in_use_lem : in_use a n ≡ true → not (in_use a n) || not (eq_z n (pos 0)) ≡ true → eq_z n (pos (size a t)) ≡ true → not (in_use a n) || lt_z (pos 0) a ≡ true
      in_use_lem u c g =
          let b = member-natural a (has-members a n u c g) in
          or_right (not (in_use a n)) (lt_z (pos 0) a) (ap (lt_z (pos 0)) b.1 ∙ lt-ltb 0 (suc b.0) (omega arith))

  found : (lo k : ℕ) (l : List ℤ) → length l ≡ 2 * k → groups_rise l ≡ true → none_empty l ≡ true → unused_last l ≡ true → numbers_true t l ≡ true → all_above (pos lo) l ≡ true → Found lo k l
  unfolding groups_rise none_empty unused_last numbers_true all_above none_in_use
  found lo zero [] q r e u f v = found_none lo 0 [] refl
  found lo (suc k) [] q r e u f v = absurd (omega arith)
  found lo k (a ∷ []) q r e u f v = absurd (odd k q)
    where
      odd : (k : ℕ) → 1 ≡ 2 * k → ⊥
      odd k q = omega arith
  found lo zero (a ∷ n ∷ l) q r e u f v = absurd (omega arith)
  found lo (suc k) (a ∷ n ∷ l) q r e u f v =
      let rs = both (not (in_use a n) || all_above a l) (groups_rise l) r in
      let es = both (not (in_use a n) || not (eq_z n (pos 0))) (none_empty l) e in
      let us = both (in_use a n || none_in_use l) (unused_last l) u in
      let fs = both (eq_z n (pos (size a t))) (numbers_true t l) f in
      let vs = both (not (in_use a n) || lt_z (pos lo) a) (all_above (pos lo) l) v in
      split (in_use a n)
      (λ i. found-more lo k a n l (other (in_use a n) (lt_z (pos lo) a) vs.0 i) (has-members a n i es.0 fs.0) (number_is a n i es.0 fs.0)
      (λ b w. found b k l (omega arith) rs.1 es.1 us.1 fs.1 (ap (λ (z : ℤ). all_above z l) (sym w) ∙ other (in_use a n) (all_above a l) rs.0 i)))
      (λ i. found_none lo (suc k) (a ∷ n ∷ l) (nothing (a ∷ n ∷ l) (and (not (in_use a n)) (none_in_use l) (ap not i) (last (in_use a n) (none_in_use l) us.0 i)) (suc k) q))
    where
      last : (s r : Bool) → s || r ≡ true → s ≡ false → r ≡ true
      last true r e i = let z : ◌≡◌ {A = ℕ} 0 1 = cc in absurd (omega arith)
      last false r e i = e

  -- what `groups_there` says of each pair's group
  there-at : (k : ℕ) (ws : List ℤ) → 2 * k ≤ length ws → (l : List ℤ) → groups_there t k ws l ≡ true → (i : ℕ) → i < k → number_of (group_at i ws) l ≡ pos (size (group_at i ws) t)
  unfolding groups_there
  there-at zero ws f l e i h = absurd (omega arith)
  there-at (suc k) [] f l e i h = absurd (omega arith)
  there-at (suc k) (a ∷ []) f l e i h = absurd (omega arith)
  there-at (suc k) (a ∷ b ∷ ws) f l e zero h = eq_z-true (number_of a l) (pos (size a t)) (both (eq_z (number_of a l) (pos (size a t))) (groups_there t k ws l) e).0
  there-at (suc k) (a ∷ b ∷ ws) f l e (suc i) h =
      rw (group_at-suc i a b ws) (there-at k ws (omega arith) l (both (eq_z (number_of a l) (pos (size a t))) (groups_there t k ws l) e).1 i (omega arith))

  places_count : (k : ℕ) (l : List ℤ) → (p : Found 0 k l) → groups_there t t.used t.words l ≡ true → (g : ℕ) → 0 < g → number_in g p.places ≡ sizes g
  unfolding size
  places_count k l p e g h = go (members-where (pos g) t.used t.words fits)
    where
      listed : number_of (pos g) l ≡ pos (number_in g p.places)
      listed = ap (number_of (pos g)) p.are ∙ placed-number g p.places (2 * k - length p.places) 0 p.rises

      none_of : sizes g ≡ 0 → (number_in g p.places ≡ 0) ⊎ (number_in g p.places ≡ sizes g) → number_in g p.places ≡ sizes g
      none_of z (inl q) = q ∙ sym z
      none_of z (inr q) = q

      go : (sizes g ≡ 0) ⊎ ((i : ℕ) × (i < t.used) × (group_at i t.words ≡ pos g)) → number_in g p.places ≡ sizes g
      go (inl z) = none_of z (p.true-there g)
      go (inr w) =
          let q = subst (λ (z : ℤ). number_of z l ≡ pos (size z t)) w.2 (there-at t.used t.words fits l e w.0 w.1) in
          let s : pos (number_in g p.places) ≡ pos (sizes g) = sym listed ∙ q in
          cc

  -- The theorems, of a lent list that is long enough

  -- what the words needed hold: places that the count gives, and zeros
  pub record Lists (ws : List ℤ) : Type 0 where
    pub places : List ℕ
    pub tallies : Tallies 0 sizes places
    pub within : length places ≤ 2 * (length t.words / 2)
    pub are : take (list_words t) ws ≡ placed places (2 * (length t.words / 2) - length places)

  module _ (ws : List ℤ) (long : list_words t ≤ length ws) where
    taken-long : length (take (list_words t) ws) ≡ 2 * (length t.words / 2)
    unfolding list_words
    taken-long = simp length-take (omega arith)

    pub list-means : list_right t ws ≡ true → Lists ws
    unfolding list_right
    list-means e =
        let l = take (list_words t) ws in
        let p4 = both (groups_rise l && none_empty l && unused_last l && numbers_true t l) (groups_there t t.used t.words l) e in
        let p3 = both (groups_rise l && none_empty l && unused_last l) (numbers_true t l) p4.0 in
        let p2 = both (groups_rise l && none_empty l) (unused_last l) p3.0 in
        let p1 = both (groups_rise l) (none_empty l) p2.0 in
        let f = found 0 (length t.words / 2) l taken-long p1.0 p1.1 p2.1 p3.1 (above_zero l p1.1 p3.1) in
        record {
          places = f.places;
          tallies = tallies-by 0 sizes f.places f.rises (places_count (length t.words / 2) l f p4.1);
          within = f.within;
          are = f.are;
        }

    pub list-holds : Lists ws → list_right t ws ≡ true
    unfolding list_right
    list-holds h = placed-right h.places (2 * (length t.words / 2) - length h.places) h.tallies (take (list_words t) ws) h.are

    zeros-after : Lists ws → ℕ
    zeros-after h = 2 * (length t.words / 2) - length h.places

    -- of every number, the list says what a full count says
    pub reads-count : list_right t ws ≡ true → (z : ℤ) → number_of z (take (list_words t) ws) ≡ pos (size z t)
    unfolding at_least_one zeros-after
    reads-count e (pos zero) =
        let h = list-means e in
        let r = tallies-rise 0 sizes h.places h.tallies in
        ap (number_of (pos 0)) h.are ∙ placed-number 0 h.places (zeros-after h) 0 r ∙ ap pos (number-below 0 h.places r (omega arith)) ∙ ap pos (sym (no-group (pos 0) refl))
    reads-count e (pos (suc n)) =
        let h = list-means e in
        ap (number_of (pos (suc n))) h.are ∙ placed-number (suc n) h.places (zeros-after h) 0 (tallies-rise 0 sizes h.places h.tallies) ∙ ap pos (tallies-number 0 sizes h.places h.tallies (suc n) (omega arith))
    reads-count e (negsuc n) =
        let h = list-means e in
        ap (number_of (negsuc n)) h.are ∙ placed-none n h.places (zeros-after h) ∙ ap pos (sym (no-group (negsuc n) refl))

  -- the list that is computed
  pub computed-placed : group_list t ≡ placed tallied-of.places (2 * (length t.words / 2) - length tallied-of.places)
  unfolding group_list filled list_words
  computed-placed =
      let p = tallied-of in
      let n : length (tallied t.used t.words) ≡ length p.places = ap length p.are ∙ length-map p.places pos in
      ap₂ (λ (l : List ℤ) (k : ℕ). l ++ none (2 * (length t.words / 2) - k)) p.are n

  module _ (ws : List ℤ) (long : list_words t ≤ length ws) where
    computed-lists : take (list_words t) ws ≡ group_list t → Lists ws
    computed-lists e =
        record {
          places = tallied-of.places;
          tallies = sizes-counted tallied-of.places tallied-of.tallies;
          within = omega (arith, tallied-of.few);
          are = e ∙ computed-placed;
        }

    -- A list is right exactly where it is the computed one.
    pub right-is-computed : (list_right t ws ≡ true) ↔ (take (list_words t) ws ≡ group_list t)
    right-is-computed = (
      λ e. lists-computed (list-means ws long e),
      λ e. list-holds ws long (computed-lists e),
    )
      where
        lists-computed : Lists ws → take (list_words t) ws ≡ group_list t
        lists-computed h =
            let same = one_list 0 sizes h.places tallied-of.places h.tallies (sizes-counted tallied-of.places tallied-of.tallies) in
            h.are ∙ ap (λ (ps : List ℕ). placed ps (2 * (length t.words / 2) - length ps)) same ∙ sym computed-placed

  -- Only one list is right.
  pub one_right : (ws vs : List ℤ) → list_words t ≤ length ws → list_words t ≤ length vs → list_right t ws ≡ true → list_right t vs ≡ true → take (list_words t) ws ≡ take (list_words t) vs
  one_right ws vs long more e f = (right-is-computed ws long).0 e ∙ sym ((right-is-computed vs more).0 f)

  -- What a run leaves: the table's list, and past the words needed what was there

  pub computed-long : length (group_list t) ≡ list_words t
  unfolding list_words
  computed-long =
      let p = tallied-of in
      ap length computed-placed ∙ simp (length-append, length-map, length-replicate) (omega (arith, p.few))

  module _ (ws : List ℤ) (long : list_words t ≤ length ws) where
    pub relisted-past : drop (list_words t) (relisted t ws) ≡ drop (list_words t) ws
    unfolding relisted
    relisted-past = drop_at (group_list t) (drop (list_words t) ws) (list_words t) computed-long

    pub relisted-length : length (relisted t ws) ≡ length ws
    unfolding relisted
    relisted-length = simp (length-append, length-drop) (omega (arith, computed-long))

    pub relisted-right : list_right t (relisted t ws) ≡ true
    unfolding relisted
    relisted-right = (right-is-computed (relisted t ws) (omega (arith, relisted-length))).1 (take_at (group_list t) (drop (list_words t) ws) (list_words t) computed-long)
