-- The words of a lent list, from the places that it holds: what stands at a place, and what writing there and moving words makes of them.
use Rattle.std.proofs.Common.{◌≡◌, ℕ, zero, suc, pred, ◌+◌, ◌-◌, ◌*◌, ◌/◌, ◌<◌, ◌≤◌, true, false, ◌&&◌, leb, List, [], ◌∷◌, ◌++◌, map, length, get_or, take, drop, set, replicate, ℤ, pos, sym, refl, ap, ◌∙◌, subst, append_assoc, arith, length-append, length-drop, length-set, length-take, take_at, drop_at, le-leb, leb-true}
use mathlib.Core.Bool.{and-eq-true_iff}
use lib.ListN.{length-replicate, replicate-append-replicate, length-map, get_or-replicate, get_or-append}
use Rattle.language.specs.Table.{take_out}
use Rattle.language.specs.Groups.{filled}
use Rattle.laws.specs.Lists.{twice-suc}
use Rattle.laws.specs.Tests.{both, never}
use Rattle.table_laws.specs.Places.{Rises, number_in, one_more, one_less}
use Rattle.table_laws.specs.Listing.{Listing}
use Rattle.table_moves.specs.PutIn.{put_in}
use Rattle.table_groups.specs.Standing.{place_in, Found}
use Rattle.table_groups.specs.declared.GroupPlace.{GroupPlace}
use Rattle.table_groups.proofs.Spots.{below-place, place-within, place-last, Spot, spot, spot-within, spot-inside, spot-group, spot-number, spot-other, more-number, more-new, less-place, less-number, rises-more, rises-less, rises-whole}

-- places, k words of 0, and what lies past them
abbrev laid : List ℕ → ℕ → List ℤ → List ℤ
laid ps k past = map pos ps ++ (replicate k (pos 0) ++ past)

module _ {places : ℕ} {ps : List ℕ} {past ws : List ℤ} where
  listing-laid : Listing places ps past ws → ws ≡ laid ps (2 * places - length ps) past
  unfolding filled
  listing-laid l =
      l.is ∙ append_assoc (map pos ps) (replicate (2 * places - length (map pos ps)) (pos 0)) past ∙ ap (λ (n : ℕ). laid ps (2 * places - n) past) (length-map ps pos)

  laid-listing : (k : ℕ) → Rises 0 ps → length ps + k ≡ 2 * places → ws ≡ laid ps k past → Listing places ps past ws
  unfolding filled
  laid-listing k r e q =
      let f : k ≡ 2 * places - length (map pos ps) = omega (arith, length-map ps pos) in
      record {
        rises = r;
        room = omega arith;
        is = q ∙ sym (append_assoc (map pos ps) (replicate k (pos 0)) past) ∙ ap (λ (n : ℕ). (map pos ps ++ replicate n (pos 0)) ++ past) f;
      }

-- so many places or fewer, as long as they hold all groups: the others are words of 0 past them
zeros-apart : (ps : List ℕ) (j k : ℕ) (past : List ℤ) → laid ps (j + k) past ≡ laid ps j (replicate k (pos 0) ++ past)
zeros-apart ps j k past =
    ap (map pos ps ++◌) (ap (◌++ past) (sym (replicate-append-replicate j k (pos 0))) ∙ append_assoc (replicate j (pos 0)) (replicate k (pos 0)) past)

module _ {places : ℕ} {ps : List ℕ} {past ws : List ℤ} (n : ℕ) (h : n ≤ places) where
  pub narrowed : Listing places ps past ws → length ps ≤ 2 * n → Listing n ps (replicate (2 * places - 2 * n) (pos 0) ++ past) ws
  narrowed l few =
      let e : 2 * places - length ps ≡ 2 * n - length ps + (2 * places - 2 * n) = omega arith in
      laid-listing (2 * n - length ps) l.rises (omega arith)
      (listing-laid l ∙ ap (λ (k : ℕ). laid ps k past) e ∙ zeros-apart ps (2 * n - length ps) (2 * places - 2 * n) past)

  pub widened : Listing n ps (replicate (2 * places - 2 * n) (pos 0) ++ past) ws → Listing places ps past ws
  widened l =
      let r = l.room in
      laid-listing (2 * n - length ps + (2 * places - 2 * n)) l.rises (omega arith)
      (listing-laid l ∙ sym (zeros-apart ps (2 * n - length ps) (2 * places - 2 * n) past))

-- ---- reading

by_zero : {X : Type 0} (n : ℕ) → (n ≡ 0 → X) → (1 ≤ n → X) → X
by_zero zero f g = f refl
by_zero (suc n) f g = g (omega arith)

pos_inj : {a b : ℕ} → pos a ≡ pos b → a ≡ b
pos_inj e = cc

laid_word : (ps : List ℕ) (k : ℕ) (past : List ℤ) (i : ℕ) → i < length ps + k → get_or (laid ps k past) i (pos 0) ≡ pos (get_or ps i 0)
laid_word [] k past i h = get_or-append (replicate k (pos 0)) past (pos 0) i (rw length-replicate (omega arith)) ∙ get_or-replicate k i (pos 0) (pos 0) (omega arith)
laid_word (a ∷ ps) k past zero h = refl
laid_word (a ∷ ps) k past (suc i) h = laid_word ps k past i (omega arith)

module _ {places : ℕ} {ps : List ℕ} {past ws : List ℤ} (l : Listing places ps past ws) where
  pub listing-length : 2 * places ≤ length ws
  listing-length =
      let e = ap length (listing-laid l) in
      omega (arith, l.room, e, length-append (map pos ps) (replicate (2 * places - length ps) (pos 0) ++ past), length-append (replicate (2 * places - length ps) (pos 0)) past, length-replicate (2 * places - length ps) (pos 0), length-map ps pos)

  pub listing-word : (i : ℕ) → i < 2 * places → get_or ws i (pos 0) ≡ pos (get_or ps i 0)
  listing-word i h = ap (λ (vs : List ℤ). get_or vs i (pos 0)) (listing-laid l) ∙ laid_word ps (2 * places - length ps) past i (omega (arith, l.room))

  -- ---- the search: the place is past i, or at most i

  pub same_word : (i w : ℕ) → i < places → get_or ws (2 * i) (pos 0) ≡ pos w → get_or ps (2 * i) 0 ≡ w
  same_word i w h e = let q : pos (get_or ps (2 * i) 0) ≡ pos w = sym (listing-word (2 * i) (omega arith)) ∙ e in pos_inj q

  pub place-fits : (g : ℕ) → place_in g ps ≤ places
  place-fits g = omega (arith, spot-within (spot g 0 ps l.rises), l.room)

  module _ (bound i w : ℕ) (h : i < places) (e : get_or ws (2 * i) (pos 0) ≡ pos w) where
    pub place-past : leb 1 w && leb w bound ≡ true → i < place_in (suc bound) ps
    place-past t =
        let q = same_word i w h e in
        let b = both (leb 1 w) (leb w bound) t in
        below-place (suc bound) 0 ps l.rises i (omega (arith, leb-true 1 w b.0)) (omega (arith, leb-true w bound b.1))

    pub place-not : leb 1 w && leb w bound ≡ false → place_in (suc bound) ps ≤ i
    place-not t =
        let q = same_word i w h e in
        place-within (suc bound) 0 ps l.rises i (λ u v. never ((and-eq-true_iff (leb 1 w) (leb w bound)).1 (le-leb 1 w (omega arith), le-leb w bound (omega arith))) t)

  pub place_end : (i : ℕ) → i ≡ place_in 4294967296 ps → (i < places → get_or ps (2 * i) 0 < 4294967296) → i ≡ length ps / 2
  place_end i e h =
      e ∙ place-last 4294967296 0 ps l.rises (λ k. subst (λ (j : ℕ). get_or ps (2 * j) 0 < 4294967296) e (h (omega (arith, e, k, l.room))))

  -- ---- the number at the place

  module _ (g place : ℕ) (some : 1 ≤ g) (e : place ≡ place_in g ps) where
    at_place : Spot g ps place (number_in g ps)
    at_place = subst (λ (p : ℕ). Spot g ps p (number_in g ps)) (sym e) (spot g 0 ps l.rises)

    pub number_read : (v r : ℕ) → place < places → get_or ws (2 * place) (pos 0) ≡ pos v → v ≡ g → get_or ws (2 * place + 1) (pos 0) ≡ pos r → r ≡ number_in g ps
    number_read v r h p f q =
        by_zero (number_in g ps)
        (λ z. absurd (spot-other at_place some z (same_word place v h p ∙ f)))
        (λ k. let n : pos (get_or ps (2 * place + 1) 0) ≡ pos r = sym (listing-word (2 * place + 1) (omega arith)) ∙ q in omega (arith, spot-number at_place k, pos_inj n))

    pub number-other : (v : ℕ) → place < places → get_or ws (2 * place) (pos 0) ≡ pos v → (v ≡ g → ⊥) → 0 ≡ number_in g ps
    number-other v h p d = by_zero (number_in g ps) (λ z. sym z) (λ k. absurd (d (sym (same_word place v h p) ∙ spot-group at_place k)))

    pub number_past : places ≤ place → 0 ≡ number_in g ps
    number_past h = by_zero (number_in g ps) (λ z. sym z) (λ k. absurd (omega (arith, spot-inside at_place k, l.room)))

-- ---- writing

laid-set : (ps : List ℕ) (k : ℕ) (past : List ℤ) (i v : ℕ) → i < length ps → set (laid ps k past) i (pos v) ≡ laid (set ps i v) k past
laid-set [] k past i v h = absurd (omega arith)
laid-set (a ∷ ps) k past zero v h = refl
laid-set (a ∷ ps) k past (suc i) v h = ap (pos a ∷◌) (laid-set ps k past i v (omega arith))

moved-over : (ps : List ℕ) (x y : ℤ) (rest : List ℤ) → take (length ps) (map pos ps ++ (x ∷ y ∷ rest)) ++ drop (length ps + 2) (map pos ps ++ (x ∷ y ∷ rest)) ≡ map pos ps ++ rest
moved-over [] x y rest = refl
moved-over (a ∷ ps) x y rest = let e : suc (length ps) + 2 ≡ suc (length ps + 2) = omega arith in rw e (ap (pos a ∷◌) (moved-over ps x y rest))

laid-put : (ps : List ℕ) (k : ℕ) (past : List ℤ) (i j a b : ℕ) → i + j ≡ length ps → put_in i j (pos a) (pos b) (laid ps (suc (suc k)) past) ≡ laid (take i ps ++ (a ∷ b ∷ drop i ps)) k past
unfolding put_in
laid-put ps k past zero j a b e =
    let f : j ≡ length ps = omega arith in
    rw f (ap (λ (l : List ℤ). pos a ∷ pos b ∷ l) (moved-over ps (pos 0) (pos 0) (replicate k (pos 0) ++ past)))
laid-put [] k past (suc i) j a b e = absurd (omega arith)
laid-put (c ∷ ps) k past (suc i) j a b e = ap (pos c ∷◌) (laid-put ps k past i j a b (omega arith))

laid_out : (ps : List ℕ) (k : ℕ) (past : List ℤ) (p u : ℕ) → length ps ≡ 2 * u → p < u → take_out p u (laid ps k past) ≡ laid (take (2 * p) ps ++ drop (2 * p + 2) ps) (suc (suc k)) past
unfolding take_out
laid_out ps k past p zero e h = absurd (omega arith)
laid_out [] k past p (suc u) e h = absurd (omega arith)
laid_out (a ∷ []) k past p (suc u) e h = absurd (omega arith)
laid_out (a ∷ b ∷ ps) k past zero (suc u) e h =
    let f : length (map pos ps) ≡ 2 * u = length-map ps pos ∙ omega arith in
    rw (take_at (map pos ps) (replicate k (pos 0) ++ past) (2 * u) f, drop_at (map pos ps) (replicate k (pos 0) ++ past) (2 * u) f) refl
laid_out (a ∷ b ∷ ps) k past (suc p) (suc u) e h =
    let f : 2 * suc p + 2 ≡ suc (suc (2 * p + 2)) = omega arith in
    rw (f, twice-suc p) (ap (λ (l : List ℤ). pos a ∷ pos b ∷ l) (laid_out ps k past p u (omega arith) (omega arith)))

-- ---- one member more, or one less

two-more : (i a b : ℕ) (ps : List ℕ) → length (take i ps ++ (a ∷ b ∷ drop i ps)) ≡ length ps + 2
two-more i a b ps = simp (length-append, length-take, length-drop) (omega arith)

two-less : (i : ℕ) (ps : List ℕ) → i + 2 ≤ length ps → length (take i ps ++ drop (i + 2) ps) + 2 ≡ length ps
two-less i ps h = simp (length-append, length-take, length-drop) (omega arith)

module _ {places g : ℕ} {found : GroupPlace} {ps : List ℕ} {past ws : List ℤ} (f : Found places g found ps past ws) where
  found-spot : Spot g ps found.place found.number
  found-spot = subst (λ (T : Type 0). T) (λ i. Spot g ps (sym f.place_is i) (sym f.number_is i)) (spot g 0 ps f.listing.rises)

  pub found_within : found.place ≤ length ps / 2
  found_within = omega (arith, spot-within found-spot)

  pub found_inside : 1 ≤ found.number → 2 * found.place + 1 < length ws
  found_inside h = omega (arith, spot-inside found-spot h, f.listing.room, listing-length f.listing)

  pub raised : 1 ≤ g → 1 ≤ found.number → Listing places (one_more g ps) past (set ws (2 * found.place + 1) (pos (suc found.number)))
  raised some h =
      let i = 2 * found.place + 1 in
      let k = 2 * places - length ps in
      let e = more-number found-spot h in
      laid-listing k (rises-more found-spot 0 some f.listing.rises) (rw e (rw length-set (omega (arith, f.listing.room))))
      (ap (λ (vs : List ℤ). set vs i (pos (suc found.number))) (listing-laid f.listing) ∙ laid-set ps k past i (suc found.number) (spot-inside found-spot h) ∙
      ap (λ (qs : List ℕ). laid qs k past) (sym e))

  pub raised-new : 1 ≤ g → found.number ≡ 0 → length ps + 2 ≤ 2 * places → Listing places (one_more g ps) past (put_in (2 * found.place) (2 * (length ps / 2) - 2 * found.place) (pos g) (pos 1) ws)
  raised-new some h room =
      let i = 2 * found.place in
      let j = 2 * (length ps / 2) - i in
      let k = 2 * places - length ps - 2 in
      let w = rises-whole 0 ps f.listing.rises in
      let e = more-new found-spot h in
      let z : 2 * places - length ps ≡ suc (suc k) = omega arith in
      laid-listing k (rises-more found-spot 0 some f.listing.rises) (rw e (omega (arith, two-more i g 1 ps)))
      (ap (put_in i j (pos g) (pos 1)) (listing-laid f.listing ∙ ap (λ (n : ℕ). laid ps n past) z) ∙ laid-put ps k past i j g 1 (omega (arith, spot-within found-spot)) ∙
      ap (λ (qs : List ℕ). laid qs k past) (sym e))

  pub lowered : 2 ≤ found.number → Listing places (one_less g ps) past (set ws (2 * found.place + 1) (pos (pred found.number)))
  lowered h =
      let i = 2 * found.place + 1 in
      let k = 2 * places - length ps in
      let e = less-number found-spot h in
      laid-listing k (rises-less found-spot (omega arith) 0 f.listing.rises) (rw e (rw length-set (omega (arith, f.listing.room))))
      (ap (λ (vs : List ℤ). set vs i (pos (pred found.number))) (listing-laid f.listing) ∙ laid-set ps k past i (pred found.number) (spot-inside found-spot (omega arith)) ∙
      ap (λ (qs : List ℕ). laid qs k past) (sym e))

  pub lowered-gone : found.number ≡ 1 → Listing places (one_less g ps) past (take_out found.place (length ps / 2) ws)
  lowered-gone h =
      let k = 2 * places - length ps in
      let w = rises-whole 0 ps f.listing.rises in
      let b = spot-inside found-spot (omega arith) in
      let e = less-place found-spot h in
      laid-listing (suc (suc k)) (rises-less found-spot (omega arith) 0 f.listing.rises) (rw e (omega (arith, two-less (2 * found.place) ps (omega arith), f.listing.room)))
      (ap (take_out found.place (length ps / 2)) (listing-laid f.listing) ∙ laid_out ps k past found.place (length ps / 2) (sym w) (omega arith) ∙
      ap (λ (qs : List ℕ). laid qs (suc (suc k)) past) (sym e))
