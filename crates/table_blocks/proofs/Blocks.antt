-- Blocks of groups: one group more at the end.
use Rattle.std.proofs.Common.{◌≡◌, ℕ, zero, suc, ◌+◌, ◌-◌, ◌*◌, ◌<◌, ◌≤◌, Bool, true, false, ltb, leb, List, [], ◌∷◌, ◌++◌, length, get_or, take, set, ℤ, pos, nat_abs, sym, refl, ap, ◌∙◌, arith, take-suc, take-suc-set, ltb-false, ltb-true, leb-false, leb-true}
use lib.Seq.{take-length, take-set-le}
use Rattle.language.specs.Table.{members}
use Rattle.laws.specs.Tables.{group_at, members-next}
use Rattle.table_places.specs.Places.{Natural, group_in, places_in, Rising}
use Rattle.table_places.proofs.Naturals.{natural-is}
use Rattle.table_totals.specs.Placed.{members_of, Tallied, members-rise}
use Rattle.table_lefts.specs.Lefts.{once, Lowered, Exhausted, LeftsAre}
use Rattle.table_lefts.proofs.Lowering.{once-same, once-other, count-one}
use Rattle.table_blocks.specs.Blocks.{times, Gathered, Taken, Overdrawn}

pub times_none : (g : ℕ) → times g [] ≡ 0
unfolding times
times_none g = refl

pub times-last : (g : ℕ) (xs : List ℕ) (x : ℕ) → times g (xs ++ (x ∷ [])) ≡ times g xs + once g x
unfolding times
times-last g [] x = omega arith
times-last g (y ∷ xs) x = omega (arith, times-last g xs x)

pub times-next : (g : ℕ) (block : List ℕ) (j : ℕ) → j < length block → times g (take (suc j) block) ≡ times g (take j block) + once g (get_or block j 0)
times-next g block j b = ap (times g) (take-suc block j 0 b) ∙ times-last g (take j block) (get_or block j 0)

pub times-rise : (g : ℕ) (block : List ℕ) (j n : ℕ) → j ≤ n → n ≤ length block → times g (take j block) ≤ times g (take n block)
times-rise g block j zero l h = let z : j ≡ 0 = omega arith in rw z (omega arith)
times-rise g block j (suc n) l h = go (leb j n) refl (λ b. times-rise g block j n b (omega arith))
  where
    go : (t : Bool) → leb j n ≡ t → (j ≤ n → times g (take j block) ≤ times g (take n block)) → times g (take j block) ≤ times g (take (suc n) block)
    go true q before = omega (arith, before (leb-true j n q), times-next g block n (omega arith))
    go false q before = let z : j ≡ suc n = omega (arith, leb-false j n q) in rw z (omega arith)

-- ---- gathering

pub gathered_none : (ws : List ℤ) (from first span : ℕ) (block : List ℕ) → Gathered ws from from first span (take 0 block)
gathered_none ws from first span block g lo hi = omega (arith, times_none g)

module _ (ws : List ℤ) (from i first span : ℕ) (block : List ℕ) (n x : ℕ) (so_far : Gathered ws from i first span (take n block)) (fits : 2 * suc i ≤ length ws) (natural : Natural (group_at i ws))
    (is : x ≡ nat_abs (group_at i ws)) (there : n < length block) where
  one : (g : ℕ) → members (pos g) (suc i) ws ≡ members (pos g) i ws + once g x
  one g = members-next (pos g) i ws fits ∙ ap (members (pos g) i ws +◌) (count-one ws i (pos g) natural refl ∙ ap (once g) (sym is))

  -- the pair's group is kept
  pub gathered-more : Gathered ws from (suc i) first span (take (suc n) (set block n x))
  gathered-more g lo hi =
      omega (arith, one g, so_far g lo hi, ap (times g) (take-suc-set block n x there), times-last g (take n block) x)

  -- the pair is of no group of the window
  pub gathered-same : (first ≤ x → x ≤ first + span → ⊥) → Gathered ws from (suc i) first span (take n (set block n x))
  gathered-same out g lo hi =
      let other = once-other {g = g} {x = x} (λ z. out (omega arith) (omega arith)) in
      omega (arith, one g, so_far g lo hi, ap (times g) (take-set-le n block n x (omega arith)), other)

-- ---- taking

pub taken_none : (l : List ℤ) (block lefts : List ℕ) → Taken l (take 0 block) lefts lefts
taken_none l block lefts p b = omega (arith, times_none (group_in l p))

module _ (l : List ℤ) (block : List ℕ) (j x : ℕ) (there : j < length block) (is : x ≡ get_or block j 0) (lefts now : List ℕ) (so_far : Taken l (take j block) lefts now) where
  next : (g : ℕ) → times g (take (suc j) block) ≡ times g (take j block) + once g x
  next g = times-next g block j there ∙ ap (λ (y : ℕ). times g (take j block) + once g y) (sym is)

  pub taken_more : (after : List ℕ) → Lowered l x now after → Taken l (take (suc j) block) lefts after
  taken_more after lowered p b = omega (arith, next (group_in l p), so_far p b, lowered p b)

  pub overdrawn-here : Exhausted l x now → Overdrawn l block lefts
  overdrawn-here none =
      let p = none.place in
      let g = group_in l p in
      record {
        place = p;
        within = none.within;
        more = omega (arith, none.none, so_far p none.within, next g, once-same {g = g} {x = x} (sym none.here), times-rise g block (suc j) (length block) there (omega arith), ap (times g) (take-length block));
      }

-- ---- a window

pub first-last : (l : List ℤ) → Rising (places_in l) l → 0 < places_in l → group_in l 0 ≤ group_in l (places_in l - 1)
first-last l rising some = go (ltb 0 (places_in l - 1)) refl
  where
    go : (t : Bool) → ltb 0 (places_in l - 1) ≡ t → group_in l 0 ≤ group_in l (places_in l - 1)
    go true e = omega (arith, rising.rises 0 (places_in l - 1) (ltb-true 0 (places_in l - 1) e) (omega arith))
    go false e = let z : places_in l - 1 ≡ 0 = omega (arith, ltb-false 0 (places_in l - 1) e) in rw z (omega arith)

module _ (ws l : List ℤ) (rising : Rising (places_in l) l) (some : 0 < places_in l) (first span : ℕ) (low : first ≡ group_in l 0) (high : first + span ≡ group_in l (places_in l - 1))
    (i to : ℕ) (block lefts : List ℕ) (gathered : Gathered ws i to first span block) (are : LeftsAre ws i l lefts) where
  -- each place is of a group of the window
  above : (p : ℕ) → p < places_in l → first ≤ group_in l p
  above p b = go (ltb 0 p) refl
    where
      go : (t : Bool) → ltb 0 p ≡ t → first ≤ group_in l p
      go true e = omega (arith, rising.rises 0 p (ltb-true 0 p e) b)
      go false e = let z : p ≡ 0 = omega (arith, ltb-false 0 p e) in rw z (omega arith)

  below : (p : ℕ) → p < places_in l → group_in l p ≤ first + span
  below p b = go (ltb p (places_in l - 1)) refl
    where
      go : (t : Bool) → ltb p (places_in l - 1) ≡ t → group_in l p ≤ first + span
      go true e = omega (arith, rising.rises p (places_in l - 1) (ltb-true p (places_in l - 1) e) (omega arith))
      go false e = let z : p ≡ places_in l - 1 = omega (arith, ltb-false p (places_in l - 1) e) in rw z (omega arith)

  more : (p : ℕ) → p < places_in l → members_of ws to l p ≡ members_of ws i l p + times (group_in l p) block
  more p b =
      let is = natural-is (group_at p l) (rising.groups p b) in
      ap (λ (g : ℤ). members g to ws) is ∙ gathered (group_in l p) (above p b) (below p b) ∙ ap (λ (g : ℤ). members g i ws + times (group_in l p) block) (sym is)

  pub lefts-block : (after : List ℕ) → Taken l block lefts after → LeftsAre ws to l after
  lefts-block after taken p b = omega (arith, more p b, taken p b, are p b)

  pub overdrawn-wrong : (count : ℕ) → to ≤ count → 2 * count ≤ length ws → Overdrawn l block lefts → Tallied ws count l (places_in l) → ⊥
  overdrawn-wrong count b h over tallied =
      let p = over.place in
      omega (arith, over.more, more p over.within, are p over.within, tallied p over.within, members-rise (group_at p l) ws to count b h)
