-- The list beside the table: what it says of a group, and that AD and RM leave it beside the table that they leave.
use Prim.Native.Nat.{ℕ, ◌+◌, ◌*◌, ◌-◌, ◌≤◌, ◌<◌}
use native.Mathlib.Omega.{arith}
use mathlib.Core.Bool.{true, false, false≢true, ◌&&◌}
use mathlib.Core.List.{List, ◌++◌}
use mathlib.Core.Path.{◌≡◌, sym, ap, ◌∙◌}
use lib.IntN.{ℤ, pos, negsuc, nat_abs}
use lib.ListN.{length, replicate}
use Rattle.language.specs.Table.{Table, size, holds, at_least_one, add, remove}
use Rattle.table_laws.specs.Rightness.{right-means}
use Rattle.table_laws.specs.Places.{one_more, one_less, tallies-number}
use Rattle.table_laws.specs.Listing.{Listing, Beside, places_of, sizes, beside-lists, beside-added, beside-removed}
use Rattle.table_groups.specs.Standing.{Found}
use Rattle.table_groups.specs.declared.GroupPlace.{GroupPlace}
use Rattle.table_groups.proofs.Numbers.{at_least_one_lem}
use Rattle.table_groups.proofs.Words.{narrowed, widened}
use Rattle.table_pairs.proofs.Statements.{full-no}

below_one : (g : ℕ) → at_least_one (negsuc g) ≡ true → ⊥
unfolding at_least_one
below_one g e = false≢true e

-- what the search in the list has found, in so many places as there are pairs
abbrev pub Said : Table → List ℤ → ℤ → GroupPlace → Type 0
Said t ws z found = (ps : List ℕ) (past : List ℤ) → Listing t.used ps past ws → Found t.used (nat_abs z) found ps past ws

-- what `raise` asks
abbrev pub Raisable : Table → List ℤ → GroupPlace → ℤ → Type 0
Raisable t ws found z =
    ((ps : List ℕ) × ((past : List ℤ) × (Found (t.used + 1) (nat_abs z) found ps past ws × (length ps + 2 ≤ 2 * (t.used + 1))))) × ((at_least_one z ≡ true) × (found.number < 2147483647))

module _ {limit : ℕ} {past : List ℤ} {t : Table} {ws : List ℤ} (b : Beside limit past t ws) where
  pub pairs-fit : 2 * t.used ≤ length t.words
  pairs-fit = (right-means limit t b.table-right).fits

  abbrev pub places : List ℕ
  places = (beside-lists b).places

  -- there are no more groups than pairs, so that so many places hold all of them
  near : (n : ℕ) → n ≤ places_of t → t.used ≤ n → (ps : List ℕ) → Listing (places_of t) ps past ws → length ps ≤ 2 * t.used → Listing n ps (replicate (2 * places_of t - 2 * n) (pos 0) ++ past) ws
  near n h u ps l few = narrowed n h l (omega arith)

  pub listed : Listing t.used places (replicate (2 * places_of t - 2 * t.used) (pos 0) ++ past) ws
  listed = near t.used (omega (arith, pairs-fit)) (omega arith) places (beside-lists b).listing (beside-lists b).few

  module _ (z : ℤ) (some : at_least_one z ≡ true) (found : GroupPlace) (said : Said t ws z found) where
    pub number_size : found.number ≡ size z t
    number_size =
        let one = at_least_one_lem z some in
        (said places _ listed).number_is ∙ tallies-number 0 (sizes t) places (beside-lists b).tallies (nat_abs z) one.1 ∙ ap (λ (y : ℤ). size y t) (sym one.0)

    pub number_small : found.number ≤ limit
    number_small = omega (arith, number_size, (right-means limit t b.table-right).within z)

    -- one place more, where the table has room
    next : t.used < places_of t → (ps : List ℕ) → Listing (places_of t) ps past ws → length ps ≤ 2 * t.used →
        Found (t.used + 1) (nat_abs z) found ps (replicate (2 * places_of t - 2 * (t.used + 1)) (pos 0) ++ past) ws
    next room ps l few =
        let f = said ps _ (near t.used (omega arith) (omega arith) ps l few) in
        record { listing = near (t.used + 1) (omega arith) (omega arith) ps l few; place_is = f.place_is; number_is = f.number_is }

    pub raise-ready : t.used < places_of t → Raisable t ws found z
    raise-ready room =
        ((places, (_, (next room places (beside-lists b).listing (beside-lists b).few, omega (arith, (beside-lists b).few)))), (some, omega (arith, number_small, b.small)))

  -- what `raise` and `lower` ensure, of the list after them
  abbrev pub Raised : ℕ → GroupPlace → List ℤ → Type 0
  Raised g found ws' =
      (ps : List ℕ) (past : List ℤ) → Found (t.used + 1) g found ps past ws → length ps + 2 ≤ 2 * (t.used + 1) → Listing (t.used + 1) (one_more g ps) past ws'

  abbrev pub Lowered : GroupPlace → List ℤ → Type 0
  Lowered found ws' = (g : ℕ) (ps : List ℕ) (past : List ℤ) → Found t.used g found ps past ws → Listing t.used (one_less g ps) past ws'

  pub list-raised :
      (z m : ℤ) (found : GroupPlace) (ws' : List ℤ) → at_least_one z ≡ true → Said t ws z found → (at_least_one z && at_least_one m) ≡ true → holds z m t ≡ false → size z t < limit →
      t.used < places_of t → Raised (nat_abs z) found ws' → Beside limit past (add z m t) ws'
  list-raised (pos g) m found ws' some said ones new below room raised =
      beside-added b g m (at_least_one_lem (pos g) some).1 ws' ones new below (full-no t room)
      (λ ps l n few. widened (t.used + 1) (omega arith) (raised ps _ (next (pos g) some found said room ps l few) (omega arith)))
  list-raised (negsuc g) m found ws' some said ones new below room raised = absurd (below_one g some)

  pub list-lowered :
      (z m : ℤ) (found : GroupPlace) (ws' : List ℤ) → at_least_one z ≡ true → Said t ws z found → holds z m t ≡ true → Lowered found ws' → Beside limit past (remove z m t) ws'
  list-lowered (pos g) m found ws' some said there lowered =
      beside-removed b g m (at_least_one_lem (pos g) some).1 ws' there
      (λ ps l n few. let h : t.used ≤ places_of t = omega (arith, pairs-fit) in widened t.used h (lowered g ps _ (said ps _ (near t.used h (omega arith) ps l few))))
  list-lowered (negsuc g) m found ws' some said there lowered = absurd (below_one g some)
