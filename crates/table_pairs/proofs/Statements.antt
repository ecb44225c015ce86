-- AD, RM and QY: from the tests that the code made to the case of the definition that they choose.
use Prim.Native.Nat.{ℕ, zero, suc, ◌*◌, ◌-◌, ◌/◌, ◌≤◌, ◌<◌}
use mathlib.Core.Path.{◌≡◌, refl, sym, ◌∙◌}
use mathlib.Core.Bool.{Bool, true, false, ◌&&◌}
use mathlib.Core.List.{List}
use mathlib.Core.Option.{none, some}
use native.Mathlib.Omega.{arith}
use borrow.Author.Tests.{lt-ltb, le-ltb, le-leb, lt-leb}
use lib.IntN.{ℤ, pos}
use lib.ListN.{length}
use mir.Val.{SFits, to_z, of_z, bool_byte}
use mir.Syntax.{w32}
use mir.Facts.{to_z-of_z}
use Rattle.language.specs.Table.{Table, find, is_some, holds, size, at_least_one, full, add, remove, take_out, fewer, leaves, halts, gives, refuses, added, removed, queried}
use Rattle.language.specs.declared.Stop.TheVariants.{NumberBelowOne, GroupFull, TableFull}
use Rattle.table_search.specs.Places.{placed}
use Rattle.table_search.specs.Places.{PairPlace}
use Rattle.table_pairs.specs.Outcomes.{table_of}

-- the words in locals are read back from their bits
module _ {g m : ℤ} (fg : SFits w32 g) (fm : SFits w32 m) where
  pub fits_read : {r v : Bool} → r ≡ (at_least_one (to_z w32 (of_z w32 g)) && at_least_one (to_z w32 (of_z w32 m))) → r ≡ v → (at_least_one g && at_least_one m) ≡ v
  fits_read e q = (rw (to_z-of_z fg, to_z-of_z fm) at (sym e)) ∙ q

  pub place_read :
      (k : ℕ) (ws : List ℤ) {p q : PairPlace} → p ≡ placed (find (to_z w32 (of_z w32 g)) (to_z w32 (of_z w32 m)) k ws) → p ≡ q → placed (find g m k ws) ≡ q
  place_read k ws e q = (rw (to_z-of_z fg, to_z-of_z fm) at (sym e)) ∙ q

  pub held-read :
      (k : ℕ) (ws : List ℤ) {r v : Bool} → r ≡ is_some (find (to_z w32 (of_z w32 g)) (to_z w32 (of_z w32 m)) k ws) → r ≡ v → holds g m (table_of ws k) ≡ v
  unfolding holds
  held-read k ws e q = (rw (to_z-of_z fg, to_z-of_z fm) at (sym e)) ∙ q

-- ---- AD

module _ (t : Table) where
  full-yes : length t.words / 2 ≤ t.used → full t ≡ true
  unfolding full
  full-yes h = lt-ltb (length t.words) (2 * suc t.used) (omega arith)

  pub full-no : t.used < length t.words / 2 → full t ≡ false
  unfolding full
  full-no h = le-ltb (length t.words) (2 * suc t.used) (omega arith)

module _ (limit : ℕ) (g m : ℤ) (t : Table) where
  pub added-below : (at_least_one g && at_least_one m) ≡ false → added limit g m t ≡ halts NumberBelowOne
  unfolding added
  added-below e = rw (e, added)

  pub added-present : (at_least_one g && at_least_one m) ≡ true → holds g m t ≡ true → added limit g m t ≡ leaves t
  unfolding added
  added-present e f = rw (e, f, added)

  module _ (e : (at_least_one g && at_least_one m) ≡ true) (f : holds g m t ≡ false) where
    pub added-crowded : limit ≤ size g t → added limit g m t ≡ halts GroupFull
    unfolding added
    added-crowded h = rw (e, f, added) (rw (le-leb limit (size g t) h))

    pub added_full : size g t < limit → length t.words / 2 ≤ t.used → added limit g m t ≡ halts TableFull
    unfolding added
    added_full h k = rw (e, f, added) (rw (lt-leb limit (size g t) h, full-yes t k))

    pub added_new : size g t < limit → t.used < length t.words / 2 → added limit g m t ≡ leaves (add g m t)
    unfolding added
    added_new h k = rw (e, f, added) (rw (lt-leb limit (size g t) h, full-no t k))

-- ---- RM and QY

module _ (g m : ℤ) (t : Table) where
  pub removed-below : (at_least_one g && at_least_one m) ≡ false → removed g m t ≡ halts NumberBelowOne
  unfolding removed
  removed-below e = rw (e, removed)

  pub removed-absent : (at_least_one g && at_least_one m) ≡ true → find g m t.used t.words ≡ none → removed g m t ≡ leaves t
  unfolding removed remove
  removed-absent e f = rw (e, removed) (rw (f, remove))

  pub removed-found :
      {i : ℕ} → (at_least_one g && at_least_one m) ≡ true → find g m t.used t.words ≡ some i →
      removed g m t ≡ leaves (table_of (take_out i t.used t.words) (fewer t.used))
  unfolding removed remove
  removed-found e f = rw (e, removed) (rw (f, remove))

  pub queried-below : (at_least_one g && at_least_one m) ≡ false → queried g m t ≡ refuses NumberBelowOne
  unfolding queried
  queried-below e = rw (e, queried)

  -- the value is 1 or 0, as the pair is there or not
  pub queried-told : (r : Bool) → (at_least_one g && at_least_one m) ≡ true → holds g m t ≡ r → queried g m t ≡ gives (to_z w32 (of_z w32 (pos (bool_byte r))))
  unfolding queried
  queried-told true e f = rw (e, f, queried)
  queried-told false e f = rw (e, f, queried)

pub one_fewer : (k : ℕ) → k - 1 ≡ fewer k
unfolding fewer
one_fewer zero = refl
one_fewer (suc k) = omega arith
