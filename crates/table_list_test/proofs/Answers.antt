-- From what the code found to the definitions.
use Rattle.std.specs.Prelude.{Some, None}
use Prim.Native.Nat.{ℕ, ◌+◌, ◌*◌, ◌/◌, ◌≤◌, ◌<◌}
use mathlib.Core.Path.{◌≡◌, refl, sym, ◌∙◌, subst}
use mathlib.Core.Bool.{Bool, true, false, ◌&&◌}
use mathlib.Core.List.{List}
use native.Mathlib.Omega.{arith}
use lib.IntN.{ℤ, pos}
use lib.ListN.{length, take, get_or}
use lib.Seq.{get_or-take, length-take-le}
use Rattle.language.specs.Table.{Table, numbers_right, groups_within}
use Rattle.language.specs.Groups.{list_right}
use Rattle.table_places.specs.Places.{read_places, places_in, Rising}
use Rattle.table_places.specs.Places.{Places}
use Rattle.table_lists.specs.Reads.{Reads, used-reads, reads-words, reads-rising}
use Rattle.table_lists.specs.Agreeing.{agreed-true, wrong-false, untallied-false}
use Rattle.table_lefts.specs.Lefts.{TalliedIs}
use Rattle.table_windows.proofs.Windows.{PartOf, part-rising, part-tallied, part-there}

module _ (limit : ℕ) (ws : List ℤ) (count : ℕ) (fits : 2 * count ≤ length ws) (numbers : numbers_right count ws ≡ true) (lent : List ℤ)
    (long : 2 * (length ws / 2) ≤ length lent) where
  abbrev t : Table
  t = record { words = ws; used = count }

  abbrev l : List ℤ
  l = take (2 * (length ws / 2)) lent

  abbrev agree : Bool
  agree = groups_within limit t count ws && list_right t lent

  pub none-agree : {r : Places} → r ≡ read_places limit 0 count 0 l → r ≡ None → false ≡ agree
  none-agree e w = sym (wrong-false limit ws count fits numbers lent long (sym e ∙ w))

  module _ {r : Places} (read : r ≡ read_places limit 0 count 0 l) {used : ℕ} (is : r ≡ Some used) where
    reads : Reads limit 0 count used l
    reads =
        let h = used-reads limit 0 count 0 used l (sym read ∙ is) in
        let e : h.number ≡ used = omega (arith, h.is) in
        subst (λ (n : ℕ). Reads limit 0 count n l) e h.reads

    pub used-fits : 2 * used ≤ length lent
    used-fits = omega (arith, reads-words limit 0 count used l reads, length-take-le (2 * (length ws / 2)) lent long)

    within : 2 * used ≤ 2 * (length ws / 2)
    within = omega (arith, reads-words limit 0 count used l reads, length-take-le (2 * (length ws / 2)) lent long)

    -- the places in use, as they are handed on
    abbrev places : List ℤ
    places = take (2 * used) lent

    size : places_in places ≡ used
    size = omega (arith, length-take-le (2 * used) lent used-fits)

    word : (i : ℕ) → i < 2 * used → get_or places i (pos 0) ≡ get_or l i (pos 0)
    word i b = get_or-take (2 * used) lent i (pos 0) b ∙ sym (get_or-take (2 * (length ws / 2)) lent i (pos 0) (omega (arith, within)))

    part : PartOf used l 0 places
    part =
        record {
          within = omega (arith, size);
          group = λ p b. let e : 0 + p ≡ p = omega arith in rw e (word (2 * p) (omega (arith, size)));
          number = λ p b. let e : 0 + p ≡ p = omega arith in rw e (word (2 * p + 1) (omega (arith, size)));
        }

    pub used-rising : Rising (places_in places) places
    used-rising = part-rising part (reads-rising limit 0 count used l reads)

    pub exact-agree : (x : Bool) → TalliedIs x ws count places → x ≡ agree
    exact-agree true h =
        sym (agreed-true limit ws count fits numbers lent long (record {
          number = used;
          reads = reads;
          tallied = λ p b. part-there part ws count (h.0 refl) p (omega arith) (omega (arith, size));
        }))
    exact-agree false h = sym (untallied-false limit ws count fits numbers lent long used reads (λ all. h.1 refl (part-tallied part ws count all)))
