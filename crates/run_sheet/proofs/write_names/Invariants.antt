-- The words written so far are the first of the names, after what stood there before.
use Rattle.std.proofs.Common.{List, ◌++◌, ◌≡◌, ℤ, length, take}
use Rattle.language.specs.Call.{written}
use Rattle.run_sheet.specs.Shown.{Owned}
use Rattle.run_sheet.proofs.write_names.Given as goal

abbrev pub invariant-loop-i : goal.invariant-loop-i
invariant-loop-i l = record {
  same_length : length l.sheet ≡ length l.fn.sheet;
  so_far :
      (own ws base : List ℤ) → Owned l.cells l.first l.formals own → length own ≡ l.count → l.fn.sheet ≡ written ws base → length ws ≡ l.at
      → l.sheet ≡ written (ws ++ take l.i own) base;
}
