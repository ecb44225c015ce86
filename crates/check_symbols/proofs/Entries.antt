-- What is found from an entry on.
-- Assumes nothing.
use Rattle.std.specs.Prelude.{Some, None}
use mathlib.Core.Path.{◌≡◌, sym, ◌∙◌}
use mathlib.Core.List.{List}
use Prim.Native.Nat.{ℕ, ◌+◌, ◌/◌, ◌%◌, ◌<◌, ◌≤◌, ◌^◌}
use native.Mathlib.Numerals.{add-one}
use native.Mathlib.Omega.{arith}
use lib.ListN.{length, get_or, drop, drop_of_length-le}
use lib.Seq.{drop-cons}
use borrow.Author.Tests.{eq-eqb, ne_eqb}
use Rattle.check_symbols.specs.Entries.{found_in, Near, Seeking}
use Rattle.check_symbols.specs.Entries.{Binding}

-- the entries from i on
pub found_at : (n : ℕ) (es : List ℕ) (i : ℕ) → i < length es → get_or es i 0 % 65536 ≡ n → found_in n (drop i es) ≡ Some (get_or es i 0 / 65536)
unfolding found_in
found_at n es i h e = rw (drop-cons es i 0 h, eq-eqb n (get_or es i 0 % 65536) (sym e), found_in)

pub found-later : (n : ℕ) (es : List ℕ) (i : ℕ) → i < length es → (get_or es i 0 % 65536 ≡ n → ⊥) → found_in n (drop i es) ≡ found_in n (drop (i + 1) es)
unfolding found_in
found-later n es i h e = rw (add-one, drop-cons es i 0 h, ne_eqb n (get_or es i 0 % 65536) (λ p. e (sym p)), found_in)

pub found_none : (n : ℕ) (es : List ℕ) (i : ℕ) → length es ≤ i → found_in n (drop i es) ≡ None
unfolding found_in
found_none n es i h = rw (drop_of_length-le es h)

pub near-place : (r : Binding) (place : ℕ) → r ≡ Some place → Near r → place < 2 ^ 48
near-place r place e h = rw e at h

-- the search as the code has it: an entry read, the next one, none left
module _ {es : List ℕ} {top n i : ℕ} (s : Seeking es top n i) where
  pub seeking-hit : i < length es → get_or es i 0 % 65536 ≡ n → Some (get_or es i 0 / 65536) ≡ found_in n (drop top es)
  seeking-hit h e = sym (found_at n es i h e) ∙ s.same

  pub seeking-on : {j : ℕ} → i < j → found_in n (drop j es) ≡ found_in n (drop i es) → Seeking es top n j
  seeking-on l e = record { from = omega (arith, s.from); same = e ∙ s.same }

  pub seeking-none : length es ≤ i → None ≡ found_in n (drop top es)
  seeking-none h = sym (found_none n es i h) ∙ s.same
