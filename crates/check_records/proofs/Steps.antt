-- What a caller of the record reader learns of the definitions' reader: the record that it gives, and where it goes on.
-- Assumes nothing.
use mathlib.Core.Path.{◌≡◌, refl}
use mathlib.Core.List.{List}
use Prim.Native.Nat.{ℕ, ◌+◌, ◌*◌, ◌%◌, ◌≤◌}
use native.Mathlib.Omega.{arith}
use native.Mathlib.Decide.{dec_le}
use lib.ListN.{length, get_or}
use Rattle.language.specs.Encoding.{two}
use Rattle.language.specs.Structure.{Reading as Outcome, read, refuse, Row, Record, take-record}
use Rattle.language.specs.declared.Refusal.{Refusal}
use Rattle.check_marks.specs.Marks.{Fit, fit_in}
use Rattle.check_records.specs.Taking.{unread, taken}
use Rattle.check_marks.specs.declared.Mark.{Mark}
use Rattle.check_marks.specs.declared.Mark.TheVariants.{BK}
use Rattle.check_marks.proofs.Table.{matched}
use Rattle.std.specs.Prelude.{Some, None}
use Rattle.check_records.specs.declared.Reading.TheVariants.{Taken, Refused}
use Rattle.check_records.proofs.Taking.{no-mark, misplaced, cut_off, whole}

-- what is left after a record is what stands from its end on
abbrev pub Resumes : {M : Type 0} → List ℕ → ℕ → Outcome (Record M) → Type 0
Resumes bs at (read r next ws) = (r.at ≡ at) × (ws ≡ unread bs next) × (at + 2 ≤ next) × (next ≤ length bs) × (next % 2 ≡ at % 2)
Resumes bs at (refuse c o) = Unit {0}

module _ {M : Type 0} (rows : List (Row M)) (bs : List ℕ) (at : ℕ) where
  any_mark : M → Mark
  any_mark m = BK

  -- by whether the mark is there, whether it fits, and whether its fields are there
  by-fields : (n : ℕ) (m : Mark) → at + 2 ≤ length bs → fit_in any_mark (two (get_or bs at 0) (get_or bs (at + 1) 0)) rows ≡ matched n m → Dec (at + 2 + 2 * n ≤ length bs) → Resumes bs at (take-record rows at (unread bs at))
  by-fields n m h e (yes fits) = rw (whole rows bs at any_mark n m h e fits) (refl, refl, omega arith, fits, omega arith)
  by-fields n m h e (no short) = rw (cut_off rows bs at any_mark n m h e (omega arith)) tt

  by-fit : (x : Fit) → at + 2 ≤ length bs → fit_in any_mark (two (get_or bs at 0) (get_or bs (at + 1) 0)) rows ≡ x → Resumes bs at (take-record rows at (unread bs at))
  by-fit (Some m) h e = by-fields m.count m.mark h e (dec_le (at + 2 + 2 * m.count) (length bs))
  by-fit None h e = rw (misplaced rows bs at any_mark h e) tt

  by-mark : Dec (at + 2 ≤ length bs) → Resumes bs at (take-record rows at (unread bs at))
  by-mark (yes h) = by-fit (fit_in any_mark (two (get_or bs at 0) (get_or bs (at + 1) 0)) rows) h refl
  by-mark (no h) = rw (no-mark rows bs at (omega arith)) tt

  pub resumes : Resumes bs at (take-record rows at (unread bs at))
  resumes = by-mark (dec_le (at + 2) (length bs))

-- the definitions' record for the code's
pub record Step {M : Type 0} (f : M → Mark) (rows : List (Row M)) (bs : List ℕ) (at : ℕ) (m : Mark) (next f0 f1 f2 f3 : ℕ) : Type 0 where
  pub taking : Record M
  pub reads : take-record rows at (unread bs at) ≡ read taking next (unread bs next)
  pub at-is : taking.at ≡ at
  pub mark-is : f taking.mark ≡ m
  pub f0-is : get_or taking.fields 0 0 ≡ f0
  pub f1-is : get_or taking.fields 1 0 ≡ f1
  pub f2-is : get_or taking.fields 2 0 ≡ f2
  pub f3-is : get_or taking.fields 3 0 ≡ f3

module _ {M : Type 0} (f : M → Mark) (rows : List (Row M)) (bs : List ℕ) (at : ℕ) where
  step_from : {m : Mark} {next f0 f1 f2 f3 : ℕ} (x : Outcome (Record M)) → take-record rows at (unread bs at) ≡ x → Resumes bs at x → taken f x ≡ Taken m next f0 f1 f2 f3 → Step f rows bs at m next f0 f1 f2 f3
  unfolding taken
  step_from (read r o ws) q s e =
      record { taking = r; reads = cc; at-is = s.0; mark-is = cc; f0-is = cc; f1-is = cc; f2-is = cc; f3-is = cc }
  step_from (refuse c o) q s e = let z : ◌≡◌ {A = ℕ} 0 1 = cc in absurd (omega arith)

  pub stepped : {m : Mark} {next f0 f1 f2 f3 : ℕ} → taken f (take-record rows at (unread bs at)) ≡ Taken m next f0 f1 f2 f3 → Step f rows bs at m next f0 f1 f2 f3
  stepped e = step_from (take-record rows at (unread bs at)) refl (resumes rows bs at) e

  stop-from : {c : Refusal} {o : ℕ} (x : Outcome (Record M)) → taken f x ≡ Refused c o → x ≡ refuse c o
  unfolding taken
  stop-from (read r p ws) e = let z : ◌≡◌ {A = ℕ} 0 1 = cc in absurd (omega arith)
  stop-from (refuse d p) e = cc

  pub stopped : {c : Refusal} {o : ℕ} → taken f (take-record rows at (unread bs at)) ≡ Refused c o → take-record rows at (unread bs at) ≡ refuse c o
  stopped e = stop-from (take-record rows at (unread bs at)) e
