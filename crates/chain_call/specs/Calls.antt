-- The answer of a run that has ended (`halt_answer`), and what a call runs on once it is admitted (`AdmittedOn`).
use Rattle.std.specs.Prelude.{ℕ, List, ◌≡◌, ℤ, pos, replicate}
use Rattle.language.specs.Call.{Engine, Fed}
use Rattle.language.specs.Text.{Block}
use Rattle.language.specs.declared.Answer.{Answer}
use Rattle.runs.specs.Admission.{Admitted}
use Rattle.call_answers.specs.Answers.{ran_answer}
use Rattle.run_state.specs.declared.Halt.{Halt}

abbrev pub halt_answer : Halt → ℕ → ℕ → Answer
halt_answer r written tally = ran_answer r.end r.steps r.offset r.pairs written tally r.designator r.links

-- a call that is admitted, in arrays that are 0
pub record AdmittedOn (code : List ℕ) (cells : List ℤ) (e : Engine) (f : Fed) : Type 0 where
  pub program : Block
  pub admitted : Admitted e f program
  pub code-zero : code ≡ replicate 4096 0
  pub cells-zero : cells ≡ replicate 8224 (pos 0)
