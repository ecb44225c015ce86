-- Causes and numbers: a refusal of the script with its offset, as the code's struct has it; and what the code answers that may be one.
use Rattle.std.specs.Prelude.{Result, ℕ}
use Rattle.language.specs.declared.Refusal.{Refusal}
use Rattle.language.specs.declared.Fault.{Fault}

abbrev pub fault : Refusal → ℕ → Fault
fault c o = record { cause = c; offset = o }

-- a script is fit to run, or is refused
abbrev pub Verdict : Type 0
Verdict = Result (Unit {0}) Fault

-- where reading goes on, or a refusal
abbrev pub Progress : Type 0
Progress = Result ℕ Fault
