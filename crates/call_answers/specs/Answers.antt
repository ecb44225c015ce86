-- The two kinds of answer, from what the code has of a call.
use Rattle.std.specs.Prelude.{ℕ, ◌+◌}
use Rattle.language.specs.declared.Refusal.{Refusal}
use Rattle.language.specs.declared.End.{End}
use Rattle.language.specs.declared.End.TheVariants.{Refused}
use Rattle.language.specs.declared.Answer.{Answer}

abbrev pub refused_answer : Refusal → ℕ → ℕ → ℕ → Answer
refused_answer cause offset pairs tally =
    record { end = Refused cause; steps = 0; offset = offset; pairs = pairs; sheet = 0; tally = tally; designator = 0; links = 0 }

abbrev pub ran_answer : End → ℕ → ℕ → ℕ → ℕ → ℕ → ℕ → ℕ → Answer
ran_answer end steps offset pairs sheet tally designator links =
    record { end = end; steps = steps; offset = offset; pairs = pairs; sheet = sheet; tally = tally + steps; designator = designator; links = links }
