-- Causes and numbers: the paper's number for each case of the answer's enums.
use Rattle.std.specs.Prelude.{ℕ, List, [], ◌∷◌}
use Rattle.language.specs.declared.Stop.{Stop}
use Rattle.language.specs.declared.Stop.TheVariants.{ResultTooLarge, NoActivationLeft, NumberBelowOne, GroupFull, TableFull, ArgumentsDiffer}
use Rattle.language.specs.declared.Refusal.{Refusal}
use Rattle.language.specs.declared.Refusal.TheVariants.{ScriptLength, PastTheEnd, MarkMisplaced, FieldRange, BytesAfter, NestingDepth, TooManyNames, NameTwice, NotVisible, WrongKind, CallMismatch, LimitRange, AreaTooShort, TableNotRight}
use Rattle.language.specs.declared.End.{End}
use Rattle.language.specs.declared.End.TheVariants.{Finished, Spent, Stopped, Refused}
use Rattle.language.specs.declared.Answer.{Answer}

abbrev pub stop_number : Stop → ℕ
stop_number ResultTooLarge = 21
stop_number NoActivationLeft = 22
stop_number NumberBelowOne = 23
stop_number GroupFull = 24
stop_number TableFull = 25
stop_number ArgumentsDiffer = 26

abbrev pub refusal_number : Refusal → ℕ
refusal_number ScriptLength = 1
refusal_number PastTheEnd = 2
refusal_number MarkMisplaced = 3
refusal_number FieldRange = 4
refusal_number BytesAfter = 5
refusal_number NestingDepth = 6
refusal_number TooManyNames = 7
refusal_number NameTwice = 8
refusal_number NotVisible = 9
refusal_number WrongKind = 10
refusal_number CallMismatch = 11
refusal_number LimitRange = 12
refusal_number AreaTooShort = 13
refusal_number TableNotRight = 14

-- the end as the C interface numbers it
abbrev pub end_number : End → ℕ
end_number Finished = 0
end_number Spent = 1
end_number (Stopped s) = 2
end_number (Refused r) = 3

-- the cause's number, 0 where there is none
abbrev pub cause_number : End → ℕ
cause_number Finished = 0
cause_number Spent = 0
cause_number (Stopped s) = stop_number s
cause_number (Refused r) = refusal_number r

-- an answer as the C interface writes it
unfoldable pub answer_words : Answer → List ℕ
answer_words a =
    end_number a.end ∷ cause_number a.end ∷ a.steps ∷ a.offset ∷ a.pairs ∷ a.sheet ∷ a.tally ∷ a.designator ∷ a.links ∷ []
