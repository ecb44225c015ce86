-- The engines' names and the ends as programs print them.
use Rattle.std.specs.Prelude.{ℕ, zero, suc, List, codes}
use Rattle.program_engines.specs.declared.Engine.{Engine}
use Rattle.program_engines.specs.declared.Engine.TheVariants.{Copy, Chain, Display, Search}

abbrev pub name_of : Engine → List ℕ
name_of Copy = codes "copy"
name_of Chain = codes "chain"
name_of Display = codes "display"
name_of Search = codes "search"

-- the end that an answer's first word tells
abbrev pub end_of : ℕ → List ℕ
end_of zero = codes "finished"
end_of (suc zero) = codes "spent"
end_of (suc (suc zero)) = codes "stopped"
end_of (suc (suc (suc n))) = codes "refused"
