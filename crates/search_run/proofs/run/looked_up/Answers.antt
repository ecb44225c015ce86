-- The looked-up name's word stands in the innermost block, and the search leads where the stack's links do.
use Rattle.std.proofs.Common.{◌∙◌, rules}
use Rattle.search_run.specs.Looked.{word-within, search-falls, nameable, looked-designates}
use Rattle.search_run.proofs.run.looked_up.Goals as goal

pub code_at-word-requires : goal.code_at-word-requires
code_at-word-requires c = let h = word-within c.requires in search rules

pub first_cell-first-requires : goal.first_cell-first-requires
first_cell-first-requires c = let h = word-within c.requires in (search-falls c.requires, search rules)

pub name_designator-requires : goal.name_designator-requires
name_designator-requires c = λ d. search nameable

pub returns : goal.returns
returns c = λ w. c.name_designator.ensures ∙ looked-designates w {b = c.from_u16-place.result} (search rules) (search rules) (search rules)
