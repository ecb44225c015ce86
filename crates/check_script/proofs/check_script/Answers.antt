-- A refusal of the structure is the check's, and a script that is fit in structure is judged by its names.
use Rattle.std.proofs.Common.{rules}
use Rattle.check_script.proofs.Halves.{refused-whole, fit-whole, fit_length}
use Rattle.check_script.proofs.check_script.Goals as goal

pub returns-in_err-structure : goal.returns-in_err-structure
returns-in_err-structure c =
    refused-whole _ _ c.structure.ensures _ _ c.in_err-structure.was (search rules)

pub returns : goal.returns
returns c =
    let s = c.structure.ensures in
    let fits = c.in_ok-structure.was in
    fit-whole _ _ s _ fits (c.scope_verdict.ensures (fit_length _ _ s fits))
