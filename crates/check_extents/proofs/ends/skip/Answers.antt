-- `check_extents::ends::skip` meets its contract: a case for each way out. Assumes nothing.
use borrow.Author.Rules.{rules}
use mathlib.Core.Path.{refl, sym, ◌∙◌}
use Rattle.check_extents.proofs.Skipping.{passed-VR, skipped-out, skipped-head}
use Rattle.check_extents.proofs.ends.skip.Goals as goal

pub returns-then-mark-eq-VR : goal.returns-then-mark-eq-VR
returns-then-mark-eq-VR c =
    let m = sym c.word-mark.ensures.0 ∙ c.if-mark-eq-VR.true in
    record { skipped = skipped-head c.args.script.now c.args.at c.if-script-at.false _ (passed-VR c.args.script.now c.args.at m) refl; noted = c.requires.1 }

pub returns : goal.returns
returns c =
    record { skipped = skipped-head c.args.script.now c.args.at c.if-script-at.false _ c.past.ensures refl; noted = c.requires.1 }

pub returns-then-script-at : goal.returns-then-script-at
returns-then-script-at c = search (rules, skipped-out)
