-- The engine stands where the program begins, once the program's record is written.
use Rattle.std.proofs.Common.{set, ap, ◌∙◌}
use Rattle.chain_run.proofs.Endings.{room-first, starts, program-run}
use Rattle.chain_run.proofs.run.run_program.Goals as goal

pub push-requires : goal.push-requires
push-requires c = (room-first c.requires.beginning).there

pub run-requires-clause-running : goal.run-requires-clause-running
run-requires-clause-running c =
    starts c.requires.beginning c.push.new.records (c.push.ensures ∙ ap (set c.args.records.now 0) c.program_record.ensures)
    c.begin-start.result c.begin-start.ensures

pub returns-clause-ended : goal.returns-clause-ended
returns-clause-ended c =
    λ b. program-run b c.push.new.records (c.push.ensures ∙ ap (set c.args.records.now 0) c.program_record.ensures) c.begin-start.result c.begin-start.ensures
    c.args.allowance c.run.result c.run.new.cells c.run.new.records c.run.new.table c.run.ensures.run_from
