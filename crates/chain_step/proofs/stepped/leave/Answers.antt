-- The run is over, or the activation below goes on, whose record is read.
use Rattle.std.proofs.Common.{◌-◌, sym, ap, subst, arith}
use Rattle.chain_records.specs.declared.Activation.{Activation}
use Rattle.run_state.specs.declared.Turn.{Turn}
use Rattle.run_state.specs.declared.Turn.TheVariants.{Went}
use Rattle.run_state.specs.Turns.{above_zero}
use Rattle.chain_links.specs.Moving.{block-fits}
use Rattle.chain_step.specs.Turning.{Turned}
use Rattle.chain_step.specs.Turns.{leaves-on}
use Rattle.chain_step.proofs.stepped.leave.Goals as goal

pub left-requires : goal.left-requires
left-requires c =
    let live = c.args.here.live in
    let h = block-fits c.requires.running (live - 1) (omega arith) in
    (omega (arith, h, ap (λ (b : Activation). b.block) c.read-activation.ensures), above_zero live c.if-here-eq0.false)

pub returns : goal.returns
returns c =
    λ v. subst (λ (t : Turn). Turned v.running t v.cells c.args.records.now v.table) (sym (ap Went c.left.ensures))
    (leaves-on v.running v.ended c.if-here-eq0.false c.read-activation.result c.read-activation.ensures)
