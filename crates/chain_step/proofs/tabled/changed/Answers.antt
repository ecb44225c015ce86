-- AD and RM have two names.
use Rattle.std.proofs.Common.{arith}
use Rattle.run_classes.specs.Asking.{pair_class}
use Rattle.chain_links.specs.Finding.{first_cell}
use Rattle.chain_step.specs.Acted.{by-class, ready, at_there}
use Rattle.chain_step.proofs.tabled.changed.Goals as goal

pub first_cell-first-requires : goal.first_cell-first-requires
first_cell-first-requires c = ((by-class c.requires.stating pair_class c.requires.class-is).one, c.requires.own_is)

pub first_cell-second-requires : goal.first_cell-second-requires
first_cell-second-requires c = ((by-class c.requires.stating pair_class c.requires.class-is).other, c.requires.own_is)

pub act_pair-done-requires : goal.act_pair-done-requires
act_pair-done-requires c =
    let s = c.requires.stating in
    let a = c.first_cell-first in
    let b = c.first_cell-second in (
      at_there s,
      c.requires.class-is,
      ready s 0 0 (omega arith) (omega arith) a.result b.result 0
          ((by-class s pair_class c.requires.class-is).led a.result b.result a.ensures b.ensures),
    )

pub returns : goal.returns
returns c =
    let a = c.first_cell-first in
    let b = c.first_cell-second in
    λ w. record {
      move = c.act_pair-done.result;
      did = c.act_pair-done.ensures (first_cell c.args.records.now c.args.here.live c.args.here.level) w.activations c.args.here.live
          ((by-class w.stating pair_class w.class-is).led a.result b.result a.ensures b.ensures);
      is = c.came_to.ensures;
    }
