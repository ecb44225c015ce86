-- The statement is asked for three names, and does what its operation does.
use Rattle.chain_links.specs.Finding.{first_cell}
use Rattle.chain_step.specs.Acted.{adds}
use Rattle.chain_step.proofs.summed.added.Goals as goal

pub first_cell-second-requires : goal.first_cell-second-requires
first_cell-second-requires c = ((adds c.requires.stating c.requires.class-is).named.1, c.requires.own_is)

pub first_cell-third-requires : goal.first_cell-third-requires
first_cell-third-requires c = ((adds c.requires.stating c.requires.class-is).named.2, c.requires.own_is)

pub first_cell-first-requires : goal.first_cell-first-requires
first_cell-first-requires c = ((adds c.requires.stating c.requires.class-is).named.0, c.requires.own_is)

pub do_add-done-requires : goal.do_add-done-requires
do_add-done-requires c =
    (adds c.requires.stating c.requires.class-is).asks c.first_cell-first.result c.first_cell-second.result c.first_cell-third.result
    c.first_cell-first.ensures c.first_cell-second.ensures c.first_cell-third.ensures

pub returns : goal.returns
returns c =
    λ w. record {
      move = c.do_add-done.result;
      did = (adds w.stating w.class-is).did (c.do_add-done.ensures (first_cell c.args.records.now c.args.here.live c.args.here.level)
          c.first_cell-first.ensures c.first_cell-second.ensures c.first_cell-third.ensures);
      is = c.came_to.ensures;
    }
