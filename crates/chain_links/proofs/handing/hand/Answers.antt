-- One argument more is handed on; at the end no other is left.
use Rattle.std.proofs.Common.{refl, arith, rules}
use Rattle.chain_links.proofs.Handed.{all_set, passing, kept_on, same-on, none_left}
use Rattle.chain_links.proofs.handing.hand.Goals as goal

pub overflow_mul-own : goal.overflow_mul-own
overflow_mul-own c = let few = c.requires.live-few in search rules

pub loop-field-init : goal.loop-field-init
loop-field-init c = record {
  low = omega arith;
  high = c.requires.low;
  kept = λ k h. refl;
  same = all_set c.args.code.now c.args.cells.now c.args.records.now c.args.here c.args.last;
}

pub first_cell-first-requires : goal.first_cell-first-requires
first_cell-first-requires c = (c.requires.named c.loop-field.field c.loop-field.invariant.low c.loop-field-test.true, refl)

pub pass-requires : goal.pass-requires
pass-requires c =
    let s = c.args in
    let l = c.loop-field in
    passing s.code.now s.cells.now s.records.now s.here s.last c.requires l.cells l.field l.invariant.low c.loop-field-test.true
    c.first_cell-first.result c.first_cell-first.ensures

pub loop-field-preserved : goal.loop-field-preserved
loop-field-preserved c =
    let s = c.args in
    let l = c.loop-field in
    record {
      low = omega arith;
      high = omega arith;
      kept = kept_on s.code.now s.cells.now s.records.now s.here s.last c.requires l.cells l.field l.invariant.low c.loop-field-test.true
          c.first_cell-first.result c.first_cell-first.ensures l.invariant.kept c.pass.new.cells c.pass.ensures;
      same = same-on s.code.now s.cells.now s.records.now s.here s.last c.requires l.cells l.field l.invariant.low c.loop-field-test.true
          c.first_cell-first.result c.first_cell-first.ensures l.invariant.kept c.pass.new.cells c.pass.ensures l.invariant.same;
    }

pub returns : goal.returns
returns c =
    let s = c.args in
    let l = c.loop-field in
    none_left s.code.now s.cells.now s.records.now s.here s.last c.requires l.cells l.field l.invariant.low c.loop-field-test.false l.invariant.same
