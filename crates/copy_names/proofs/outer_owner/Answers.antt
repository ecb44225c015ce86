-- Halved upwards or downwards, until nothing is left between.
use Rattle.std.proofs.Common.{◌+◌, ◌/◌, ◌≤◌, sym, arith}
use Rattle.copy_names.specs.Search.{owner-is, narrowed-first, narrowed-up, narrowed-down}
use Rattle.copy_names.proofs.outer_owner.Goals as goal

pub loop-high-init : goal.loop-high-init
loop-high-init c =
    record { apart = omega arith; within = omega arith; narrowed = narrowed-first _ _ _ c.requires.2 }

pub loop-high-preserved-then-first_of-name : goal.loop-high-preserved-then-first_of-name
loop-high-preserved-then-first_of-name c =
    let l = c.loop-high in
    let up : l.low ≤ (l.low + l.high) / 2 = omega arith in
    let down : (l.low + l.high) / 2 ≤ l.high = omega arith in
    record {
      apart = down;
      within = l.invariant.within;
      narrowed = narrowed-up _ _ _ _ _ _ up (omega (arith, l.invariant.within)) (omega arith) l.invariant.narrowed;
    }

pub loop-high-preserved : goal.loop-high-preserved
loop-high-preserved c =
    let l = c.loop-high in
    let up : l.low ≤ (l.low + l.high) / 2 = omega arith in
    let down : (l.low + l.high) / 2 ≤ l.high = omega arith in
    record {
      apart = up;
      within = omega (arith, l.invariant.within);
      narrowed = narrowed-down _ _ _ _ _ _ c.requires.1 (omega arith) l.invariant.narrowed;
    }

pub returns : goal.returns
returns c =
    let n = c.loop-high.invariant.narrowed in
    (sym (owner-is _ _ _ _ _ (omega arith) n), n.within)
