use Rattle.std.proofs.Common.{arith}
use Rattle.table_lefts.proofs.Lowering.{lowered-there}
use Rattle.table_lefts.proofs.lower.Goals as goal

pub offset_bounds-lefts-place : goal.offset_bounds-lefts-place
offset_bounds-lefts-place c = let f = c.seek.ensures.there c.in-Some.place c.in-Some.is in omega (arith, f.0)

pub bounds-lefts-place : goal.bounds-lefts-place
bounds-lefts-place c = let f = c.seek.ensures.there c.in-Some.place c.in-Some.is in omega (arith, f.0)

pub returns-then-lefts-place-eq0-clause-exhausted : goal.returns-then-lefts-place-eq0-clause-exhausted
returns-then-lefts-place-eq0-clause-exhausted c =
    let f = c.seek.ensures.there c.in-Some.place c.in-Some.is in
    λ e. record { place = c.in-Some.place; within = f.0; here = f.1; none = c.if-lefts-place-eq0.true }

pub returns-clause-lowered : goal.returns-clause-lowered
returns-clause-lowered c =
    let f = c.seek.ensures.there c.in-Some.place c.in-Some.is in
    λ e. lowered-there c.args.places.now c.requires.rising c.in-Some.place c.args.group c.args.lefts.now (omega (arith, f.0)) f.0 f.1 c.if-lefts-place-eq0.false
