-- A case for each operation.
use Rattle.std.proofs.Common.{rules}
use Rattle.run_moves.specs.Acting.{operations}
use Rattle.run_classes.specs.Asking.{class_of}
use Rattle.run_classes.specs.Classes.{class-at, one_left}
use Rattle.run_classes.proofs.class_of.Goals as goal

pub returns-in-0 : goal.returns-in-0
unfolding operations class_of
returns-in-0 c = class-at c.code_at.ensures.0 c.operation_of.ensures.0 0 c.in-0.is

pub returns-in-1 : goal.returns-in-1
unfolding operations class_of
returns-in-1 c = class-at c.code_at.ensures.0 c.operation_of.ensures.0 1 c.in-1.is

pub returns-in-2 : goal.returns-in-2
unfolding operations class_of
returns-in-2 c = class-at c.code_at.ensures.0 c.operation_of.ensures.0 2 c.in-2.is

pub returns-in-3 : goal.returns-in-3
unfolding operations class_of
returns-in-3 c = class-at c.code_at.ensures.0 c.operation_of.ensures.0 3 c.in-3.is

pub returns-in-4 : goal.returns-in-4
unfolding operations class_of
returns-in-4 c = class-at c.code_at.ensures.0 c.operation_of.ensures.0 4 c.in-4.is

pub returns-in-5 : goal.returns-in-5
unfolding operations class_of
returns-in-5 c = class-at c.code_at.ensures.0 c.operation_of.ensures.0 5 c.in-5.is

pub returns-in-6 : goal.returns-in-6
unfolding operations class_of
returns-in-6 c = class-at c.code_at.ensures.0 c.operation_of.ensures.0 6 c.in-6.is

pub returns-in-7 : goal.returns-in-7
unfolding operations class_of
returns-in-7 c = class-at c.code_at.ensures.0 c.operation_of.ensures.0 7 c.in-7.is

pub returns-in-8 : goal.returns-in-8
unfolding operations class_of
returns-in-8 c = class-at c.code_at.ensures.0 c.operation_of.ensures.0 8 c.in-8.is

pub returns-in-9 : goal.returns-in-9
unfolding operations class_of
returns-in-9 c = class-at c.code_at.ensures.0 c.operation_of.ensures.0 9 c.in-9.is

pub returns-in-10 : goal.returns-in-10
unfolding operations class_of
returns-in-10 c = class-at c.code_at.ensures.0 c.operation_of.ensures.0 10 c.in-10.is

pub returns-in-11 : goal.returns-in-11
unfolding operations class_of
returns-in-11 c = class-at c.code_at.ensures.0 c.operation_of.ensures.0 11 c.in-11.is

pub returns-in-12 : goal.returns-in-12
unfolding operations class_of
returns-in-12 c = class-at c.code_at.ensures.0 c.operation_of.ensures.0 12 c.in-12.is

pub returns-in-13 : goal.returns-in-13
unfolding operations class_of
returns-in-13 c = class-at c.code_at.ensures.0 c.operation_of.ensures.0 13 c.in-13.is

pub returns-in-14 : goal.returns-in-14
unfolding operations class_of
returns-in-14 c = class-at c.code_at.ensures.0 c.operation_of.ensures.0 14 c.in-14.is

pub returns-in_default : goal.returns-in_default
returns-in_default c = one_left c.code_at.ensures.0 c.operation_of.ensures.0 (search rules)
