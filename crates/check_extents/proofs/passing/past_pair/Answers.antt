-- `check_extents::passing::past_pair` meets its contract: no other number of fields than AD's is known of the mark. Assumes nothing.
use Prim.Native.Nat.{◌+◌}
use mathlib.Core.Path.{◌≡◌, sym, subst}
use native.Mathlib.Omega.{arith}
use Rattle.language.specs.Structure.{stmt_marks}
use Rattle.laws.specs.Fields.{field_at}
use Rattle.check_marks.specs.Marks.{fit_in, fit_at}
use Rattle.check_marks.specs.Counts.{field_count}
use Rattle.check_extents.specs.Passing.{TwoFields}
use Rattle.check_extents.proofs.Skipping.{count-two, size-other, child-other}
use Rattle.check_extents.proofs.passing.past_pair.Goals as goal

pub returns : goal.returns
unfolding field_count fit_at fit_in stmt_marks
returns c =
    let a = c.args in
    let w = field_at a.script.now a.at in
    let two : TwoFields w = subst TwoFields c.requires.1 c.requires.2 in
    let n : c.field_count.result ≡ 2 = c.field_count.ensures.0 in
    let k = count-two w two in
    let e = size-other w (field_at a.script.now (a.at + 4)) two.no-CL in
    record {
      next-is = omega arith;
      more-is = sym (child-other w (field_at a.script.now (a.at + 2)) (field_at a.script.now (a.at + 4)) two.no-BK two.no-PR);
      on = omega arith;
      near = omega arith;
      few = omega arith;
    }
