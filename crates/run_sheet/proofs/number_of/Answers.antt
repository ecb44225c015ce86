-- `number_of` meets its contract: the walk ends at the next statement.
use Rattle.std.proofs.Common.{◌+◌, sym, ap, ◌∙◌, add-one, arith}
use Rattle.resolved.specs.Layout.{first_in}
use Rattle.run_sheet.specs.Shown.{on, counted}
use Rattle.run_sheet.proofs.number_of.Goals as goal

pub loop-at-init : goal.loop-at-init
loop-at-init c = record {
  from_one = omega arith;
  few = omega arith;
  here = λ n h. (h.one, c.first_of-at.ensures ∙ ap first_in c.code_at.ensures.0 ∙ h.first);
}

pub size_at-at-requires : goal.size_at-at-requires
size_at-at-requires c =
    let i = c.loop-at.invariant in
    (on c.requires.counts i.from_one (i.here _ c.requires.counts) (omega arith)).1.readable

pub loop-at-smaller : goal.loop-at-smaller
loop-at-smaller c =
    let i = c.loop-at.invariant in
    let s = (on c.requires.counts i.from_one (i.here _ c.requires.counts) (omega arith)).1 in
    omega (arith, s.rises, s.after, c.size_at-at.ensures.0)

pub loop-at-preserved : goal.loop-at-preserved
loop-at-preserved c =
    let i = c.loop-at.invariant in
    let s = (on c.requires.counts i.from_one (i.here _ c.requires.counts) (omega arith)).1 in record {
      from_one = omega arith;
      few = omega (arith, s.rises, s.after, c.size_at-at.ensures.0);
      here =
          λ n h.
          let o = on h i.from_one (i.here n h) (omega arith) in
          (omega (arith, o.0), ap (λ v. c.loop-at.at + v) c.size_at-at.ensures.0 ∙ sym o.1.after ∙ ap h.places (sym (add-one c.loop-at.number)));
    }

pub returns : goal.returns
returns c =
    let w = c.requires.counts in
    let i = c.loop-at.invariant in
    let e = counted w _ i.from_one (i.here _ w).0 (omega (arith, (i.here _ w).1)) in record {
      by_index = λ n h. counted h _ i.from_one (i.here n h).0 (omega (arith, (i.here n h).1));
      upper_bound = omega (arith, (i.here _ w).1, ap w.places e, w.last);
    }
