-- `check_extents::passing::past` meets its contract: CL, and the other marks. Assumes nothing.
use Prim.Native.Nat.{ℕ, ◌+◌, ◌≤◌}
use mathlib.Core.List.{List}
use mathlib.Core.Path.{◌≡◌, sym, ap, ◌∙◌}
use native.Mathlib.Omega.{arith}
use Rattle.language.specs.Encoding.{BK-mark, PR-mark}
use Rattle.check_marks.specs.Counts.{field_count}
use Rattle.laws.specs.Fields.{field_at}
use Rattle.check_extents.specs.Items.{head_size}
use Rattle.check_extents.specs.Passing.{Alone}
use Rattle.check_extents.proofs.Skipping.{count-CL, size-CL, size-other, child-other}
use Rattle.check_extents.proofs.passing.past.Goals as goal

-- a mark other than BK and PR, passed
module _ (bs : List ℕ) (at mark : ℕ) (is : mark ≡ field_at bs at) (no-BK : mark ≡ BK-mark → ⊥) (no-PR : mark ≡ PR-mark → ⊥) where
  alone : (end : ℕ) → end ≡ at + head_size (field_at bs at) (field_at bs (at + 4)) → at + 2 ≤ end → end ≤ at + 131076 → Alone bs at end
  alone end e low high =
      record {
        next-is = e;
        more-is = sym (child-other (field_at bs at) (field_at bs (at + 2)) (field_at bs (at + 4)) (λ p. no-BK (is ∙ p)) (λ p. no-PR (is ∙ p)));
        on = low;
        near = high;
        few = omega arith;
      }

pub returns-then-mark-eq-CL : goal.returns-then-mark-eq-CL
returns-then-mark-eq-CL c =
    let bs = c.args.script.now in
    let at = c.args.at in
    let r = c.requires in
    let m = sym r.2 ∙ c.if-mark-eq-CL.true in
    let e = size-CL (field_at bs at) (field_at bs (at + 4)) m in
    let two = count-CL (field_at bs at) m in
    let n = c.field_count.ensures.0 ∙ ap field_count r.2 in
    alone bs at c.args.mark r.2 r.3 r.4 _ (omega arith) (omega arith) (omega arith)

pub returns : goal.returns
returns c =
    let bs = c.args.script.now in
    let at = c.args.at in
    let r = c.requires in
    let e = size-other (field_at bs at) (field_at bs (at + 4)) (λ p. c.if-mark-eq-CL.false (r.2 ∙ p)) in
    let n = c.field_count.ensures.0 ∙ ap field_count r.2 in
    alone bs at c.args.mark r.2 r.3 r.4 _ (omega arith) (omega arith) (omega arith)
