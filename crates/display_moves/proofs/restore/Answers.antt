-- What is known where a level is left, and one level more put right.
use Rattle.std.proofs.Common.{ℕ, suc, ◌*◌, ◌<◌, List, refl, sym, ◌∙◌, subst, arith, rules, length-set}
use Rattle.frames.specs.Numbered.{numbered-high}
use Rattle.arrays.specs.Displays.{Restoring, restoring-starts, restoring-bound, restoring_step, restoring-through, restoring-meets}
use Rattle.display_moves.specs.Running.{Restorable}
use Rattle.display_moves.proofs.restore.Goals as goal

within : {links display : List ℕ} {activation level sure : ℕ} (w : Restorable links display activation level sure) (display' : List ℕ) (a l : ℕ) →
    Restoring w.frames w.old (suc activation) display' a l → 0 < l → (l < 256) × (a < 256)
within {activation = activation} w display' a l r some = (
  omega (arith, r.within, w.level-is, w.level-high),
  omega (arith, restoring-bound w.frames w.down w.old (suc activation) display' a l r some, numbered-high w.frames (suc activation) w.frame w.there, w.few),
)

pub loop-l-init : goal.loop-l-init
loop-l-init c = record {
  right = λ w. subst (λ l. Restoring w.frames w.old (suc c.args.activation) c.args.display.now c.args.activation l)
      (sym w.level-is) (restoring-starts w.frames w.down w.old (suc c.args.activation) c.args.display.now w.shows);
  long = refl;
}

pub overflow_mul-a : goal.overflow_mul-a
overflow_mul-a c =
    let l = c.loop-l in
    let h : (l.l < 256) × (l.a < 256) = within c.requires l.display l.a l.l (l.invariant.right c.requires) c.loop-l-test.true in
    search rules

pub returns-then-from_u16-a-clause-shows_from : goal.returns-then-from_u16-a-clause-shows_from
returns-then-from_u16-a-clause-shows_from c =
    let l = c.loop-l in
    λ w. restoring-meets w.frames w.down w.old (suc c.args.activation) l.display l.a l.l (l.invariant.right w) c.loop-l-test.true
    (omega (arith, w.sure-is, c.if-l-sure.true))
    (sym c.from_u16.ensures.0 ∙ c.if-from_u16-a.true)

pub overflow_mul-display : goal.overflow_mul-display
overflow_mul-display c =
    let l = c.loop-l in
    let h : (l.l < 256) × (l.a < 256) = within c.requires l.display l.a l.l (l.invariant.right c.requires) c.loop-l-test.true in
    search rules

pub overflow_cast-display : goal.overflow_cast-display
overflow_cast-display c =
    let l = c.loop-l in
    let h : (l.l < 256) × (l.a < 256) = within c.requires l.display l.a l.l (l.invariant.right c.requires) c.loop-l-test.true in
    search rules

pub offset_bounds-links-a : goal.offset_bounds-links-a
offset_bounds-links-a c =
    let l = c.loop-l in
    let h : (l.l < 256) × (l.a < 256) = within c.requires l.display l.a l.l (l.invariant.right c.requires) c.loop-l-test.true in
    search rules

pub bounds-links-a : goal.bounds-links-a
bounds-links-a c =
    let l = c.loop-l in
    let h : (l.l < 256) × (l.a < 256) = within c.requires l.display l.a l.l (l.invariant.right c.requires) c.loop-l-test.true in
    search rules

pub loop-l-preserved : goal.loop-l-preserved
loop-l-preserved c =
    let l = c.loop-l in
    let h : (l.l < 256) × (l.a < 256) = within c.requires l.display l.a l.l (l.invariant.right c.requires) c.loop-l-test.true in
    record {
      right = λ w. rw c.from_u16-a.ensures.0
          (restoring_step w.frames w.down w.old (suc c.args.activation) l.display l.a l.l (l.invariant.right w) c.args.links.now
          w.links-are c.loop-l-test.true (omega (arith, l.invariant.long, w.display-long)));
      long = length-set l.display l.l (32 * l.a) ∙ l.invariant.long;
    }

pub returns-clause-shows_from : goal.returns-clause-shows_from
returns-clause-shows_from c =
    let l = c.loop-l in
    λ w. restoring-through w.frames w.down w.old (suc c.args.activation) l.display l.a l.l (l.invariant.right w) (omega arith)
