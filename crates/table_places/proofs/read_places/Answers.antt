use Rattle.std.proofs.Common.{◌≡◌, ◌/◌, nat_abs, length, refl, sym, ◌∙◌, ap, add-one, arith}
use Rattle.table_places.proofs.Naturals.{natural-cast, natural-word}
use Rattle.table_places.proofs.Zeros.{zero-word, other-word}
use Rattle.table_places.proofs.Reading.{stands-here, stands-not, stands-past, read-end, read-wrong, read_next, fits-word, Fitting, fitting}
use Rattle.table_places.proofs.read_places.Goals as goal

pub returns-then-group-eq0 : goal.returns-then-group-eq0
returns-then-group-eq0 c =
    let k = c.loop-k.k in
    let none = zero-word c.group_at-group.result (omega arith) c.if-group-eq0.true in
    c.ends.ensures ∙ sym (read-end _ _ _ k c.args.list.now (stands-not k c.args.list.now (rw c.group_at-group.ensures at none))) ∙ c.loop-k.invariant

pub returns-then-not-place_fits : goal.returns-then-not-place_fits
returns-then-not-place_fits c =
    let k = c.loop-k.k in
    let some = other-word c.group_at-group.result (omega arith) c.if-group-eq0.false in
    let wrong = fits-word _ _ _ c.place_fits.ensures (omega arith) (omega arith) c.group_at-group.ensures c.member_at-number.ensures in
    sym (read-wrong _ _ _ k c.args.list.now (stands-here k c.args.list.now (omega arith) (rw c.group_at-group.ensures at some)) (sym wrong ∙ c.if-not-place_fits.true)) ∙ c.loop-k.invariant

-- the place read fits
fit : (c : goal.Else-not-place_fits) → Fitting c.args.limit c.loop-k.last c.loop-k.left c.group_at-group.result c.member_at-number.result
fit c = fitting _ _ _ _ _ (sym (fits-word _ _ _ c.place_fits.ensures (omega arith) (omega arith) refl refl) ∙ c.if-not-place_fits.false)

pub overflow_cast-last : goal.overflow_cast-last
overflow_cast-last c = natural-cast c.group_at-group.result (omega arith) (fit c).group-natural

pub overflow_cast-left : goal.overflow_cast-left
overflow_cast-left c = natural-cast c.member_at-number.result (omega arith) (fit c).number-natural

pub overflow_sub-left : goal.overflow_sub-left
overflow_sub-left c = omega (arith, (natural-word c.member_at-number.result (omega arith) (fit c).number-natural).0, (fit c).within)

pub loop-k-preserved : goal.loop-k-preserved
loop-k-preserved c =
    let k = c.loop-k.k in
    let some = other-word c.group_at-group.result (omega arith) c.if-group-eq0.false in
    let fits = fits-word _ _ _ c.place_fits.ensures (omega arith) (omega arith) c.group_at-group.ensures c.member_at-number.ensures in
    let group = (natural-word c.group_at-group.result (omega arith) (fit c).group-natural).0 ∙ ap nat_abs c.group_at-group.ensures in
    let number = (natural-word c.member_at-number.result (omega arith) (fit c).number-natural).0 ∙ ap nat_abs c.member_at-number.ensures in
    rw (group, number, add-one k)
    (sym (read_next _ _ _ k c.args.list.now (stands-here k c.args.list.now (omega arith) (rw c.group_at-group.ensures at some)) (sym fits ∙ c.if-not-place_fits.false)) ∙ c.loop-k.invariant)

pub returns : goal.returns
returns c =
    let e : c.loop-k.k ≡ length c.args.list.now / 2 = omega arith in
    c.ends-2.ensures ∙ sym (read-end _ _ _ (length c.args.list.now / 2) c.args.list.now (stands-past _ c.args.list.now (omega arith))) ∙ (rw e at c.loop-k.invariant)
