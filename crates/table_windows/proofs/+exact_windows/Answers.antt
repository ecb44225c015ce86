-- The places of both parts rise as all do, and each of their numbers is a full count where those of the whole list are.
use Rattle.std.proofs.Common.{◌*◌, ◌≤◌, length, refl, arith}
use Rattle.laws.specs.Tests.{never}
use Rattle.table_windows.proofs.Windows.{front, back, front-places, back-places, part-rising, part-tallied, parts-tallied}
use Rattle.table_windows.proofs.+exact_windows.Goals as goal

pub exact_windows-requires : goal.exact_windows-requires
exact_windows-requires t c =
    let places = c.args.places.now in
    let m = c.first_half-middle.result in
    let fits : 2 * m ≤ length places = omega arith in
    let size = front-places places m fits in
    let r = c.requires in
    (omega (arith, size), (r.count_in_bounds, (r.table_value, (part-rising (front places m fits) r.rising, omega (arith, size)))))

pub exact_windows-requires-2 : goal.exact_windows-requires-2
exact_windows-requires-2 t c =
    let places = c.args.places.now in
    let m = c.first_half-middle.result in
    let fits : 2 * m ≤ length places = omega arith in
    let size = back-places places m fits in
    let r = c.requires in
    (omega (arith, size), (r.count_in_bounds, (r.table_value, (part-rising (back places m fits) r.rising, omega (arith, size)))))

pub returns-then-not-exact_windows : goal.returns-then-not-exact_windows
returns-then-not-exact_windows t c =
    let fits : 2 * c.first_half-middle.result ≤ length c.args.places.now = omega arith in (
      λ e. never e refl,
      λ e all. c.exact_windows.ensures.1 c.if-not-exact_windows.true (part-tallied (front c.args.places.now c.first_half-middle.result fits) c.args.table.now c.args.count all),
    )

pub returns : goal.returns
returns t c =
    let places = c.args.places.now in
    let m = c.first_half-middle.result in
    let fits : 2 * m ≤ length places = omega arith in (
      λ e. parts-tallied c.args.table.now c.args.count places m fits (c.exact_windows.ensures.0 c.if-not-exact_windows.false) (c.exact_windows-2.ensures.0 e),
      λ e all. c.exact_windows-2.ensures.1 e (part-tallied (back places m fits) c.args.table.now c.args.count all),
    )
