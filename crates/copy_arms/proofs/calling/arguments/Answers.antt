-- `arguments` meets its contract. The loop's invariant: setting the arguments from i on gives what setting all of them gives.
use Prim.Native.Nat.{◌+◌, ◌-◌}
use native.Mathlib.Omega.{arith}
use mathlib.Core.Path.{◌≡◌, ◌∙◌}
use Rattle.run_statements.specs.Words.{read_back}
use Rattle.copy_arms.proofs.Entered.{arguments-end, arguments-next}
use Rattle.copy_arms.proofs.calling.arguments.Goals as goal

-- the start, from before the loop
pub loop-i-init : goal.loop-i-init
loop-i-init c =
    let a = c.args in
    let f : c.cell_at-to.result + 0 ≡ c.cell_at-to.result = omega arith in
    let p : a.place + 0 ≡ a.place = omega arith in
    let n : a.count - 0 ≡ a.count = omega arith in
    (omega arith, rw (f, p, n))

pub handed-requires : goal.handed-requires
handed-requires c =
    record { innermost = record { first-is = c.first_of-first.ensures.0; start_is = c.start_of-start.ensures }; name_at = c.requires.1.named c.loop-i.i c.loop-i-test.true }

pub loop-i-preserved : goal.loop-i-preserved
loop-i-preserved c =
    let a = c.args in
    let z = read_back c.handed.result c.handed.type_inv ∙ c.handed.ensures in
    let t = c.loop-i-test.true in
    let step = arguments-next a.area.now a.firsts.now a.starts.now a.targets.now a.live a.place a.count c.loop-i.i
    c.loop-i.cells c.cell_at-to.result t z in
    (omega (arith, t), step ∙ c.loop-i.invariant.1)

pub returns : goal.returns
returns c =
    let a = c.args in
    let to = c.cell_at-to.result in
    rw c.cell_at-to.ensures at (arguments-end a.area.now a.firsts.now a.starts.now a.targets.now a.live a.place a.count
    c.loop-i.i c.loop-i.cells to c.loop-i-test.false ∙ c.loop-i.invariant.1)
