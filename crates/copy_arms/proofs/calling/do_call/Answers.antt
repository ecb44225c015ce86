-- `do_call` meets its contract.
use Prim.Native.Nat.{ℕ, ◌+◌}
use native.Mathlib.Omega.{arith}
use mathlib.Core.Bool.{Bool}
use mathlib.Core.List.{List}
use mathlib.Core.Path.{◌≡◌, sym, ap₂, ◌∙◌}
use lib.ListN.{get_or}
use Rattle.copy_arms.specs.Parts.{cell_at, refused_by, refused_at, enter_at, handed_at}
use Rattle.copy_arms.proofs.Entered.{call-refused, call-stops, call_enters, enters-at}
use Rattle.copy_arms.proofs.calling.do_call.Goals as goal

-- whether the call is refused, by what the code has read
refusal :
    (code area firsts starts targets : List ℕ) (live at place : ℕ) {body count : ℕ} {r t : Bool}
    → body ≡ get_or targets (cell_at area firsts starts live (place + 1)) 0 → count ≡ get_or area (place + 2) 0
    → r ≡ refused_by code at body count → r ≡ t → refused_at code area firsts starts targets live at place ≡ t
refusal code area firsts starts targets live at place b n e t = sym (e ∙ ap₂ (refused_by code at) b n) ∙ t

pub refused-requires : goal.refused-requires
refused-requires c = record {
  count_bound = rw c.field-count.ensures.0 c.requires.within;
  callable = rw (rw c.named-procedure.ensures at c.target-body.ensures.0) c.requires.body;
}

pub returns-then-refused : goal.returns-then-refused
returns-then-refused c =
    let a = c.args in
    let f = refusal a.code.now a.area.now a.firsts.now a.starts.now a.targets.now a.live a.at a.place
    (rw c.named-procedure.ensures at c.target-body.ensures.0) c.field-count.ensures.0 c.refused.ensures c.if-refused.true in
    let q = call-refused _ a.activations a.live (enter_at a.area.now a.firsts.now a.starts.now a.targets.now a.live a.at a.place) a.cells.now
    (handed_at a.cells.now a.area.now a.firsts.now a.starts.now a.targets.now a.live a.place) f in
    record { value = q.0; cells_after = q.1 }

pub returns-then-activations-live : goal.returns-then-activations-live
returns-then-activations-live c =
    let a = c.args in
    let f = refusal a.code.now a.area.now a.firsts.now a.starts.now a.targets.now a.live a.at a.place
    (rw c.named-procedure.ensures at c.target-body.ensures.0) c.field-count.ensures.0 c.refused.ensures c.if-refused.false in
    let q = call-stops _ a.activations a.live (enter_at a.area.now a.firsts.now a.starts.now a.targets.now a.live a.at a.place) a.cells.now
    (handed_at a.cells.now a.area.now a.firsts.now a.starts.now a.targets.now a.live a.place) f c.if-activations-live.true in
    record { value = q.0; cells_after = q.1 }

pub arguments-requires : goal.arguments-requires
arguments-requires c = (omega (arith, c.requires.bounded, c.if-activations-live.false), rw c.field-count.ensures.0 c.requires.arguments)

pub returns : goal.returns
returns c =
    let a = c.args in
    let body = rw c.named-procedure.ensures at c.target-body.ensures.0 in
    let f = refusal a.code.now a.area.now a.firsts.now a.starts.now a.targets.now a.live a.at a.place body c.field-count.ensures.0
    c.refused.ensures c.if-refused.false in
    let d = call_enters _ a.activations a.live (enter_at a.area.now a.firsts.now a.starts.now a.targets.now a.live a.at a.place) a.cells.now
    (handed_at a.cells.now a.area.now a.firsts.now a.starts.now a.targets.now a.live a.place) f (omega (arith, c.if-activations-live.false)) in
    record {
      value = enters-at a.at body c.activation_of.ensures c.named-procedure.ensures c.field-count.ensures.0 ∙ d.0;
      cells_after = (rw c.field-count.ensures.0 at c.arguments.ensures) ∙ d.1;
    }
