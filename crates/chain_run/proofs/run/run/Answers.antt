-- A step more, and the end: no step is left, or the last one ends the run.
use Rattle.std.proofs.Common.{◌≡◌, ℕ, ◌+◌, ◌-◌, ◌≤◌, List, ℤ, refl, sym, ap, subst, ◌∙◌, arith}
use Rattle.language.specs.declared.Stop.{Stop}
use Rattle.chain_records.specs.declared.Activation.{Activation}
use Rattle.run_state.specs.declared.Registers.{Registers}
use Rattle.run_state.specs.declared.Turn.{Turn}
use Rattle.run_state.specs.declared.Turn.TheVariants.{Went, Finished, Stopped}
use Rattle.run_state.specs.declared.Halt.{Halt}
use Rattle.run_state.specs.Halts.{finished_after, spent_after, stopped_after, named_by}
use Rattle.run_state.specs.Listed.{list-has, list-went, list-finished, list-stopped, list-spent}
use Rattle.chain_links.specs.declared.Found.{Found}
use Rattle.chain_links.specs.Running.{Running, Looking}
use Rattle.chain_step.specs.Turning.{Turned}
use Rattle.chain_run.specs.Running.{RunFrom}
use Rattle.chain_run.specs.Ending.{Going, Last, Ending, begun, halt_by, settled}
use Rattle.chain_run.proofs.Endings.{FoundIn, went-as, over-as, out-of-steps, few-left, at_small, live_small, looks, finished-end, halted-end}
use Rattle.chain_run.proofs.run.run.Goals as goal

module _ {code : List ℕ} {activations limit : ℕ} {cells₀ : List ℤ} {records₀ : List Activation} {table₀ : List ℤ} {start : Registers}
    (w : Running code activations limit cells₀ records₀ table₀ start) {allowance : ℕ} {here : Registers} {left : ℕ} where
  abbrev ending : {cells : List ℤ} {records : List Activation} {table : List ℤ} {turn : Turn}
      → Last w allowance cells records table here turn left → Ending code cells records here turn allowance left
  ending {table = table} l = record {
    activations = activations;
    limit = limit;
    cells₀ = cells₀;
    records₀ = records₀;
    table₀ = table₀;
    start = start;
    from = w;
    table = table;
    last = l;
  }

  module _ {cells : List ℤ} {records : List Activation} {table : List ℤ} (u : Going w allowance cells records table here left) where
    -- no step is left
    none-looks : left ≡ 0 → Looking code cells records here
    none-looks z = looks (Went here) (ending (out-of-steps u (Went here) refl z)) refl

    none-ends : left ≡ 0 → {halt r : Halt} (found : Found) → halt ≡ spent_after here allowance → r ≡ named_by halt found.designator found.links
        → FoundIn code cells here found records → RunFrom w allowance r cells (settled records here) table
    unfolding halt_by
    none-ends z {halt} {r} found is named finds =
        let n : allowance - left ≡ allowance = omega arith in
        let e = halted-end (Went here) (ending (out-of-steps u (Went here) refl z)) refl found finds in
        subst (λ (h : Halt). RunFrom w allowance h cells (settled records here) table)
        (sym (named ∙ ap (λ (h : Halt). named_by h found.designator found.links) (is ∙ ap (spent_after here) (sym n)))) e

    module _ (turn : Turn) (cells' : List ℤ) (records' : List Activation) (table' : List ℤ)
        (turned : Turned u.running turn cells' records' table') (more : 1 ≤ left) where
      last-of : {t : Turn} → turn ≡ t → Turned u.running t cells' records' table'
      last-of e = subst (λ (t : Turn). Turned u.running t cells' records' table') e turned

      goes-on : {next : Registers} → turn ≡ Went next → Going w allowance cells' records' table' next (left - 1)
      goes-on {next} e = went-as u (Went next) refl cells' records' table' (last-of e) more

      finish-ends : turn ≡ Finished → {r : Halt} → r ≡ finished_after here (allowance - left + 1) → RunFrom w allowance r cells' records' table'
      finish-ends e is =
          subst (λ (h : Halt). RunFrom w allowance h cells' records' table') (sym is)
          (finished-end Finished (ending (over-as u Finished refl cells' records' table' (last-of e) more)) refl records')

      module _ {cause : Stop} (e : turn ≡ Stopped cause) where
        stop-last : Last w allowance cells' records' table' here (Stopped cause) left
        stop-last = over-as u (Stopped cause) refl cells' records' table' (last-of e) more

        stop-looks : Looking code cells' records' here
        stop-looks = looks (Stopped cause) (ending stop-last) refl

        stop-ends : {halt r : Halt} (found : Found) → halt ≡ stopped_after here cause (allowance - left) → r ≡ named_by halt found.designator found.links
            → FoundIn code cells' here found records' → RunFrom w allowance r cells' (settled records' here) table'
        unfolding halt_by
        stop-ends {halt} {r} found is named finds =
            subst (λ (h : Halt). RunFrom w allowance h cells' (settled records' here) table')
            (sym (named ∙ ap (λ (h : Halt). named_by h found.designator found.links) is))
            (halted-end (Stopped cause) (ending stop-last) refl found finds)

pub loop-left-init : goal.loop-left-init
loop-left-init c = record { goes = λ w. begun w c.args.allowance; lists = λ past b. b }

pub step-requires : goal.step-requires
step-requires c =
    let l = c.loop-left in
    record { running = (l.invariant.goes c.requires.running).running; has_list = list-has l.here l.invariant.lists c.requires.has_list }

pub loop-left-preserved : goal.loop-left-preserved
loop-left-preserved c =
    let l = c.loop-left in
    record {
      goes = λ w. let u = l.invariant.goes w in goes-on w u c.step.result c.step.new.cells c.step.new.records c.step.new.table (c.step.ensures.turned u.running) (omega arith) c.in-Went.is;
      lists = list-went l.here l.invariant.lists _ c.step.ensures.keeps_list c.in-Went.is;
    }

pub overflow_sub-allowance : goal.overflow_sub-allowance
overflow_sub-allowance c = few-left (c.loop-left.invariant.goes c.requires.running)

pub overflow_sub-allowance-in-Stopped : goal.overflow_sub-allowance-in-Stopped
overflow_sub-allowance-in-Stopped c = few-left (c.loop-left.invariant.goes c.requires.running)

pub returns-in-Finished : goal.returns-in-Finished
returns-in-Finished c =
    let l = c.loop-left in
    record {
      run_from = λ w. let u = l.invariant.goes w in finish-ends w u c.step.result c.step.new.cells c.step.new.records c.step.new.table (c.step.ensures.turned u.running) (omega arith) c.in-Finished.is c.finished.ensures;
      keeps_list = list-finished l.here l.invariant.lists _ c.step.ensures.keeps_list c.in-Finished.is c.finished.ensures;
    }

pub stopped-halt-requires : goal.stopped-halt-requires
stopped-halt-requires c = let u = c.loop-left.invariant.goes c.requires.running in (live_small u, at_small u)

pub settle-found-requires : goal.settle-found-requires
settle-found-requires c =
    let w = c.requires.running in
    let u = c.loop-left.invariant.goes w in
    (stop-looks w u c.step.result c.step.new.cells c.step.new.records c.step.new.table (c.step.ensures.turned u.running) (omega arith) c.in-Stopped.is, omega (arith, at_small u))

pub returns-in-Stopped : goal.returns-in-Stopped
returns-in-Stopped c =
    let l = c.loop-left in
    let looked = c.settle-found.ensures in
    record {
      run_from = λ w.
          let u = l.invariant.goes w in
          subst (λ (rs : List Activation). RunFrom w c.args.allowance c.named.result c.step.new.cells rs c.step.new.table) (sym looked.1)
          (stop-ends w u c.step.result c.step.new.cells c.step.new.records c.step.new.table (c.step.ensures.turned u.running) (omega arith) c.in-Stopped.is c.settle-found.result c.stopped-halt.ensures c.named.ensures looked.0);
      keeps_list = list-stopped l.here l.invariant.lists _ c.step.ensures.keeps_list c.in-Stopped.is c.stopped-halt.ensures c.named.ensures;
    }

pub spent-halt-requires : goal.spent-halt-requires
spent-halt-requires c = live_small (c.loop-left.invariant.goes c.requires.running)

pub settle-found-requires-2 : goal.settle-found-requires-2
settle-found-requires-2 c =
    let w = c.requires.running in
    let u = c.loop-left.invariant.goes w in
    (none-looks w u (omega arith), omega (arith, at_small u))

pub returns : goal.returns
returns c =
    let l = c.loop-left in
    let looked = c.settle-found-2.ensures in
    record {
      run_from = λ w.
          let u = l.invariant.goes w in
          subst (λ (rs : List Activation). RunFrom w c.args.allowance c.named-2.result l.cells rs l.table) (sym looked.1)
          (none-ends w u (omega arith) c.settle-found-2.result c.spent-halt.ensures c.named-2.ensures looked.0);
      keeps_list = list-spent l.here l.invariant.lists c.spent-halt.ensures c.named-2.ensures;
    }
