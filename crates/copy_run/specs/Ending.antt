-- The loop of a run, from any state in which the engine can stand. `Going`: so far it has come, with the arrays as they are and so many steps left, and
-- few new names are given out. `begun`: it begins so; `went-as`: a step keeps it; `finished_as`, `stopped`, `spent`: the three ends; `stays`: a statement
-- that stops leaves all as it was. `starts`: the engine can stand where a program begins, and `program-run`: what a run from there is to the program.
use Rattle.std.specs.Prelude.{ℕ, ◌+◌, ◌-◌, ◌*◌, ◌/◌, ◌≤◌, ◌<◌, List, ◌≡◌, ℤ, length, get_or, set}
use Rattle.std.proofs.Common.{arith, sym, ◌∙◌, subst}
use Rattle.language.specs.declared.Stop.{Stop}
use Rattle.frames.specs.Frame.{halted, frame_step, frame_run}
use Rattle.steps.specs.Here.{live-few}
use Rattle.steps.specs.Begun.{result_from}
use Rattle.steps.specs.Reads.{at-within}
use Rattle.steps.specs.Underway as steps
use Rattle.run_state.specs.declared.Registers.{Registers}
use Rattle.run_state.specs.declared.Turn.{Turn}
use Rattle.run_state.specs.declared.Turn.TheVariants.{Went, Finished, Stopped}
use Rattle.run_state.specs.declared.Halt.{Halt}
use Rattle.run_state.specs.Limits.{limits_by}
use Rattle.run_state.specs.Halts.{finished_after, spent_after, stopped_after, named_by}
use Rattle.run_state.specs.Ended.{from_start, finished-end, spent-end, stopped-end}
use Rattle.copy_moves.specs.Running.{Running}
use Rattle.copy_moves.specs.Begun.{BegunIn}
use Rattle.copy_moves.specs.Looked.{Lookable, looked_up}
use Rattle.copy_run.specs.Beginning.{Beginning}
use Rattle.copy_run.specs.Starting as start
use Rattle.copy_run.specs.LookedUp.{lookable, looked-designates}
use Rattle.copy_run.specs.Turning.{Arrays, arrays_of, Ready, Turned, Ended, RunFrom}

module _ {code names : List ℕ} {activations limit : ℕ} {cells : List ℤ} {area : List ℕ} {width : ℕ} {blocks nexts links firsts starts targets looked : List ℕ}
    {table : List ℤ} {begin : Registers} (w : Running code names activations limit cells area width blocks nexts links firsts starts targets looked table begin)
    (allowance : ℕ) where
  pub record Going (a : Arrays) (here : Registers) (left : ℕ) : Type 0 where
    pub running : Running code names activations limit a.cells a.area width a.blocks a.nexts a.links a.firsts a.starts a.targets a.looked a.table here
    pub underway : steps.UnderwayFrom w.standing.stack.steps w.standing.program w.standing.name allowance
        (frame_run (limits_by activations limit) allowance w.standing.stack) running.standing left
    pub few-names : here.fresh + 32 * left ≤ begin.fresh + 32 * allowance

  pub begun : Going (arrays_of cells area blocks nexts links firsts starts targets looked table) begin allowance
  begun = record { running = w; underway = steps.begun-from w.standing allowance; few-names = omega arith }

module _ {code names : List ℕ} {activations limit : ℕ} {cells : List ℤ} {area : List ℕ} {width : ℕ} {blocks nexts links firsts starts targets looked : List ℕ}
    {table : List ℤ} {begin : Registers} {w : Running code names activations limit cells area width blocks nexts links firsts starts targets looked table begin}
    {allowance : ℕ} {a : Arrays} {here : Registers} {left : ℕ} (u : Going w allowance a here left) where
  pub step-ready : begin.fresh + 32 * allowance + 32 ≤ 4294967296 → 1 ≤ left
      → Ready code names activations limit a.cells a.area width a.blocks a.nexts a.links a.firsts a.starts a.targets a.looked a.table here 1
  step-ready few more = record { running = u.running; names-left = omega (arith, u.few-names) }

  pub live_small : here.live < 256
  live_small = omega (arith, live-few u.running.standing)

  pub at_small : here.at ≤ 4096
  at_small = at-within u.running.standing

  pub settle-ready : Lookable a.firsts a.starts a.looked here.live × (here.at < 65536)
  settle-ready = (lookable u.running, omega (arith, at_small))

  pub few-left : left ≤ allowance
  few-left = u.underway.few-left

  -- The ends that leave activations live

  abbrev Ends : List ℕ → Halt → Type 0
  Ends nexts' r = RunFrom w allowance r a.cells a.blocks nexts' a.links a.table

  module _ {nexts' : List ℕ} (noted : nexts' ≡ set a.nexts here.live here.at) {designator : ℕ}
      (found : designator ≡ looked_up a.firsts a.starts a.looked here.live) {halt r : Halt} (named : r ≡ named_by halt designator 0) where
    pub spent : left ≡ 0 → halt ≡ spent_after here allowance → Ends nexts' r
    spent = spent-end here u.running.standing u.underway nexts' noted designator (found ∙ looked-designates u.running) 0 halt r named

    pub stopped : {c : Stop} → frame_step (limits_by activations limit) u.running.standing.stack ≡ halted c → 1 ≤ left
        → halt ≡ stopped_after here c (allowance - left) → Ends nexts' r
    stopped {c} = stopped-end here u.running.standing u.underway nexts' noted designator (found ∙ looked-designates u.running) 0 halt r named c

  -- By what a step comes to

  -- a statement that stops leaves all as it was
  abbrev Stays : Stop → Arrays → Type 0
  Stays c x = (v : Going w allowance x here left) × (frame_step (limits_by activations limit) v.running.standing.stack ≡ halted c)

  module _ (after : Arrays) {t : Turn}
      (k : Turned u.running t after.cells after.area after.blocks after.nexts after.links after.firsts after.starts after.targets after.looked after.table) where
    turned_as : {m : Turn} → t ≡ m
        → Turned u.running m after.cells after.area after.blocks after.nexts after.links after.firsts after.starts after.targets after.looked after.table
    turned_as e =
        subst (λ (x : Turn). Turned u.running x after.cells after.area after.blocks after.nexts after.links after.firsts after.starts after.targets
        after.looked after.table) e k

    pub went-as : {here' : Registers} → t ≡ Went here' → 1 ≤ left → Going w allowance after here' (left - 1)
    went-as e h =
        let m = turned_as e in
        record {
          running = m.running;
          underway = steps.went u.running.standing u.underway m.running.standing m.follows h;
          few-names = omega (arith, u.few-names, m.few-more);
        }

    pub finished_as : t ≡ Finished → 1 ≤ left → {r : Halt} → r ≡ finished_after here (allowance - left + 1)
        → RunFrom w allowance r after.cells after.blocks after.nexts after.links after.table
    finished_as e h {r} =
        let m = turned_as e in
        finished-end here u.running.standing u.underway m.ended m.alone h after.cells after.blocks after.nexts after.links
        after.table m.same-cells m.same-table r

    pub stays : {c : Stop} → t ≡ Stopped c → Stays c after
    stays {c} e =
        let m = turned_as e in
        subst (Stays c) (sym m.same) (u, m.stops)

-- The start of a program

module _ {script code names : List ℕ} {cells : List ℤ} {area blocks nexts links : List ℕ} {table : List ℤ} {pairs limit activations allowance : ℕ}
    (b : Beginning script code names cells area blocks nexts links table pairs limit activations allowance) {firsts starts targets looked area' firsts' targets' looked' : List ℕ}
    {r : Registers} (k : BegunIn script code names area firsts targets looked pairs area' firsts' targets' looked' r) (long-firsts : length firsts ≡ 256)
    (long-starts : length starts ≡ 256) (long-targets : length targets ≡ 8224) (long-looked : length looked ≡ 256) (no_start : get_or starts 0 0 ≡ 0) where
  abbrev there : start.Starts b firsts starts targets looked area' firsts' targets' looked' r k long-firsts long-starts long-targets long-looked no_start r
  there = start.starts-there b firsts starts targets looked area' firsts' targets' looked' r k long-firsts long-starts long-targets long-looked no_start

  pub begin-ready : Ready code names activations limit cells area' (length script / 2) blocks nexts links firsts' starts targets' looked' table r allowance
  begin-ready =
      let few = start.begun-few b firsts starts targets looked area' firsts' targets' looked' r k long-firsts long-starts long-targets long-looked no_start in
      record { running = there.running; names-left = omega (arith, few, b.few-steps) }

  pub program-run : (h : Halt) {cells' : List ℤ} {blocks' nexts' links' : List ℕ} {table' : List ℤ}
      → ((w : Running code names activations limit cells area' (length script / 2) blocks nexts links firsts' starts targets' looked' table r)
      → RunFrom w allowance h cells' blocks' nexts' links' table')
      → Ended b.begun.program b.begun.name activations limit (result_from b.begun allowance) h cells' blocks' nexts' links' table'
  program-run h f = from_start there.running.standing there.at-start allowance h (f there.running)
