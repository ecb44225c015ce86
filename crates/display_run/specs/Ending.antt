-- The loop of a run, from any state in which the engine can stand. `Going`: so far it has come, with the arrays as they are and so many steps left; `Goes`:
-- so it is from whichever state it began. `goes-begun`: it begins so; `goes_further`: a step keeps it; `finished_as`, `stopped`, `spent`: the three ends;
-- `stays`: a statement that stops leaves all as it was. `starts`: the engine can stand where a program begins, and `program-run`: what a run from there is
-- to the program.
use Rattle.std.specs.Prelude.{ℕ, ◌+◌, ◌-◌, ◌≤◌, ◌<◌, List, ◌≡◌, refl, ℤ, length, set}
use Rattle.std.proofs.Common.{arith, sym, ◌∙◌}
use Rattle.std.proofs.Math.Path.{subst}
use Rattle.language.specs.declared.Stop.{Stop}
use Rattle.frames.specs.Frame.{Stack, designates, halted, frame_step, frame_run}
use Rattle.arrays.specs.Holds.{Shows}
use Rattle.steps.specs.Standing.{Standing}
use Rattle.steps.specs.Here.{live-few}
use Rattle.steps.specs.Reads.{at-within, end-within, begin-reads}
use Rattle.steps.specs.Begun.{AtStart, result_from}
use Rattle.steps.specs.Loop.{begins, shows-begun}
use Rattle.steps.specs.Underway as steps
use Rattle.run_state.specs.declared.Registers.{Registers}
use Rattle.run_state.specs.declared.Turn.{Turn}
use Rattle.run_state.specs.declared.Turn.TheVariants.{Went, Finished, Stopped}
use Rattle.run_state.specs.declared.Halt.{Halt}
use Rattle.run_state.specs.Limits.{limits_by, goes_to}
use Rattle.run_state.specs.Halts.{finished_after, spent_after, stopped_after, named_by}
use Rattle.run_state.specs.Ended.{RunFrom, from_start, finished-end, spent-end, stopped-end}
use Rattle.display_moves.specs.Running.{Running, Looking, Placed}
use Rattle.display_step.specs.Turning.{Arrays, arrays_of, Turned, TurnsTo}
use Rattle.run_statements.specs.Beginning.{start_by}
use Rattle.display_run.specs.Program.{Beginning, Ended}

module _ {code : List ℕ} {activations limit : ℕ} {cells : List ℤ} {blocks nexts links display : List ℕ} {table : List ℤ} {start : Registers}
    (w : Running code activations limit cells blocks nexts links display table start) (allowance : ℕ) where
  pub record Going (cells' : List ℤ) (blocks' nexts' links' display' : List ℕ) (table' : List ℤ) (here : Registers) (left : ℕ) : Type 0 where
    pub running : Running code activations limit cells' blocks' nexts' links' display' table' here
    pub underway : steps.UnderwayFrom w.standing.stack.steps w.standing.program w.standing.name allowance
        (frame_run (limits_by activations limit) allowance w.standing.stack) running.standing left

  pub begun : Going cells blocks nexts links display table start allowance
  begun = record { running = w; underway = steps.begun-from w.standing allowance }

-- the engine at one place of a run
module _ {code : List ℕ} {activations limit : ℕ} {cells : List ℤ} {blocks nexts links display : List ℕ} {table : List ℤ} {start : Registers}
    {w : Running code activations limit cells blocks nexts links display table start} {allowance : ℕ}
    {cells' : List ℤ} {blocks' nexts' links' display' : List ℕ} {table' : List ℤ} {here : Registers} {left : ℕ}
    (u : Going w allowance cells' blocks' nexts' links' display' table' here left) where
  looks : Looking code cells' blocks' display' here.live
  looks = record { nexts = nexts'; links = links'; activations = activations; limit = limit; table = table'; here = here; running = u.running }

  -- the ends that leave activations live
  module _ (nexts'' : List ℕ) (noted : nexts'' ≡ set nexts' here.live here.at) (designator : ℕ)
      (found : (v : Looking code cells' blocks' display' here.live)
      → designator ≡ designates v.running.standing.stack.frames v.running.standing.name) (halt r : Halt)
      (named : r ≡ named_by halt designator 0) where
    abbrev Ends : Type 0
    Ends = RunFrom w.standing allowance r cells' blocks' nexts'' links' table'

    spends : left ≡ 0 → halt ≡ spent_after here allowance → Ends
    unfolding looks
    spends = spent-end here u.running.standing u.underway nexts'' noted designator (found looks) 0 halt r named

    stops : (c : Stop) → frame_step (limits_by activations limit) u.running.standing.stack ≡ halted c → 1 ≤ left
        → halt ≡ stopped_after here c (allowance - left) → Ends
    unfolding looks
    stops = stopped-end here u.running.standing u.underway nexts'' noted designator (found looks) 0 halt r named

-- so it is from whichever state it began, and the table is as long as it was
pub record Goes (code : List ℕ) (activations limit : ℕ) (cells : List ℤ) (blocks nexts links display : List ℕ) (table : List ℤ) (start : Registers) (allowance : ℕ)
    (cells' : List ℤ) (blocks' nexts' links' display' : List ℕ) (table' : List ℤ) (here : Registers) (left : ℕ) : Type 0 where
  pub going : (w : Running code activations limit cells blocks nexts links display table start) → Going w allowance cells' blocks' nexts' links' display' table' here left
  pub as_long : length table' ≡ length table

module _ {code : List ℕ} {activations limit : ℕ} {cells : List ℤ} {blocks nexts links display : List ℕ} {table : List ℤ} {start : Registers} {allowance : ℕ} where
  pub goes-begun : Goes code activations limit cells blocks nexts links display table start allowance cells blocks nexts links display table start allowance
  goes-begun = record { going = λ w. begun w allowance; as_long = refl }

-- each law takes what the loop's functions say as it comes
module _ {code : List ℕ} {activations limit : ℕ} {cells : List ℤ} {blocks nexts links display : List ℕ} {table : List ℤ} {start : Registers}
    {allowance : ℕ} {cells' : List ℤ} {blocks' nexts' links' display' : List ℕ} {table' : List ℤ} {here : Registers} {left : ℕ}
    (goes : Goes code activations limit cells blocks nexts links display table start allowance cells' blocks' nexts' links' display' table' here left)
    (w : Running code activations limit cells blocks nexts links display table start) where
  abbrev st : Standing code (limits_by activations limit) cells' blocks' nexts' links' table' here.pairs here.live here.at here.end
  st = (goes.going w).running.standing

  pub goes_on : Running code activations limit cells' blocks' nexts' links' display' table' here
  goes_on = (goes.going w).running

  pub looking : Looking code cells' blocks' display' here.live
  looking = looks (goes.going w)

  pub live-placed : here.live < 256
  live-placed = omega (arith, live-few st)

  pub at-placed : here.at ≤ 4096
  at-placed = at-within st

  pub placed : Placed here
  placed = record { live = live-placed; at = at-placed; end = end-within st }

  pub few-left : left ≤ allowance
  few-left = (goes.going w).underway.few-left

  pub spent : {nexts'' : List ℕ} → nexts'' ≡ set nexts' here.live here.at → {designator : ℕ}
      → ((v : Looking code cells' blocks' display' here.live) → designator ≡ designates v.running.standing.stack.frames v.running.standing.name)
      → {halt r : Halt} → r ≡ named_by halt designator 0 → left ≤ 0 → halt ≡ spent_after here allowance
      → RunFrom w.standing allowance r cells' blocks' nexts'' links' table'
  spent noted found named none is = spends (goes.going w) _ noted _ found _ _ named (omega arith) is

  module _ {t : Turn} {cells'' : List ℤ} {blocks'' nexts'' links'' display'' : List ℕ} {table'' : List ℤ}
      (turns : TurnsTo code activations limit cells' blocks' nexts' links' display' table' here t cells'' blocks'' nexts'' links'' display'' table'') where
    turned_as : (m : Turn) → t ≡ m → Turned goes_on m cells'' blocks'' nexts'' links'' display'' table''
    turned_as m e = subst (λ (x : Turn). Turned goes_on x cells'' blocks'' nexts'' links'' display'' table'') e (turns.turned goes_on)

    went-as : {here' : Registers} → t ≡ Went here' → 1 ≤ left → Going w allowance cells'' blocks'' nexts'' links'' display'' table'' here' (left - 1)
    unfolding goes_on
    went-as {here'} e h =
        let m = turned_as (Went here') e in
        record { running = m.running; underway = steps.went st (goes.going w).underway m.running.standing m.follows h }

    pub finished_as : t ≡ Finished → 1 ≤ left → {r : Halt} → r ≡ finished_after here (allowance - left + 1)
        → RunFrom w.standing allowance r cells'' blocks'' nexts'' links'' table''
    finished_as e h {r} =
        let m = turned_as Finished e in
        finished-end here st (goes.going w).underway m.ended m.alone h cells'' blocks'' nexts'' links'' table'' m.same-cells m.same-table r

    -- a statement that stops leaves all as it was
    module _ {c : Stop} (e : t ≡ Stopped c) where
      abbrev Stays : Arrays → Type 0
      Stays x =
          (v : Going w allowance x.cells x.blocks x.nexts x.links x.display x.table here left)
          × (frame_step (limits_by activations limit) v.running.standing.stack ≡ halted c)

      stays : Stays (arrays_of cells'' blocks'' nexts'' links'' display'' table'')
      unfolding goes_on
      stays =
          let m = turned_as (Stopped c) e in
          subst Stays (sym m.same) (goes.going w, m.stops)

      pub stopped-looking : Looking code cells'' blocks'' display'' here.live
      stopped-looking = looks stays.0

      pub stopped : {nexts''' : List ℕ} → nexts''' ≡ set nexts'' here.live here.at → {designator : ℕ}
          → ((v : Looking code cells'' blocks'' display'' here.live) → designator ≡ designates v.running.standing.stack.frames v.running.standing.name)
          → {halt r : Halt} → r ≡ named_by halt designator 0 → 1 ≤ left → halt ≡ stopped_after here c (allowance - left)
          → RunFrom w.standing allowance r cells'' blocks'' nexts''' links'' table''
      stopped noted found named more is = stops stays.0 _ noted _ found _ _ named c stays.1 more is

module _ {code : List ℕ} {activations limit : ℕ} {cells : List ℤ} {blocks nexts links display : List ℕ} {table : List ℤ} {start : Registers}
    {allowance : ℕ} {cells' : List ℤ} {blocks' nexts' links' display' : List ℕ} {table' : List ℤ} {here : Registers} {left : ℕ} where
  pub goes_further : Goes code activations limit cells blocks nexts links display table start allowance cells' blocks' nexts' links' display' table' here left
      → {t : Turn} {cells'' : List ℤ} {blocks'' nexts'' links'' display'' : List ℕ} {table'' : List ℤ}
      → TurnsTo code activations limit cells' blocks' nexts' links' display' table' here t cells'' blocks'' nexts'' links'' display'' table''
      → length table'' ≡ length table' → {here' : Registers} → t ≡ Went here' → 1 ≤ left
      → Goes code activations limit cells blocks nexts links display table start allowance cells'' blocks'' nexts'' links'' display'' table'' here' (left - 1)
  goes_further goes turns long e h = record { going = λ w. went-as goes w turns e h; as_long = long ∙ goes.as_long }

-- The start of a program

module _ {code : List ℕ} {cells : List ℤ} {blocks nexts links display : List ℕ} {table : List ℤ} {pairs limit activations : ℕ}
    (b : Beginning code cells blocks nexts links display table pairs limit activations) where
  -- the engine stands at the program's start
  record Starts (start : Registers) : Type 0 where
    running : Running code activations limit cells blocks nexts links display table start
    at-start : AtStart b.begun running.standing

  module _ (start : Registers) (is : start ≡ start_by code pairs) where
    begins-there : Starts start
    begins-there =
        let s = begins b.begun blocks nexts links b.blocks-long b.nexts-long b.links-long b.no_block b.no-link in
        let reads = begin-reads b.begun in
        let shows : Shows s.0.stack.frames display = subst (λ (v : Stack). Shows v.frames display) (sym s.1.stack_is)
        (shows-begun b.begun.program (record { words = table; used = pairs }) display (omega (arith, b.display-long)) b.no-entry) in
        subst Starts (sym is)
        (subst Starts (λ i. goes_to (start_by code pairs) 0 (sym reads.0 i) (sym reads.1 i) pairs)
        (record { running = record { standing = s.0; shows = shows; display-long = b.display-long }; at-start = s.1 }))

    pub starts : Running code activations limit cells blocks nexts links display table start
    starts = begins-there.running

    pub program-run : (allowance : ℕ) (r : Halt) (cells' : List ℤ) (blocks' nexts' links' : List ℕ) (table' : List ℤ)
        → ((w : Running code activations limit cells blocks nexts links display table start)
        → RunFrom w.standing allowance r cells' blocks' nexts' links' table')
        → Ended b.begun.program b.begun.name activations limit (result_from b.begun allowance) r cells' blocks' nexts' links' table'
    program-run allowance r cells' blocks' nexts' links' table' k =
        let s = begins-there in
        from_start s.running.standing s.at-start allowance r (k s.running)
