-- The loop of a run, from any state in which the engine can stand. `Going`: so far it has come, with the arrays as they are and so many steps left; `Goes`:
-- so it is from whichever state it began. `goes-begun`: it begins so; `goes_further`: a step keeps it; `finished_as`, `stopped`, `spent`: the three ends;
-- `stays`: a statement that stops leaves all as it was. `starts`: the engine can stand where a program begins, and `program-run`: what a run from there is
-- to the program.
use Prim.Native.Nat.{ℕ, zero, suc, pred, ◌+◌, ◌-◌, ◌*◌, ◌≤◌, ◌<◌}
use native.Mathlib.Omega.{arith}
use Rattle.std.specs.Prelude.{List, [], ◌∷◌, ◌≡◌, refl, ℤ, length, get_or, set, replicate}
use Rattle.std.proofs.Common.{sym, ◌∙◌}
use Rattle.std.proofs.Math.Path.{ap, subst}
use Rattle.std.proofs.Math.ListN.{get_elem?}
use Rattle.language.specs.Text.{Block}
use Rattle.language.specs.Table.{Table}
use Rattle.language.specs.declared.Stop.{Stop}
use Rattle.language.specs.declared.End.{End}
use Rattle.language.specs.declared.End.TheVariants.{Spent}
use Rattle.laws.specs.Tests.{none≢some, some_inj}
use Rattle.frames.specs.Frame.{Frame, Stack, Result, results, designates, halted, frame_step, frame_run, frame_start, new_frame}
use Rattle.f_search.proofs.Kept.{call-program, through-none, passer_of-none, onward-none}
use Rattle.steps.specs.Here.{live-few}
use Rattle.steps.specs.Reads.{at-within, begin-reads}
use Rattle.steps.specs.Begun.{AtStart, result_from}
use Rattle.steps.specs.Loop.{begins}
use Rattle.steps.specs.Loop as loop
use Rattle.steps.specs.Underway as steps
use Rattle.resolved.specs.Resolved.{Covers}
use Rattle.search_numbers.specs.NumberFields.{numbered_of}
use Rattle.run_state.specs.declared.Registers.{Registers}
use Rattle.run_state.specs.declared.Turn.{Turn}
use Rattle.run_state.specs.declared.Turn.TheVariants.{Went, Finished, Stopped}
use Rattle.run_state.specs.declared.Halt.{Halt}
use Rattle.run_state.specs.Limits.{limits_by, goes_to}
use Rattle.run_state.specs.Halts.{finished_after, spent_after, stopped_after, named_by}
use Rattle.run_state.specs.Ended.{from_start, finished-end, spent-end, stopped-end}
use Rattle.search_moves.specs.Running.{Froms, Passers, Running}
use Rattle.search_step.specs.Turning.{Arrays, Turned, TurnsTo}
use Rattle.run_statements.specs.Beginning.{start_by}
use Rattle.search_run.specs.Program.{Beginning, EndedIn, Ended}
use Rattle.search_run.specs.Looked.{Looking}

abbrev pub RunFrom : {code numbers : List ℕ} {activations limit : ℕ} {cells : List ℤ} {passers blocks nexts froms : List ℕ} {table : List ℤ} {start : Registers}
    → Running code numbers activations limit cells passers blocks nexts froms table start → ℕ → Halt → List ℤ → List ℕ → List ℕ → List ℕ → List ℤ → Type 0
RunFrom {activations = activations} {limit = limit} w allowance r cells' blocks' nexts' froms' table' =
    let s = w.standing in
    EndedIn s.stack.steps s.program s.name (limits_by activations limit) (frame_run (limits_by activations limit) allowance s.stack) r cells' blocks' nexts' froms' table'

abbrev pub RunsIn : List ℕ → List ℕ → ℕ → ℕ → Arrays → Registers → Type 0
RunsIn code numbers activations limit a here = Running code numbers activations limit a.cells a.passers a.blocks a.nexts a.froms a.table here

module _ {code numbers : List ℕ} {activations limit : ℕ} {before : Arrays} {start : Registers} (w : RunsIn code numbers activations limit before start) (allowance : ℕ) where
  pub record Going (a : Arrays) (here : Registers) (left : ℕ) : Type 0 where
    pub running : RunsIn code numbers activations limit a here
    pub underway : steps.UnderwayFrom w.standing.stack.steps w.standing.program w.standing.name allowance
        (frame_run (limits_by activations limit) allowance w.standing.stack) running.standing left

  begun : Going before start allowance
  begun = record { running = w; underway = steps.begun-from w.standing allowance }

-- the engine at one place of a run
module _ {code numbers : List ℕ} {activations limit : ℕ} {before : Arrays} {start : Registers} {w : RunsIn code numbers activations limit before start} {allowance : ℕ}
    {a : Arrays} {here : Registers} {left : ℕ} (u : Going w allowance a here left) where
  looks : Looking code numbers a.cells a.blocks a.froms here.live
  looks = record { passers = a.passers; nexts = a.nexts; activations = activations; limit = limit; table = a.table; registers = here; running = u.running }

  -- the frames that are left, where activations are left live
  froms-left : (e : End) (offset : ℕ) → frame_run (limits_by activations limit) allowance w.standing.stack ≡ results e offset u.running.standing.stack
      → Froms (frame_run (limits_by activations limit) allowance w.standing.stack).final.frames a.froms
  unfolding results
  froms-left e offset q = subst (λ (x : Result). Froms x.final.frames a.froms) (sym q) u.running.froms-are

  -- the ends that leave activations live
  module _ (nexts'' : List ℕ) (noted : nexts'' ≡ set a.nexts here.live here.at) (designator : ℕ)
      (found : (v : Looking code numbers a.cells a.blocks a.froms here.live)
      → designator ≡ designates v.running.standing.stack.frames v.running.standing.name) (halt r : Halt)
      (named : r ≡ named_by halt designator 0) where
    abbrev Ends : Type 0
    Ends = RunFrom w allowance r a.cells a.blocks nexts'' a.froms a.table

    spends : left ≡ 0 → halt ≡ spent_after here allowance → Ends
    unfolding looks
    spends z is =
        record {
          links = u.running.links;
          ended = spent-end here u.running.standing u.underway nexts'' noted designator (found looks) 0 halt r named z is;
          froms-are = froms-left Spent 0 (u.underway.runs ∙ ap (λ n. frame_run (limits_by activations limit) n u.running.standing.stack) z ∙ loop.spent u.running.standing);
        }

    stops : (c : Stop) → frame_step (limits_by activations limit) u.running.standing.stack ≡ halted c → 1 ≤ left
        → halt ≡ stopped_after here c (allowance - left) → Ends
    unfolding looks
    stops c stop more is =
        let one : left ≡ suc (left - 1) = omega arith in
        record {
          links = u.running.links;
          ended = stopped-end here u.running.standing u.underway nexts'' noted designator (found looks) 0 halt r named c stop more is;
          froms-are = froms-left (End.Stopped c) (2 * here.at)
              (u.underway.runs ∙ ap (λ n. frame_run (limits_by activations limit) n u.running.standing.stack) one ∙ loop.stops u.running.standing (left - 1) c stop);
        }

  -- none are left where the program has ended
  none_left : here.at ≡ here.end → here.live ≡ 0 → 1 ≤ left → (froms' : List ℕ) → Froms (frame_run (limits_by activations limit) allowance w.standing.stack).final.frames froms'
  unfolding results
  none_left ended alone more froms' =
      let one : left ≡ suc (left - 1) = omega arith in
      let q = u.underway.runs ∙ ap (λ n. frame_run (limits_by activations limit) n u.running.standing.stack) one ∙ loop.finishes u.running.standing ended alone (left - 1) in
      λ k f e. none≢some (sym (ap (λ (x : Result). get_elem? x.final.frames k) q) ∙ e)

-- so it is from whichever state it began, and the table is as long as it was
pub record Goes (code numbers : List ℕ) (activations limit : ℕ) (before : Arrays) (start : Registers) (allowance : ℕ) (a : Arrays) (here : Registers) (left : ℕ) : Type 0 where
  pub going : (w : RunsIn code numbers activations limit before start) → Going w allowance a here left
  pub as_long : length a.table ≡ length before.table

module _ {code numbers : List ℕ} {activations limit : ℕ} {before : Arrays} {start : Registers} {allowance : ℕ} where
  pub goes-begun : Goes code numbers activations limit before start allowance before start allowance
  goes-begun = record { going = λ w. begun w allowance; as_long = refl }

-- each law takes what the loop's functions say as it comes
module _ {code numbers : List ℕ} {activations limit : ℕ} {before : Arrays} {start : Registers} {allowance : ℕ} {a : Arrays} {here : Registers} {left : ℕ}
    (goes : Goes code numbers activations limit before start allowance a here left) (w : RunsIn code numbers activations limit before start) where
  pub goes_on : RunsIn code numbers activations limit a here
  goes_on = (goes.going w).running

  pub looking : Looking code numbers a.cells a.blocks a.froms here.live
  looking = looks (goes.going w)

  pub live-placed : here.live < 256
  live-placed = omega (arith, live-few (goes.going w).running.standing)

  pub at-placed : here.at ≤ 4096
  at-placed = at-within (goes.going w).running.standing

  pub few-left : left ≤ allowance
  few-left = (goes.going w).underway.few-left

  pub spent : {nexts'' : List ℕ} → nexts'' ≡ set a.nexts here.live here.at → {designator : ℕ}
      → ((v : Looking code numbers a.cells a.blocks a.froms here.live) → designator ≡ designates v.running.standing.stack.frames v.running.standing.name)
      → {halt r : Halt} → r ≡ named_by halt designator 0 → left ≤ 0 → halt ≡ spent_after here allowance
      → RunFrom w allowance r a.cells a.blocks nexts'' a.froms a.table
  spent noted found named none is = spends (goes.going w) _ noted _ found _ _ named (omega arith) is

  module _ {t : Turn} {after : Arrays} (turns : TurnsTo code numbers activations limit a here t after) where
    turned_as : (m : Turn) → t ≡ m → Turned goes_on m after
    turned_as m e = subst (λ (x : Turn). Turned goes_on x after) e (turns.turned goes_on)

    went-as : {here' : Registers} → t ≡ Went here' → 1 ≤ left → Going w allowance after here' (left - 1)
    unfolding goes_on
    went-as {here'} e h =
        let m = turned_as (Went here') e in
        record { running = m.running; underway = steps.went (goes.going w).running.standing (goes.going w).underway m.running.standing m.follows h }

    pub finished_as : t ≡ Finished → 1 ≤ left → {r : Halt} → r ≡ finished_after here (allowance - left + 1)
        → RunFrom w allowance r after.cells after.blocks after.nexts after.froms after.table
    finished_as e h {r} is =
        let m = turned_as Finished e in
        record {
          links = [];
          ended = finished-end here (goes.going w).running.standing (goes.going w).underway m.ended m.alone h after.cells after.blocks after.nexts [] after.table
              m.same-cells m.same-table r is;
          froms-are = none_left (goes.going w) m.ended m.alone h after.froms;
        }

    -- a statement that stops leaves all as it was
    module _ {c : Stop} (e : t ≡ Stopped c) where
      abbrev Stays : Arrays → Type 0
      Stays x = (v : Going w allowance x here left) × (frame_step (limits_by activations limit) v.running.standing.stack ≡ halted c)

      stays : Stays after
      unfolding goes_on
      stays =
          let m = turned_as (Stopped c) e in
          subst Stays (sym m.same) (goes.going w, m.stops)

      pub stopped-looking : Looking code numbers after.cells after.blocks after.froms here.live
      stopped-looking = looks stays.0

      pub stopped : {nexts''' : List ℕ} → nexts''' ≡ set after.nexts here.live here.at → {designator : ℕ}
          → ((v : Looking code numbers after.cells after.blocks after.froms here.live) → designator ≡ designates v.running.standing.stack.frames v.running.standing.name)
          → {halt r : Halt} → r ≡ named_by halt designator 0 → 1 ≤ left → halt ≡ stopped_after here c (allowance - left)
          → RunFrom w allowance r after.cells after.blocks nexts''' after.froms after.table
      stopped noted found named more is = stops stays.0 _ noted _ found _ _ named c stays.1 more is

module _ {code numbers : List ℕ} {activations limit : ℕ} {before : Arrays} {start : Registers} {allowance : ℕ} {a : Arrays} {here : Registers} {left : ℕ} where
  pub goes_further : Goes code numbers activations limit before start allowance a here left → {t : Turn} {after : Arrays}
      → TurnsTo code numbers activations limit a here t after → length after.table ≡ length a.table → {here' : Registers} → t ≡ Went here' → 1 ≤ left
      → Goes code numbers activations limit before start allowance after here' (left - 1)
  goes_further goes turns long e h = record { going = λ w. went-as goes w turns e h; as_long = long ∙ goes.as_long }

-- The start of a program

-- the program's frame alone: the search ends there, and there are no formals
alone-froms : (t : Block) (tab : Table) (froms : List ℕ) → get_or froms 0 0 ≡ 0 → Froms (frame_start t tab).frames froms
unfolding frame_start
alone-froms t tab froms z zero f e = z ∙ sym (ap pred (onward-none (new_frame [] [] t 0 ∷ []) 1 (passer_of-none (new_frame [] [] t 0 ∷ []) 1 (through-none (new_frame [] [] t 0 ∷ []) 1 (call-program (new_frame [] [] t 0 ∷ []) 1 (omega arith))))))
alone-froms t tab froms z (suc k) f e = none≢some e

alone-passers : (t : Block) (tab : Table) (passers : List ℕ) → Passers (frame_start t tab).frames passers
unfolding frame_start new_frame
alone-passers t tab passers zero i f m e q p = none≢some (ap (λ (g : Frame). get_elem? g.formals i) (some_inj e) ∙ q)
alone-passers t tab passers (suc k) i f m e q p = none≢some e

module _ {code numbers : List ℕ} {cells : List ℤ} {passers blocks nexts froms : List ℕ} {table : List ℤ} {pairs limit activations : ℕ}
    (b : Beginning code numbers cells passers blocks nexts froms table pairs limit activations) where
  -- the engine stands at the program's start
  record Starts (start : Registers) : Type 0 where
    running : Running code numbers activations limit cells passers blocks nexts froms table start
    at-start : AtStart b.begun running.standing

  module _ (start : Registers) (is : start ≡ start_by code pairs) where
    begins-there : Starts start
    begins-there =
        let t = b.begun.program in
        let tab : Table = record { words = table; used = pairs } in
        let links : List ℕ = replicate 256 0 in
        let s = begins b.begun blocks nexts links b.blocks-long b.nexts-long refl b.no_block refl in
        let reads = begin-reads b.begun in
        subst Starts (sym is)
        (subst Starts (λ i. goes_to (start_by code pairs) 0 (sym reads.0 i) (sym reads.1 i) pairs)
        (record {
          running = record {
            links = links;
            standing = s.0;
            numbers-stand = subst (λ (T : Type 0). T) (λ i. Covers numbers 0 (numbered_of (sym s.1.name-is i) (sym s.1.program-is i))) b.numbers-stand;
            froms-are = subst (λ (v : Stack). Froms v.frames froms) (sym s.1.stack_is) (alone-froms t tab froms b.no-from);
            passers-are = subst (λ (v : Stack). Passers v.frames passers) (sym s.1.stack_is) (alone-passers t tab passers);
            froms-long = b.froms-long;
            passers-long = b.passers-long;
          };
          at-start = s.1;
        }))

    pub starts : Running code numbers activations limit cells passers blocks nexts froms table start
    starts = begins-there.running

    pub program-run : (allowance : ℕ) (r : Halt) (cells' : List ℤ) (blocks' nexts' froms' : List ℕ) (table' : List ℤ)
        → ((w : Running code numbers activations limit cells passers blocks nexts froms table start) → RunFrom w allowance r cells' blocks' nexts' froms' table')
        → Ended b.begun.program b.begun.name activations limit (result_from b.begun allowance) r cells' blocks' nexts' froms' table'
    program-run allowance r cells' blocks' nexts' froms' table' k =
        let s = begins-there in
        let e = k s.running in
        record {
          links = e.links;
          ended = from_start s.running.standing s.at-start allowance r e.ended;
          froms-are = subst (λ (v : Stack). Froms (frame_run (limits_by activations limit) allowance v).final.frames froms') s.at-start.stack_is e.froms-are;
        }
