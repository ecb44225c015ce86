-- The loop of a run and its end, from any state in which the engine can stand. `Going`: so far a run has come, with words and records as they are and so
-- many steps left. `Last`: what the last step came to ends it; `Ending`: what is asked at the end.
-- `begun`: a run begins so; `went-as`: a step keeps it; `over-as`: a step ends it; `out-of-steps`: no step is left. `finished-end`, `halted-end`: what a run
-- then ends with. `starts`: the engine can stand where a program begins, and `program-run`: what a run from there is to the program.
use Rattle.std.specs.Prelude.{ℕ, suc, ◌+◌, ◌-◌, ◌≤◌, ◌<◌, Bool, true, false, ◌≡◌, refl, ℤ, length, get_or, set}
use Rattle.std.proofs.Common.{arith, ◌∙◌, get_or-set_same}
use mathlib.Core.List.{List, [], ◌∷◌}
use Rattle.std.proofs.Math.Path.{sym, ap, subst}
use Rattle.language.specs.declared.Stop.{Stop}
use Rattle.language.specs.declared.End.{End}
use Rattle.language.specs.declared.End.TheVariants.{Spent, Stopped as Halts}
use Rattle.frames.specs.Frame.{Frame, Stack, Result, results, halted, links_followed, frame_step, frame_run, frame_start}
use Rattle.resolved.specs.Resolved.{level_in}
use Rattle.arrays.proofs.Names.{nothing-live}
use Rattle.steps.specs.Here.{live-few}
use Rattle.steps.specs.Reads.{at-within, begin-reads}
use Rattle.steps.specs.Begun.{AtStart, result_from}
use Rattle.steps.specs.Loop.{begins, spent as spends, stops}
use Rattle.steps.specs.Underway as steps
use Rattle.chain_records.specs.declared.Activation.{Activation}
use Rattle.run_state.specs.declared.Registers.{Registers}
use Rattle.run_state.specs.declared.Turn.{Turn}
use Rattle.run_state.specs.declared.Turn.TheVariants.{Went, Finished, Stopped}
use Rattle.run_state.specs.declared.Halt.{Halt}
use Rattle.run_state.specs.Limits.{limits_by}
use Rattle.run_state.specs.Halts.{finished_after, halt_of, spent_after, stopped_after, named_by}
use Rattle.run_state.specs.Ended as state
use Rattle.chain_links.specs.declared.Found.{Found}
use Rattle.chain_links.specs.Records.{blocks_in, nexts_in, links_in, Room, pushed, next-set, column-length}
use Rattle.chain_links.specs.Running.{activation_of, Running, Looking}
use Rattle.chain_links.specs.Moving.{room-there}
use Rattle.chain_links.specs.Names.{found_in}
use Rattle.chain_step.specs.Moves.{is_went, is_finished, next_in}
use Rattle.chain_step.specs.Turning.{Turned}
use Rattle.chain_run.specs.Running.{Beginning, Ended, EndedFrom, RunFrom}
use Rattle.chain_run.specs.Ending.{start_by, halt_by, halted-pairs, settled, Ends, Going, Last, begun, Ending}

yes-no : {A : Type 0} → true ≡ false → A
yes-no e = let z : ◌≡◌ {A = ℕ} 0 1 = ap (λ (x : Bool). elim x as (λ y. ℕ) [ true ↦ 0 | false ↦ 1 ]) e in absurd (omega arith)

module _ {code : List ℕ} {activations limit : ℕ} {cells₀ : List ℤ} {records₀ : List Activation} {table₀ : List ℤ} {start : Registers}
    {w : Running code activations limit cells₀ records₀ table₀ start} {allowance : ℕ} {cells : List ℤ} {records : List Activation} {table : List ℤ}
    {here : Registers} {left : ℕ} (u : Going w allowance cells records table here left) where
  pub went-as : (t : Turn) → is_went t ≡ true → (cells' : List ℤ) (records' : List Activation) (table' : List ℤ)
      → Turned u.running t cells' records' table' → 1 ≤ left → Going w allowance cells' records' table' (next_in here t) (left - 1)
  went-as (Went n) e cells' records' table' m h =
      record { running = m.running; underway = steps.went u.running.standing u.underway m.running.standing m.follows h }
  went-as Finished e cells' records' table' m h = yes-no (sym e)
  went-as (Stopped c) e cells' records' table' m h = yes-no (sym e)

  -- a step that ends it leaves words and table as they were
  abbrev Over : Turn → List Activation → List ℤ → List ℤ → Type 0
  Over t records' ws ts = (v : Going w allowance ws records ts here left) × Ends v.running records' t left

  moved_to : (t : Turn) (records' : List Activation) (cells' table' : List ℤ) → cells' ≡ cells → table' ≡ table → Over t records' cells table
      → Over t records' cells' table'
  moved_to t records' cells' table' e₁ e₂ h = subst (λ (T : Type 0). T) (λ i. Over t records' (sym e₁ i) (sym e₂ i)) h

  over : (t : Turn) → is_went t ≡ false → (cells' : List ℤ) (records' : List Activation) (table' : List ℤ)
      → Turned u.running t cells' records' table' → 1 ≤ left → Over t records' cells' table'
  over (Went n) e cells' records' table' m h = yes-no e
  over Finished e cells' records' table' m h =
      moved_to Finished records' cells' table' m.same-cells m.same-table (u, (m.ended, m.alone, h))
  over (Stopped c) e cells' records' table' m h =
      moved_to (Stopped c) records' cells' table' (λ i. (m.same i).cells) (λ i. (m.same i).table) (u, (m.stops, h, λ i. (m.same i).records))

  pub over-as : (t : Turn) → is_went t ≡ false → (cells' : List ℤ) (records' : List Activation) (table' : List ℤ)
      → Turned u.running t cells' records' table' → 1 ≤ left → Last w allowance cells' records' table' here t left
  over-as t e cells' records' table' m h =
      let o = over t e cells' records' table' m h in
      record { before = records; going = o.0; ends = o.1 }

  no_more : (t : Turn) → is_went t ≡ true → left ≡ 0 → Ends u.running records t left
  no_more (Went n) e z = (z, refl)
  no_more Finished e z = yes-no (sym e)
  no_more (Stopped c) e z = yes-no (sym e)

  pub out-of-steps : (t : Turn) → is_went t ≡ true → left ≡ 0 → Last w allowance cells records table here t left
  out-of-steps t e z = record { before = records; going = u; ends = no_more t e z }

  -- what is read of a state
  pub few-left : left ≤ allowance
  few-left = u.underway.few-left

  pub at_small : here.at ≤ 4096
  at_small = at-within u.running.standing

  pub live_small : here.live < 256
  live_small = omega (arith, live-few u.running.standing)

  abbrev pub looking : Looking code cells records here
  looking = record { activations = activations; limit = limit; table = table; running = u.running }

  -- The ends that leave activations live

  module _ (found : Found) (is : found ≡ found_in u.running.standing.stack.frames u.running.standing.name) where
    abbrev s : Stack
    s = u.running.standing.stack

    abbrev result : Result
    result = frame_run (limits_by activations limit) allowance w.standing.stack

    -- the same of the records, and the links that were counted
    put : (e : End) (n offset : ℕ) → result ≡ results e offset s
        → state.RunFrom w.standing allowance (named_by (halt_of here e n offset) found.designator found.links) cells (blocks_in records)
        (set (nexts_in records) here.live here.at) (links_in records) table
        → RunFrom w allowance (named_by (halt_of here e n offset) found.designator found.links) cells (settled records here) table
    unfolding results
    put e n offset q h =
        let next-written = next-set records here.live here.at (room-there u.running here.live (omega arith)) in
        record {
          ended = subst (λ (T : Type 0). T)
              (λ i. state.RunFrom w.standing allowance (named_by (halt_of here e n offset) found.designator found.links) cells
              (sym next-written.blocks i) (sym next-written.nexts i) (sym next-written.links i) table)
              h;
          links-are = ap (λ (f : Found). f.links) is ∙ ap (links_followed s.frames) u.underway.same_name
              ∙ sym (ap (λ (v : Result). links_followed v.final.frames w.standing.name) q);
        }

    pub spent : left ≡ 0 → RunFrom w allowance (named_by (spent_after here (allowance - left)) found.designator found.links) cells (settled records here) table
    spent z =
        let n : allowance ≡ allowance - left = omega arith in
        subst (λ (k : ℕ). RunFrom w allowance (named_by (spent_after here k) found.designator found.links) cells (settled records here) table) n
        (put Spent allowance 0 (u.underway.runs ∙ ap (λ k. frame_run (limits_by activations limit) k s) z ∙ spends u.running.standing)
        (state.spent-end here u.running.standing u.underway _ refl found.designator (ap (λ (f : Found). f.designator) is) found.links _ _ refl z refl))

    pub stopped : (c : Stop) → frame_step (limits_by activations limit) s ≡ halted c → 1 ≤ left
        → RunFrom w allowance (named_by (stopped_after here c (allowance - left)) found.designator found.links) cells (settled records here) table
    stopped c stop more =
        let one : left ≡ suc (left - 1) = omega arith in
        put (Halts c) (allowance - left) _
        (u.underway.runs ∙ ap (λ k. frame_run (limits_by activations limit) k s) one ∙ stops u.running.standing (left - 1) c stop)
        (state.stopped-end here u.running.standing u.underway _ refl found.designator (ap (λ (f : Found). f.designator) is) found.links _ _ refl c stop
        more refl)

-- What a run ends with

no_frames : (fs : List Frame) → 0 ≡ length fs → fs ≡ []
no_frames [] h = refl
no_frames (f ∷ fs) h = absurd (omega arith)

-- found, from any state with these records
abbrev pub FoundIn : List ℕ → List ℤ → Registers → Found → List Activation → Type 0
FoundIn code cells here found records = (v : Looking code cells records here)
    → found ≡ found_in v.running.standing.stack.frames v.running.standing.name

module _ {code : List ℕ} {cells : List ℤ} {records : List Activation} {here : Registers} {allowance left : ℕ} where
  abbrev EndedAt : {turn : Turn} → Ending code cells records here turn allowance left → Halt → List Activation → Type 0
  EndedAt e r records' = RunFrom e.from allowance r cells records' e.table

  -- what the functions ask

  pub left-within : {turn : Turn} → Ending code cells records here turn allowance left → left ≤ allowance
  left-within e = few-left e.last.going

  pub at-within-script : {turn : Turn} → Ending code cells records here turn allowance left → here.at ≤ 4096
  at-within-script e = at_small e.last.going

  pub live-within : {turn : Turn} → Ending code cells records here turn allowance left → here.live < 256
  live-within e = live_small e.last.going

  pub one_left : (turn : Turn) → Ending code cells records here turn allowance left → is_finished turn ≡ true → 1 ≤ left
  one_left (Went n) e q = yes-no (sym q)
  one_left Finished e q = e.last.ends.2
  one_left (Stopped c) e q = yes-no (sym q)

  same-records : (turn : Turn) (e : Ending code cells records here turn allowance left) → is_finished turn ≡ false → records ≡ e.last.before
  same-records (Went n) e q = e.last.ends.1
  same-records Finished e q = yes-no q
  same-records (Stopped c) e q = e.last.ends.2

  pub looks : (turn : Turn) → Ending code cells records here turn allowance left → is_finished turn ≡ false → Looking code cells records here
  looks turn e q = subst (λ (rs : List Activation). Looking code cells rs here) (sym (same-records turn e q)) (looking e.last.going)

  -- the two ways

  pub finished-end : (turn : Turn) (e : Ending code cells records here turn allowance left) → is_finished turn ≡ true → (records' : List Activation)
      → EndedAt e (finished_after here (allowance - left + 1)) records'
  finished-end (Went n) e q records' = yes-no (sym q)
  finished-end Finished e q records' =
      let g = e.last.going in
      let x = e.last.ends in
      let h = state.finished-end here g.running.standing g.underway x.0 x.1 x.2 cells (blocks_in records') (nexts_in records')
      (links_in records') e.table refl refl _ refl in
      record {
        ended = h;
        links-are = sym (ap (λ (fs : List Frame). links_followed fs e.from.standing.name) (no_frames _ h.live-is) ∙ (nothing-live e.from.standing.name).1);
      }
  finished-end (Stopped c) e q records' = yes-no (sym q)

  pub halted-end : (turn : Turn) (e : Ending code cells records here turn allowance left) → is_finished turn ≡ false → (found : Found)
      → FoundIn code cells here found records → EndedAt e (halt_by here turn found allowance left) (settled records here)
  unfolding halt_by
  halted-end (Went n) e q found is =
      let g = e.last.going in
      let x = e.last.ends in
      let i = subst (FoundIn code cells here found) x.1 is in
      subst (λ (rs : List Activation). EndedAt e (named_by (spent_after here (allowance - left)) found.designator found.links) (settled rs here)) (sym x.1)
      (spent g found (i (looking g)) x.0)
  halted-end Finished e q found is = yes-no q
  halted-end (Stopped c) e q found is =
      let g = e.last.going in
      let x = e.last.ends in
      let i = subst (FoundIn code cells here found) x.2 is in
      subst (λ (rs : List Activation). EndedAt e (named_by (stopped_after here c (allowance - left)) found.designator found.links) (settled rs here)) (sym x.2)
      (stopped g found (i (looking g)) c x.0 x.1)

-- The start of a program

module _ {code : List ℕ} {cells : List ℤ} {records : List Activation} {table : List ℤ} {pairs limit activations : ℕ}
    (b : Beginning code cells records table pairs limit activations) where
  pub room-first : Room records 0
  room-first = record { few = omega arith; there = omega (arith, b.room, b.begun.some-live) }

  -- the engine stands at the program's start, once the program's record is written
  record Starts (rs : List Activation) (start : Registers) : Type 0 where
    running : Running code activations limit cells rs table start
    at-start : AtStart b.begun running.standing

  begins-there : Starts (set records 0 (activation_of code 0 0)) (start_by code pairs)
  begins-there =
      let rs : List Activation = set records 0 (activation_of code 0 0) in
      let p = pushed records 0 (activation_of code 0 0) room-first in
      let block : get_or (blocks_in rs) 0 0 ≡ 0 = ap (λ (xs : List ℕ). get_or xs 0 0) p.blocks ∙ get_or-set_same (blocks_in records) 0 0 0
      (omega (arith, column-length (λ a. a.block) records 0 256)) in
      let link : get_or (links_in rs) 0 0 ≡ 0 = ap (λ (xs : List ℕ). get_or xs 0 0) p.links ∙ get_or-set_same (links_in records) 0 0 0
      (omega (arith, column-length (λ a. a.link) records 0 256)) in
      let s = begins b.begun (blocks_in rs) (nexts_in rs) (links_in rs) (column-length (λ a. a.block) rs 0 256) (column-length (λ a. a.next) rs 0 256)
      (column-length (λ a. a.link) rs 0 256) block link in
      let reads = begin-reads b.begun in
      subst (Starts rs)
      (λ i. record { live = 0; at = sym reads.0 i; end = sym reads.1 i; pairs = pairs; level = level_in (get_or code 0 0); fresh = 0 })
      (record {
        running = record {
          standing = s.0;
          level-is = ap (λ k. level_in (get_or code k 0)) (sym block);
          room = omega (arith, b.room, p.long);
        };
        at-start = s.1;
      })

  module _ (rs : List Activation) (written : rs ≡ set records 0 (activation_of code 0 0)) (start : Registers) (is : start ≡ start_by code pairs) where
    there : Starts rs start
    there = subst (λ (T : Type 0). T) (λ i. Starts (sym written i) (sym is i)) begins-there

    pub starts : Running code activations limit cells rs table start
    starts = there.running

    pub program-run : (allowance : ℕ) (r : Halt) (cells' : List ℤ) (records' : List Activation) (table' : List ℤ)
        → ((w : Running code activations limit cells rs table start) → RunFrom w allowance r cells' records' table')
        → Ended b.begun.program b.begun.name activations limit (result_from b.begun allowance) r cells' records' table'
    unfolding frame_start
    program-run allowance r cells' records' table' k =
        let s = there.at-start in
        subst (λ (T : Type 0). T)
        (λ i. EndedFrom (s.stack_is i).steps (s.program-is i) (s.name-is i) activations limit
        (frame_run (limits_by activations limit) allowance (s.stack_is i)) r cells' records' table')
        (k there.running)
