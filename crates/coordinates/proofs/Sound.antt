-- The invariant of the frame machine: `Sound l t s`. `start-sound`: a run of the script t begins with it; `step-sound`: a step keeps it, from
-- any stack that has it; `run_sound`: so whatever a run leaves has it, from any such stack. `admitted-sound` and
-- `call-sound` say it of what a call is fed.
use Rattle.std.specs.Prelude.{ℕ, ◌≤◌, true, List, [], ◌≡◌, length}
use Rattle.std.proofs.Common.{subst}
use Rattle.language.specs.Text.{label, Action, CL, GO, IF, KN, AR, AD, RM, QY, Block}
use Rattle.language.specs.Check.{accepted, check}
use Rattle.language.specs.Table.{Table, right}
use Rattle.language.specs.Machine.{Limits}
use Rattle.language.specs.Call.{Engine, Fed, limits_of}
use Rattle.laws.specs.Lists.{by-elements}
use Rattle.grammar.specs.Rules.{Bytes, Is, ScopedAction, Keeps}
use Rattle.grammar.proofs.Exact.{accepts-exactly}
use Rattle.runs.specs.Admission.{Admitted, limits-fit, table-right, activations-fit}
use Rattle.frames.specs.Frame.{Frame, Stack, acted, designates, map_action, stepped, frame_start, frame_step, frame_run, frame_run_of}
use Rattle.frames.specs.Running.{After, run-keeps}
use Rattle.frame_laws.specs.Innermost.{last-innermost, step-none}
use Rattle.frame_laws.specs.Tables.{step_right}
use Rattle.frame_laws.specs.Bounds.{Bounded, OnLabel, JumpsToLabel, Lands}
use Rattle.frame_laws.specs.BoundedSteps.{bounded-stepped, step-bounded, start-bounded}
use Rattle.coordinates.specs.Chain.{enclosure_of, Chained}
use Rattle.coordinates.proofs.Kept.{start-chained}
use Rattle.coordinates.proofs.Visible.{scope_of}
use Rattle.coordinates.proofs.Designated.{Wired, statement-scoped, designates-a, declared-kind}
use Rattle.coordinates.specs.Made.{Made}
use Rattle.coordinates.proofs.Wiring.{step-wired, step-linked, start-wired}
use Rattle.coordinates.proofs.Making.{start-made, step-made}

-- D is at most 256; the frames keep the bounds; they are linked as the text says; every formal's word designates an instance of its kind;
-- each frame is what the statement passed last in the one below makes; and the table is right for G.
pub record Sound (l : Limits) (t : Block) (s : Stack) : Type 0 where
  pub few : l.activations ≤ 256
  pub bounded : Bounded l s
  pub chained : Chained t s.frames
  pub wired : Wired s.frames
  pub made : Made s.frames
  pub table : right l.limit s.table ≡ true

-- A goto lands on a label

module _ (t : Block) (keeps : Keeps t) (fs : List Frame) (chain : Chained t fs) (wired : Wired fs) where
  on-label : (n : ℕ) → Is label (scope_of (enclosure_of fs (length fs))) n → OnLabel fs (designates fs n)
  on-label n is d e = declared-kind fs (designates fs n) label d (designates-a t keeps fs chain wired label n is) e

  jumps : (a : Action) → ScopedAction a (scope_of (enclosure_of fs (length fs))) → JumpsToLabel fs (map_action (designates fs) a)
  unfolding map_action ScopedAction
  jumps (CL p xs) h = tt
  jumps (GO x) h = on-label x h
  jumps (IF v x) h = on-label x h.1
  jumps (KN x z) h = tt
  jumps (AR x o a b) h = tt
  jumps (AD g m) h = tt
  jumps (RM g m) h = tt
  jumps (QY x g m) h = tt

pub landing : (t : Block) → Keeps t → (s : Stack) → Chained t s.frames → Wired s.frames → Lands s
landing t keeps s chain wired pre f at a e q =
    jumps t keeps s.frames chain wired a (statement-scoped t keeps s.frames chain f at a (last-innermost s pre f e) q)

-- The start, a step, a run

pub start-sound : (l : Limits) (t : Block) (tab : Table) → 1 ≤ l.activations → l.activations ≤ 256 → right l.limit tab ≡ true → Keeps t → Sound l t (frame_start t tab)
unfolding frame_start
start-sound l t tab one most r keeps =
    record { few = most; bounded = start-bounded l t tab one keeps; chained = start-chained t tab; wired = start-wired t tab; made = start-made t tab; table = r }

-- the steps done count for nothing
sound-stepped : (l : Limits) (t : Block) (s s' : Stack) → Sound l t s' → Sound l t (stepped s s')
unfolding stepped
sound-stepped l t s s' h = record { few = h.few; bounded = bounded-stepped l s s' h.bounded; chained = h.chained; wired = h.wired; made = h.made; table = h.table }

pub step-sound : (t : Block) → Keeps t → (l : Limits) (s s' : Stack) → Sound l t s → frame_step l s ≡ acted s' → Sound l t (stepped s s')
unfolding stepped
step-sound t keeps l s s' h e = by-elements s.frames none live
  where
    none : s.frames ≡ [] → Sound l t (stepped s s')
    none q =
        let same : s ≡ s' = cc (step-none l s q) in
        subst (λ (u : Stack). Sound l t (stepped s u)) same (sound-stepped l t s s h)

    live : 1 ≤ length s.frames → Sound l t (stepped s s')
    live n =
        record {
          few = h.few;
          bounded = subst (After (λ u. Bounded l (stepped s u))) e (step-bounded l h.few s n h.bounded (landing t keeps s h.chained h.wired));
          chained = step-linked t keeps l s s' e h.chained h.wired;
          wired = step-wired t keeps l s s' e h.chained h.wired;
          made = step-made t keeps l s s' e h.chained h.wired h.bounded.each h.made;
          table = subst (After (λ u. right l.limit (stepped s u).table ≡ true)) e (step_right l s n h.table);
        }

pub run_sound : (t : Block) → Keeps t → (l : Limits) (n : ℕ) (s : Stack) → Sound l t s → Sound l t (frame_run l n s).final
run_sound t keeps l n s h = run-keeps l (Sound l t) (λ u u' live e q. step-sound t keeps l u u' q e) n s h

-- A script that the check accepts

pub accepted-keeps-rules : (bs : List ℕ) → Bytes bs → (t : Block) → check bs ≡ accepted t → Keeps t
accepted-keeps-rules bs h t e = ((accepts-exactly bs h t).0 e).1

-- what a call is fed, where no refusal is due: the start, and what the run leaves
module _ (e : Engine) (f : Fed) (t : Block) (b : Bytes f.script) (h : Admitted e f t) where
  pub admitted-sound : Sound (limits_of f) t (frame_start t f.lent.table)
  admitted-sound =
      let d = activations-fit f (limits-fit h) in
      start-sound (limits_of f) t f.lent.table d.0 d.1 (table-right h) (accepted-keeps-rules f.script b t h.script)

  pub call-sound : Sound (limits_of f) t (frame_run_of f t).final
  unfolding frame_run_of
  call-sound = run_sound t (accepted-keeps-rules f.script b t h.script) (limits_of f) f.allowance (frame_start t f.lent.table) admitted-sound
