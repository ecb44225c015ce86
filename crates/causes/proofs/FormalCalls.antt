-- 26 is given only to a call through a formal. `only-through-formals`: where a reply says stopped with 26, the script is the encoding of a program t that keeps the
-- rules, and the statement at the reply's offset is a CL of t that calls a formal, as written. No machine's state is in `CallsFormal`: it is said of the text.
use Rattle.std.specs.Prelude.{ℕ, pred, List, ◌≡◌, length}
use Rattle.std.proofs.Common.{arith, sym, ◌∙◌, subst}
use Rattle.std.proofs.Math.Option.{some}
use Rattle.language.specs.Basics.{last?}
use Rattle.language.specs.Text.{procedure, Action, CL, Block, DO}
use Rattle.language.specs.Encoding.{encode}
use Rattle.language.specs.Machine.{Limits}
use Rattle.language.specs.Call.{Engine, Fed, Reply, limits_of, turned_away, reply}
use Rattle.language.specs.declared.Stop.TheVariants.{ArgumentsDiffer}
use Rattle.language.specs.declared.Refusal.{Refusal}
use Rattle.language.specs.declared.End.TheVariants.{Stopped, Refused}
use Rattle.grammar.specs.Rules.{Bytes, ScopedAction, Keeps}
use Rattle.grammar.proofs.Exact.{accepts-exactly}
use Rattle.runs.specs.Admission.{Admitted}
use Rattle.runs.specs.Reasons.{clash}
use Rattle.runs.specs.Calls.{reply-cases}
use Rattle.frames.specs.Frame.{Frame, Stack, frame_stmt, frame_start, frame_replied, frame_run_of}
use Rattle.frames.proofs.Runs.{runs-replied}
use Rattle.coordinates.specs.Chain.{enclosing, enclosure_of, Chained}
use Rattle.coordinates.proofs.Levels.{in-innermost}
use Rattle.coordinates.proofs.Visible.{scope_of}
use Rattle.coordinates.proofs.Designated.{statement-scoped}
use Rattle.coordinates.proofs.Sound.{Sound, call-sound}
use Rattle.coordinates.proofs.Called.{differing-formal}
use Rattle.causes.specs.FormalSites.{StandsAmong}
use Rattle.causes.proofs.FormalSites.{stands-sees, formal-nearest}
use Rattle.causes.proofs.FormalSettled.{sees-once}
use Rattle.causes.proofs.FormalStops.{run-stopped, CallDiffers, step-differs}
use Rattle.causes.specs.FormalCalls.{CallsFormal}

-- the next statement, among the blocks of the innermost frame's chain
next-stands : (t : Block) (fs : List Frame) → Chained t fs → (f : Frame) (at : ℕ) (a : Action) → last? fs ≡ some f → frame_stmt f ≡ some (DO at a)
    → StandsAmong t (enclosure_of fs (length fs)) at a
unfolding frame_stmt enclosing
next-stands t fs chain f at a e q = in-innermost t fs chain f e (λ es. StandsAmong t es at a) (λ es w. (w, pred f.next, q))

module _ (l : Limits) (t : Block) (keeps : Keeps t) (s : Stack) (sound : Sound l t s) where
  calls-formal : (c : CallDiffers s) → CallsFormal t c.at
  unfolding ScopedAction
  calls-formal c =
      let around = enclosure_of s.frames (length s.frames) in
      let action = CL c.called c.arguments in
      let is = (statement-scoped t keeps s.frames sound.chained c.caller c.at action c.innermost c.statement).called in
      let takes = differing-formal l t keeps s sound c.caller c.innermost c.at c.called c.arguments c.statement c.procedure c.designated c.differ is.0 is.1 in
      let stands = next-stands t s.frames sound.chained c.caller c.at action c.innermost c.statement in
      let seen = stands-sees t around c.at action stands in
      let f = formal-nearest around c.called is.0 is.1 is.2 takes in
      record {
        called = c.called;
        arguments = c.arguments;
        scope = scope_of around;
        seen = seen;
        alone = λ a sc h. sees-once t keeps c.at action a (scope_of around) sc seen h;
        meaning = is.0;
        means = is.1;
        kind = is.2;
        takes = takes;
        around = around;
        stands = stands;
        formal = f.formal;
        nearest = f.nearest;
        gives = f.gives;
      }

-- what is to be shown of a reply: the script is that of a program, whose offsets are those of the bytes
abbrev Told : Fed → Reply → Type 0
Told f r = r.answer.end ≡ Stopped ArgumentsDiffer → (t : Block) × (f.script ≡ encode t) × Keeps t × CallsFormal t r.answer.offset

away-told : (f : Fed) (c : Refusal) (o : ℕ) → Told f (turned_away f c o)
unfolding turned_away
away-told f c o q = clash (Refused c) (Stopped ArgumentsDiffer) (omega arith) q

ran-told : (e : Engine) (f : Fed) → Bytes f.script → (t : Block) → Admitted e f t → Told f (frame_replied e f (frame_run_of f t))
unfolding frame_replied frame_run_of
ran-told e f bytes t h q =
    let r = frame_run_of f t in
    let w = run-stopped (limits_of f) f.allowance (frame_start t f.lent.table) ArgumentsDiffer q in
    let c = step-differs (limits_of f) r.final w.live w.cause in
    let k = (accepts-exactly f.script bytes t).0 h.script in
    let calls = calls-formal (limits_of f) t k.1 r.final (call-sound e f t bytes h) c in
    (t, k.0, k.1, subst (CallsFormal t) (sym (w.offset ∙ c.offset)) calls)

-- whatever engine is called on whatever it is fed
pub only-through-formals : (e : Engine) (f : Fed) → Bytes f.script → (reply e f).answer.end ≡ Stopped ArgumentsDiffer
    → (t : Block) × (f.script ≡ encode t) × Keeps t × CallsFormal t (reply e f).answer.offset
only-through-formals e f bytes =
    reply-cases (Told f) e f (λ c o h. away-told f c o) (λ t h. subst (Told f) (runs-replied e f bytes t h.script) (ran-told e f bytes t h))
