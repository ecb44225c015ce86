-- What an engine that runs as the frame machine replies is the copy rule's reply. By the verdict of admission: `refused-reply`, what a refusal
-- answers and leaves; `fit-admitted`: no refusal is due, and there is a program; `refused-call`, `admitted-call`: the same as an engine's call has them.
-- `leaving-all`, `leaving-length`: with an area of the engine's own.
-- Of its run: `ran-answer` and `ran-lent`, where the engine has of it what the frame machine's result has (`Ran`). `result-held`: arrays that hold the
-- result's frames can be written as its sheet (crate run_sheet); `room-for-sheet`, `tally-fits`, `steps-fit`: there is room for it, the tally can be added
-- to, and N is in range.
use Rattle.std.specs.Prelude.{ℕ, ◌*◌, ◌≤◌, Bool, true, false, ◌&&◌, List, ◌≡◌, refl, leb, ℤ, length, Ok, Err}
use Rattle.std.proofs.Common.{arith, ◌∙◌, leb-true}
use Rattle.std.proofs.Math.Path.{sym, ap}
use Rattle.language.specs.Sheet.{sheet_share}
use Rattle.language.specs.Text.{Block}
use Rattle.language.specs.Check.{Checked, accepted, refused}
use Rattle.language.specs.Groups.{relisted}
use Rattle.language.specs.Machine.{Limits}
use Rattle.language.specs.Call.{Engine, Lent, Fed, Reply, limits_of, limits_fit, admission, turned_away, links_of, written, reply}
use Rattle.language.specs.declared.Refusal.{Refusal}
use Rattle.language.specs.declared.End.{End}
use Rattle.language.specs.declared.Answer.{Answer}
use Rattle.language.specs.declared.Fault.{Fault}
use Rattle.language.specs.Faults.{fault, Verdict}
use Rattle.laws.specs.Tests.{both}
use Rattle.grammar.specs.Rules.{Bytes, Keeps}
use Rattle.runs.specs.Admission.{Admitted, limits-fit, sheet-fits, sheet-lent, refused-exactly, accepted-exactly, admitted-accepted, leaves_all, leaves-length}
use Rattle.runs.specs.Calls.{due-reply, admitted-answered}
use Rattle.frames.specs.Frame.{Stack, Result, designates, links_followed, frame_sheet, frame_replied, frame_run_of, frame_reply}
use Rattle.frames.proofs.Theorem.{frames-run-as-copies}
use Rattle.coordinates.proofs.Sound.{Sound}
use Rattle.resolved.specs.Resolved.{resolved_of, Covers}
use Rattle.arrays.specs.Holds.{Holds}
use Rattle.check_script.specs.Verdicts.{verdict_of}
use Rattle.call_answers.specs.Answers.{refused_answer, ran_answer}
use Rattle.call_answers.specs.Replies.{Answers, AnswersLeaving}
use Rattle.run_sheet.specs.Held.{Held}

-- The verdict of admission

verdict-refused : (k : Checked) (c : Refusal) (o : ℕ) → verdict_of k ≡ Err (fault c o) → k ≡ refused c o
unfolding verdict_of
verdict-refused (accepted t) c o q = let z : ◌≡◌ {A = ℕ} 0 1 = cc in absurd (omega arith)
verdict-refused (refused d p) c o q =
    let f : fault d p ≡ fault c o = cc in
    let x : d ≡ c = ap (λ (z : Fault). z.cause) f in
    let y : p ≡ o = ap (λ (z : Fault). z.offset) f in
    λ i. refused (x i) (y i)

verdict-fit : (k : Checked) → verdict_of k ≡ Ok tt → (t : Block) × (k ≡ accepted t)
unfolding verdict_of
verdict-fit (accepted t) q = (t, refl)
verdict-fit (refused c o) q = let z : ◌≡◌ {A = ℕ} 0 1 = cc in absurd (omega arith)

module _ (e : Engine) (f : Fed) where
  pub refused-reply : (c : Refusal) (o : ℕ) → verdict_of (admission e f) ≡ Err (fault c o)
      → ((reply e f).answer ≡ refused_answer c o f.lent.table.used f.tally) × ((reply e f).lent ≡ f.lent)
  unfolding turned_away
  refused-reply c o q =
      let r = due-reply e f ((refused-exactly e f c o).0 (verdict-refused (admission e f) c o q)) in
      (ap (λ (x : Reply). x.answer) r, ap (λ (x : Reply). x.lent) r)

  pub fit-admitted : verdict_of (admission e f) ≡ Ok tt → (t : Block) × Admitted e f t
  fit-admitted q = let r = verdict-fit (admission e f) q in (r.0, (accepted-exactly e f r.0).0 r.1)

  -- as an engine's call has them: the verdict, and its answer
  module _ (v : Verdict) (verdict : v ≡ verdict_of (admission e f)) where
    pub admitted-call : v ≡ Ok tt → (t : Block) × Admitted e f t
    admitted-call q = fit-admitted (sym verdict ∙ q)

    pub refused-call : (c : Refusal) (o : ℕ) → v ≡ Err (fault c o) → {answer : Answer} → answer ≡ refused_answer c o f.lent.table.used f.tally
        → Answers e f answer f.lent.sheet f.lent.table.words f.lent.groups
    refused-call c o q a =
        let r = refused-reply c o (sym verdict ∙ q) in
        record { answer-is = a ∙ sym r.0; sheet-is = ap (λ (l : Lent). l.sheet) (sym r.1); table_is = ap (λ (l : Lent). l.table.words) (sym r.1); groups-are = ap (λ (l : Lent). l.groups) (sym r.1) }

  -- An engine's own area is not written where the call is refused, and of the same length where the program is admitted
  module _ {A : Type 0} {answer : Answer} {sheet table groups : List ℤ} (r : Answers e f answer sheet table groups) where
    pub leaving-all : (area : List A) → AnswersLeaving e f answer sheet table groups area area
    leaving-all area = record { answers = r; leaves = leaves_all e f area }

    pub leaving-length : {t : Block} → Admitted e f t → {before after : List A} → length after ≡ length before → AnswersLeaving e f answer sheet table groups before after
    leaving-length h q = record { answers = r; leaves = leaves-length e f (admitted-accepted e f h) q }

  -- A program that is admitted runs as the frame machine runs it
  module _ (bytes : Bytes f.script) (t : Block) (h : Admitted e f t) where
    pub frames-reply : reply e f ≡ frame_replied e f (frame_run_of f t)
    unfolding frame_reply
    frames-reply = sym (frames-run-as-copies e f bytes) ∙ admitted-answered e f (λ u. frame_replied e f (frame_run_of f u)) t h

-- What an engine has of a run, as the frame machine's result has it; `links` is what it reports of them.
pub record Ran (e : Engine) (f : Fed) (result : Result) (end : End) (steps offset pairs sheet designator links : ℕ) : Type 0 where
  pub end_is : end ≡ result.end
  pub steps-are : steps ≡ result.final.steps
  pub offset-is : offset ≡ result.offset
  pub pairs-are : pairs ≡ result.final.table.used
  pub sheet-is : sheet ≡ length (frame_sheet result.final.frames)
  pub designator-is : designator ≡ designates result.final.frames f.name
  pub links-are : links ≡ (frame_replied e f result).answer.links

module _ (e : Engine) (f : Fed) (bytes : Bytes f.script) (t : Block) (h : Admitted e f t) where
  pub ran-answer : (end : End) (steps offset pairs sheet designator links : ℕ) → Ran e f (frame_run_of f t) end steps offset pairs sheet designator links
      → ran_answer end steps offset pairs sheet f.tally designator links ≡ (reply e f).answer
  unfolding frame_replied
  ran-answer end steps offset pairs sheet designator links r =
      (λ i. ran_answer (r.end_is i) (r.steps-are i) (r.offset-is i) (r.pairs-are i) (r.sheet-is i) f.tally (r.designator-is i) (r.links-are i))
      ∙ sym (ap (λ (x : Reply). x.answer) (frames-reply e f bytes t h))

  pub ran-lent : (reply e f).lent ≡ record { sheet = written (frame_sheet (frame_run_of f t).final.frames) f.lent.sheet; table = (frame_run_of f t).final.table; groups = relisted (frame_run_of f t).final.table f.lent.groups }
  unfolding frame_replied
  ran-lent = ap (λ (x : Reply). x.lent) (frames-reply e f bytes t h)

-- an engine that reports no links
pub no-links : (e : Engine) (f : Fed) (r : Result) → e.links ≡ false → 0 ≡ (frame_replied e f r).answer.links
unfolding frame_replied links_of
no-links e f r q = rw q

-- and one that reports them
pub with-links : (e : Engine) (f : Fed) (r : Result) → e.links ≡ true → links_followed r.final.frames f.name ≡ (frame_replied e f r).answer.links
unfolding frame_replied links_of
with-links e f r q = rw q

-- Arrays that hold the frames of a sound stack can be written as a sheet
pub result-held : (code : List ℕ) (cells : List ℤ) (blocks nexts links : List ℕ) (name : ℕ) (t : Block) (l : Limits) (s : Stack) → Keeps t → Covers code 0 (resolved_of name t) → Sound l t s
    → Holds s.frames blocks nexts links cells → Held code cells blocks nexts links s.frames
result-held code cells blocks nexts links name t l s keeps covers sound holds =
    record {
      name = name;
      program = t;
      keeps = keeps;
      covers = covers;
      chained = sound.chained;
      bounded = sound.bounded.each;
      most = omega (arith, sound.bounded.live, sound.few);
      holds = holds;
    }

-- What else an admitted call gives the engine: room for the sheet of whatever its run leaves, a tally that can be added to, and N in range
module _ {e : Engine} {f : Fed} {t : Block} (h : Admitted e f t) where
  pub room-for-sheet : (s : Stack) → Sound (limits_of f) t s → sheet_share * length s.frames ≤ length f.lent.sheet
  room-for-sheet s sound = omega (arith, sheet-lent f (sheet-fits h), sound.bounded.live)

  abbrev steps_in : Bool
  steps_in = leb 1 f.activations && leb f.activations 256 && leb f.allowance 1000000

  abbrev groups_in : Bool
  groups_in = steps_in && leb 1 f.limit && leb f.limit 65535

  limits : (groups_in ≡ true) × (leb f.tally 1000000000000 ≡ true)
  unfolding limits_fit
  limits = both groups_in (leb f.tally 1000000000000) (limits-fit h)

  pub tally-fits : f.tally ≤ 1000000000000
  tally-fits = leb-true f.tally 1000000000000 limits.1

  pub steps-fit : f.allowance ≤ 1000000
  steps-fit =
      let steps = (both steps_in (leb 1 f.limit) (both (steps_in && leb 1 f.limit) (leb f.limit 65535) limits.0).0).0 in
      leb-true f.allowance 1000000 (both (leb 1 f.activations && leb f.activations 256) (leb f.allowance 1000000) steps).1
