-- Whole runs: from the start on, at every allowance, both machines come to the same end at related states; and related states show
-- one sheet and find one looked-up name. So the replies are one.
use Prim.Native.Nat.{ℕ, suc, ◌+◌, ◌≤◌}
use Rattle.std.proofs.Common.{arith, ap₂, ◌∙◌, subst, length-append}
use Rattle.std.specs.Prelude.{◌≡◌, pos}
use Rattle.std.proofs.Math.Path.{refl, sym, ap}
use mathlib.Core.List.{List, [], ◌∷◌, ◌++◌}
use Rattle.std.proofs.Math.Option.{Option, none, some}
use Rattle.std.proofs.Math.ListN.{length, get_elem?}
use Rattle.language.specs.Basics.{last?, but_last}
use Rattle.language.specs.Text.{Block, Decl, VR, LB, PR, block_at, block_decls, formal_names}
use Rattle.language.specs.Check.{accepted, check}
use Rattle.language.specs.Table.{Table}
use Rattle.language.specs.Copy.{without}
use Rattle.language.specs.Groups.{relisted}
use Rattle.language.specs.Machine.{Activation, State, Limits, Done, did, stop, cost, counted, enter, step, Outcome, ends, run, start, Instance, instance, instance_from}
use Rattle.language.specs.Sheet.{LookedUp, seek, designator, decl_word, activation_words, words_of, sheet_words, looked_up, looked_up_designator, looked_up_links}
use Rattle.language.specs.Call.{Engine, Fed, limits_of, links_of, written, replied, run_of}
use Rattle.language.specs.declared.Stop.{Stop}
use Rattle.laws.specs.Machines.{only_one, InStep, runs-alike}
use Rattle.laws.specs.Lists.{by-elements, some-last, last_none, last-split, get_elem-seam, map-alike}
use Rattle.laws.specs.Renaming.{block_at-renamed, rename-nothing}
use Rattle.laws.specs.Rising.{Rising}
use Rattle.grammar.specs.Rules.{Bytes, Keeps}
use Rattle.grammar.proofs.Exact.{accepts-exactly}
use Rattle.runs.specs.Running.{copied, run-runs}
use Rattle.instances.proofs.Invariant.{Invariant}
use Rattle.instances.proofs.Accepted.{rules-closed}
use Rattle.instances.proofs.Steps.{started, step_keeps, counted-invariant}
use Rattle.frames.specs.Frame.{Frame, Stack, acted, halted, with_frames, frame_cost, stepped, numbered, designates, links_followed, seek_name, seek_from, frame_step, Result, results, frame_run, frame_start, frame_words, frame_sheet, frame_replied, frame_run_of}
use Rattle.frames.specs.Both.{Both}
use Rattle.frames.specs.Related.{reads_at, reads_in, joined, designator_for, designator_at, word_in, Twin, Related, as-deep}
use Rattle.frames.proofs.Push.{related-push}
use Rattle.frames.proofs.Find.{found_designator, passed_in, designates-found, links-found}
use Rattle.frames.proofs.Actions.{Alike, value-is}
use Rattle.frames.specs.Running as framing
use Rattle.frames.specs.Running.{framed}
use Rattle.frames.proofs.Steps.{step-alike, offset-alike}
use Rattle.frames.specs.Fine.{fine-program}

-- Two runs that come to the same.
pub record Same (o : Outcome) (q : Result) : Type 0 where
  pub end_is : o.end ≡ q.end
  pub offset-is : o.offset ≡ q.offset
  pub finals : Related o.final q.final

-- A step of both machines

pub costs-alike : (s s' : State) (t t' : Stack) → Related s t → Related s' t' → frame_cost t t' ≡ cost s s'
unfolding frame_cost cost
costs-alike s s' t t' r r' = refl

pub counted-related : (s s' : State) (t t' : Stack) → Related s t → Related s' t' → Related (counted s s') (stepped t t')
unfolding counted stepped
counted-related s s' t t' r r' =
    record { twins = r'.twins; rising = r'.rising; table_is = r'.table_is; steps-are = omega (arith, r'.steps-are, costs-alike s s' t t' r r') }

-- the copy-rule machine makes a step too, at the same cost, and the states after it are related
abbrev pub CopiesStep : Limits → State → Stack → Stack → Type 0
CopiesStep l s t t' =
    (s' : State) × (step l s ≡ did s') × Related (counted s s') (stepped t t') × Invariant (counted s s') × (frame_cost t t' ≡ cost s s')

innermost : (s : State) (t : Stack) → Related s t → 1 ≤ length t.frames → (a : Activation) × (last? s.live ≡ some a)
innermost s t r h = some-last s.live (omega (arith, as-deep s t r))

module _ (l : Limits) (s : State) (t : Stack) (r : Related s t) (inv : Invariant s) (a : Activation) (last : last? s.live ≡ some a) where
  pub copies-step : (t' : Stack) → frame_step l t ≡ acted t' → CopiesStep l s t t'
  unfolding Alike
  copies-step t' e = go (step l s) refl (subst (Alike (step l s)) e (step-alike l s t r inv a last))
    where
      go : (d : Done) → step l s ≡ d → Alike d (acted t') → CopiesStep l s t t'
      go (did s') q h = (s', q, counted-related s s' t t' r h, counted-invariant s s' (step_keeps l s s' inv q), costs-alike s s' t t' r h)
      go (stop c) q h = absurd h

  copies-stop : (c : Stop) → frame_step l t ≡ halted c → step l s ≡ stop c
  unfolding Alike
  copies-stop c e = go (step l s) (subst (Alike (step l s)) e (step-alike l s t r inv a last))
    where
      go : (d : Done) → Alike d (halted c) → d ≡ stop c
      go (did s') h = absurd h
      go (stop c') h = ap stop h

-- Whole runs, at every allowance.

abbrev Alongside : Stack → State → Type 0
Alongside t s = Related s t × Invariant s

in_step : (l : Limits) → InStep (framed l) (copied l) Alongside (λ q o. Same o q)
unfolding ends results
in_step l =
    record {
      depth = λ t s a. sym (as-deep s t a.0);
      ended = λ e o t s a. record { end_is = refl; offset-is = refl; finals = a.0 };
      offset = λ t s h a. let b = innermost s t a.0 h in sym (offset-alike l s t a.0 a.1 b.0 b.1);
      stop = λ t s c h a e. let b = innermost s t a.0 h in copies-stop l s t a.0 a.1 b.0 b.1 c e;
      go = λ t s t' h a e.
          let b = innermost s t a.0 h in
          let c = copies-step l s t a.0 a.1 b.0 b.1 t' e in
          (c.0, c.1, c.4, (c.2, c.3));
    }

pub runs_same : (l : Limits) (n : ℕ) (s : State) (t : Stack) → Related s t → Invariant s → Same (run l n s) (frame_run l n t)
runs_same l n s t r inv =
    let a = runs-alike (framed l) (copied l) Alongside (λ q o. Same o q) (in_step l) (framing.run-runs l n t) s (r, inv) in
    subst (λ (o : Outcome). Same o (frame_run l n t)) (only_one (copied l) a.1 (run-runs l n s)) a.2

-- The two machines start related.
nothing : Table → State
nothing u = record { live = []; values = []; fresh = 65536; table = u; steps = 0 }

no_frames : Table → Stack
no_frames u = record { frames = []; table = u; steps = 0 }

pub start-related : (p : Block) → Keeps p → (u : Table) → Related (start p u) (frame_start p u)
unfolding start frame_start nothing no_frames with_frames formal_names reads_at reads_in joined without Both Rising numbered
start-related p k u =
    let r : Related (nothing u) (no_frames u) = record { twins = tt; rising = omega arith; table_is = refl; steps-are = refl } in
    subst (λ (b : Block). Related (enter (nothing u) [] [] b 0 []) (frame_start p u)) (rename-nothing p)
    (related-push (nothing u) (no_frames u) r [] p (fine-program p k) [] refl tt 0 (omega arith))

-- The sheets are one.

designator-is : (s : State) (x : ℕ) → designator s x ≡ designator_at s.live x
unfolding designator designator_at designator_for instance
designator-is s x = go (instance_from x 1 s.live) refl
  where
    go : (o : Option Instance) → instance_from x 1 s.live ≡ o → designator s x ≡ designator_for o
    go none e = rw (e, designator)
    go (some i) e = rw (e, designator)

decl_word-is : (s : State) (d : Decl) → decl_word s d ≡ word_in s.values d
unfolding decl_word word_in
decl_word-is s (VR at n) = value-is s n
decl_word-is s (LB at n i) = refl
decl_word-is s (PR at n fs b) = refl

words_same : (s : State) (k : ℕ) (a : Activation) (f : Frame) → Twin s.live s.values k a f → activation_words s a ≡ frame_words f
unfolding activation_words frame_words
words_same s k a f w =
    λ i. pos ((ap block_at w.text-is ∙ block_at-renamed f.text (joined a.reads)) i) ∷ pos (w.next-is i) ∷ pos (w.encloser-is i) ∷ (ap₂ ◌++◌ (map-alike (λ (x : ℕ). pos (designator s x)) (λ (x : ℕ). pos (designator_at s.live x)) a.arguments (λ j x e. ap pos (designator-is s x))) (map-alike (decl_word s) (word_in s.values) (block_decls a.text) (λ j d e. decl_word-is s d)) ∙ sym w.words_are) i

sheets-same : (s : State) (k : ℕ) (l : List Activation) (fs : List Frame) → Both (Twin s.live s.values) k l fs → words_of s l ≡ frame_sheet fs
unfolding Both words_of frame_sheet
sheets-same s k [] [] h = refl
sheets-same s k [] (f ∷ fs) h = absurd h
sheets-same s k (a ∷ l) [] h = absurd h
sheets-same s k (a ∷ l) (f ∷ fs) h = ap₂ ◌++◌ (words_same s k a f h.0) (sheets-same s (suc k) l fs h.1)

sheet-same : (s : State) (t : Stack) → Related s t → sheet_words s ≡ frame_sheet t.frames
unfolding sheet_words
sheet-same s t r = sheets-same s 0 s.live t.frames r.twins

-- The looked-up name is one.
module _ (s : State) (t : Stack) (r : Related s t) (n : ℕ) where
  none-looked : s.live ≡ [] → t.frames ≡ []
  none-looked e = by-elements t.frames (λ q. q) (λ h. absurd (omega (arith, ap length e, as-deep s t r)))

  found-designator : (o : Option LookedUp) → looked_up s n ≡ o → looked_up_designator s n ≡ found_designator s.live o
  unfolding looked_up_designator found_designator
  found-designator none e = rw (e, looked_up_designator)
  found-designator (some d) e = rw (e, looked_up_designator) (designator-is s d.name)

  found-links : (o : Option LookedUp) → looked_up s n ≡ o → looked_up_links s n ≡ passed_in o
  unfolding looked_up_links passed_in
  found-links none e = rw (e, looked_up_links)
  found-links (some d) e = rw (e, looked_up_links)

  looked_up-is : (a : Activation) → last? s.live ≡ some a → looked_up s n ≡ seek n 0 a.reads
  unfolding looked_up
  looked_up-is a e = rw (e, looked_up)

  looked_up-none : last? s.live ≡ none → looked_up s n ≡ none
  unfolding looked_up
  looked_up-none e = rw (e, looked_up)

  looked : (o : Option Activation) → last? s.live ≡ o → (looked_up_designator s n ≡ designates t.frames n) × (looked_up_links s n ≡ links_followed t.frames n)
  unfolding designates links_followed seek_name seek_from found_designator passed_in
  looked none e =
      let q = none-looked (last_none s.live e) in
      (found-designator none (looked_up-none e) ∙ sym (ap (λ (fs : List Frame). designates fs n) q), found-links none (looked_up-none e) ∙ sym (ap (λ (fs : List Frame). links_followed fs n) q))
  looked (some a) e =
      let k = length (but_last s.live) in
      let split = last-split s.live a e in
      let deep : length s.live ≡ suc k = ap length split ∙ (length-append (but_last s.live) (a ∷ []) ∙ omega arith) in
      let here : get_elem? s.live k ≡ some a = ap (λ (m : List Activation). get_elem? m k) split ∙ get_elem-seam (but_last s.live) a [] in
      (found-designator (seek n 0 a.reads) (looked_up-is a e) ∙ sym (designates-found s t r k a deep here n), found-links (seek n 0 a.reads) (looked_up-is a e) ∙ sym (links-found s t r k a deep here n))

-- The replies are one.

replied-same : (e : Engine) (f : Fed) (o : Outcome) (q : Result) → Same o q → frame_replied e f q ≡ replied e f o
unfolding frame_replied replied
replied-same e f o q h =
    let s = o.final in
    let t = q.final in
    let r = h.finals in
    let ws : frame_sheet t.frames ≡ sheet_words s = sym (sheet-same s t r) in
    let n : t.steps ≡ s.steps = sym r.steps-are in
    let u : t.table ≡ s.table = sym r.table_is in
    let d : designates t.frames f.name ≡ looked_up_designator s f.name = sym (looked s t r f.name (last? s.live) refl).0 in
    let k : links_followed t.frames f.name ≡ looked_up_links s f.name = sym (looked s t r f.name (last? s.live) refl).1 in
    let x : q.end ≡ o.end = sym h.end_is in
    let y : q.offset ≡ o.offset = sym h.offset-is in
    λ i. record { answer = record { end = x i; steps = n i; offset = y i; pairs = (u i).used; sheet = length (ws i); tally = f.tally + n i; designator = d i; links = links_of e (k i) }; lent = record { sheet = written (ws i) f.lent.sheet; table = u i; groups = relisted (u i) f.lent.groups } }

pub runs-replied : (e : Engine) (f : Fed) → Bytes f.script → (t : Block) → check f.script ≡ accepted t → frame_replied e f (frame_run_of f t) ≡ replied e f (run_of f t)
unfolding run_of frame_run_of
runs-replied e f bytes t a =
    let k = ((accepts-exactly f.script bytes t).0 a).1 in
    let u = f.lent.table in
    replied-same e f (run_of f t) (frame_run_of f t)
    (runs_same (limits_of f) f.allowance (start t u) (frame_start t u) (start-related t k u) (started t u (rules-closed t k)))
