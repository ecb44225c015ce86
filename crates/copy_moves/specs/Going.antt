-- A step that enters nothing leaves the area and what is noted of new names as they are: `runs_on`, `goes_on`. The copy-rule machine makes the step with the
-- frame machine, and its activations are those of before, or some of them (`keeps`), or one more (`enters`).
use Rattle.std.specs.Prelude.{ℕ, suc, ◌≤◌, ◌<◌, List, ◌≡◌, ℤ, length, get_or}
use native.Mathlib.Omega.{arith}
use Rattle.std.proofs.Math.Option.{some}
use Rattle.std.proofs.Common.{sym, ◌∙◌, subst}
use Rattle.std.proofs.Math.Path.{ap}
use Rattle.language.specs.Basics.{last?}
use Rattle.language.specs.Text.{Block}
use Rattle.language.specs.Encoding.{block_fields}
use Rattle.language.specs.Machine.{Activation, State, counted}
use Rattle.laws.specs.Tests.{some_inj}
use Rattle.laws.specs.Lists.{some-last}
use Rattle.frames.specs.Frame.{Frame, Stack, stepped}
use Rattle.frames.specs.Related.{Related, as-deep}
use Rattle.instances.proofs.Invariant.{Invariant}
use Rattle.coordinates.specs.Chain.{Chained, SameOutlines}
use Rattle.resolved.specs.Resolved.{Covers}
use Rattle.copy_fields.specs.NameFields.{named_of}
use Rattle.steps.specs.Standing.{Standing}
use Rattle.steps.specs.Means.{Follows}
use Rattle.steps.specs.Here.{many, downward}
use Rattle.copy_machine.proofs.Moved.{Keeps, EntersAnew}
use Rattle.frames.proofs.Runs.{CopiesStep, copies-step}
use Rattle.copy_machine.proofs.Together.{copies_kept, copies-entered}
use Rattle.copy_names.specs.Owner.{NewNames}
use Rattle.copy_names.specs.Finding.{new-names-kept}
use Rattle.copy_texts.specs.Texts.{Texts, Looks}
use Rattle.copy_texts.specs.Stacks.{SameActivations}
use Rattle.copy_texts.specs.Entering.{texts-kept}
use Rattle.copy_texts.specs.Aiming.{aims-kept}
use Rattle.copy_texts.specs.Looking.{looks-kept}
use Rattle.run_state.specs.declared.Registers.{Registers}
use Rattle.run_state.specs.Limits.{limits_by, goes_to}
use Rattle.copy_moves.specs.Running.{Running, Succeeds}
use Rattle.copy_moves.specs.Settled.{same-outline, outlines}

module _ {code names : List ℕ} {activations limit : ℕ} {cells : List ℤ} {area : List ℕ} {width : ℕ} {blocks nexts links firsts starts targets looked : List ℕ} {table : List ℤ} {here : Registers}
    (w : Running code names activations limit cells area width blocks nexts links firsts starts targets looked table here)
    {cells' : List ℤ} {blocks' nexts' links' : List ℕ} {table' : List ℤ} {pairs' live' at' end' : ℕ}
    (st : Standing code (limits_by activations limit) cells' blocks' nexts' links' table' pairs' live' at' end')
    (follows : Follows w.standing st.stack st.program st.name) where
  abbrev fs : List Frame
  fs = w.standing.stack.frames

  abbrev gs : List Frame
  gs = st.stack.frames

  -- the machines' step

  pub live-is : length w.copies.live ≡ suc here.live
  live-is = as-deep w.copies w.standing.stack w.related ∙ many w.standing

  abbrev pub innermost : (a : Activation) × (last? w.copies.live ≡ some a)
  innermost = some-last w.copies.live (omega (arith, live-is))

  abbrev pub made : CopiesStep (limits_by activations limit) w.copies w.standing.stack follows.moved
  made = copies-step (limits_by activations limit) w.copies w.standing.stack w.related w.invariant innermost.0 innermost.1 follows.moved follows.steps

  -- the state of the copy-rule machine after the step
  abbrev pub after : State
  after = counted w.copies made.0

  pub related-after : Related after st.stack
  related-after = subst (Related after) (sym follows.is-stepped) made.2

  pub invariant-after : Invariant after
  invariant-after = made.3

  frames-are : gs ≡ follows.moved.frames
  unfolding stepped
  frames-are = ap (λ (v : Stack). v.frames) follows.is-stepped

  pub deep : length after.live ≡ suc live'
  deep = as-deep after st.stack related-after ∙ many st

  pub keeps : live' ≤ here.live → Keeps w.copies after
  keeps h =
      copies_kept (limits_by activations limit) w.copies w.standing.stack follows.moved w.related w.invariant innermost.0 innermost.1 made.0 made.1 made.2
      (omega (arith, many st, many w.standing, ap length frames-are))

  pub enters : here.live < live' → EntersAnew w.copies after innermost.0
  enters h =
      copies-entered (limits_by activations limit) w.copies w.standing.stack follows.moved w.related w.invariant innermost.0 innermost.1 made.0 made.1 made.2
      (omega (arith, many st, many w.standing, ap length frames-are))

  -- frames at the same number

  pub program-is : st.program ≡ w.standing.program
  program-is = follows.same-program

  pub chained : Chained w.standing.program gs
  chained = subst (λ (t : Block). Chained t gs) program-is st.sound.chained

  -- up to a number the arrays have the same blocks and links
  abbrev pub SameArrays : ℕ → Type 0
  SameArrays n = (k : ℕ) → k < n → (get_or blocks' k 0 ≡ get_or blocks k 0) × (get_or links' k 0 ≡ get_or links k 0)

  pub same-outlines : (n : ℕ) → n ≤ suc here.live → n ≤ suc live' → SameArrays n → SameOutlines n fs gs
  same-outlines n p q same =
      outlines n fs gs (omega (arith, many w.standing)) (omega (arith, many st)) λ k f g h e e'.
      let a = w.standing.holds k f e in
      let b = st.holds k g e' in
      let s = same k h in
      same-outline w.standing.program w.standing.keeps fs gs w.standing.sound.chained chained k f g e e'
      (sym a.block-is ∙ sym s.0 ∙ b.block-is) (sym a.link-is ∙ sym s.1 ∙ b.link-is)

  -- a step that enters nothing
  module _ (fewer : live' ≤ here.live) (same : SameArrays (suc live')) where
    abbrev k : Keeps w.copies after
    k = keeps fewer

    alike : SameOutlines (suc live') fs gs
    alike = same-outlines (suc live') (omega arith) (omega arith) same

    alike-activations : SameActivations (length after.live) w.copies.live after.live
    alike-activations j b c h p q =
        let o = k.kept j c q in
        let z : o.0 ≡ b = some_inj (sym o.1 ∙ p) in
        (sym (ap (λ (x : Activation). x.text) z) ∙ o.2.0, sym (ap (λ (x : Activation). x.arguments) z) ∙ o.2.1, sym (ap (λ (x : Activation). x.reads) z) ∙ o.2.2)

    fewer-live : length after.live ≤ length w.copies.live
    fewer-live = omega (arith, deep, live-is)

    outlines-live : SameOutlines (length after.live) fs gs
    outlines-live = subst (λ n. SameOutlines n fs gs) (sym deep) alike

    pub runs_on : Running code names activations limit cells' area width blocks' nexts' links' firsts starts targets looked table' (goes_to here live' at' end' pairs')
    runs_on =
        record {
          standing = st;
          copies = after;
          related = related-after;
          invariant = invariant-after;
          names_stand = subst (λ (t : Block). Covers names 0 (named_of t)) (sym program-is) w.names_stand;
          texts = subst (λ (t : Block). Texts area width names (block_fields t) after.live gs) (sym program-is) (texts-kept w.texts after.live gs fewer-live alike-activations outlines-live);
          new-names = subst (λ n. NewNames after.live n firsts starts) (sym k.fresh-is) (new-names-kept firsts starts w.copies.live after.live w.copies.fresh (λ j c q. let o = k.kept j c q in (o.0, o.1, o.2.0, o.2.1, o.2.2)) w.new-names);
          aims = aims-kept targets fs gs w.aims (subst (λ n. SameOutlines n fs gs) (sym (many st)) alike);
          looks = subst (Looks looked after.live gs) (sym follows.same_name) (looks-kept looked w.copies.live after.live fs gs w.standing.name w.looks (downward w.standing) fewer-live alike-activations outlines-live);
          name-small = subst (λ n. n < 65536) (sym follows.same_name) w.name-small;
          fresh-is = w.fresh-is ∙ sym k.fresh-is;
          wide = subst (λ (t : Block). length (block_fields t) ≤ width) (sym program-is) w.wide;
          small = w.small;
          room = w.room;
          firsts-long = w.firsts-long;
          starts-long = w.starts-long;
          targets-long = w.targets-long;
          looked-long = w.looked-long;
        }

    pub goes_on : Succeeds w cells' area blocks' nexts' links' firsts starts targets looked table' (goes_to here live' at' end' pairs')
    unfolding runs_on
    goes_on = record { running = runs_on; follows = follows; few-more = omega arith }
