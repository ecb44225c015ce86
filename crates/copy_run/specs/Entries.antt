-- A block is about to be entered (`EntersAt`): what the copy-rule machine's new activation is then. `anew`: it is entered above the others; `enters`: its
-- arguments stand in the area after the CL, its own names are the next new ones, and it reads all others as the activation from whose copy its
-- text is taken; `inside-here`, `declared-here`: the words of names in that text.
use Prim.Native.Nat.{ℕ, suc, ◌+◌, ◌*◌, ◌≤◌, ◌<◌}
use Rattle.std.proofs.Common.{arith, inl, inr, ◌∙◌, subst}
use mathlib.Core.List.{List, [], ◌∷◌, ◌++◌, map}
use Rattle.std.proofs.Math.Option
use Rattle.std.proofs.Math.Option.{Option, none, some}
use Rattle.std.specs.Prelude.{◌≡◌, refl, ℤ, get_or}
use Rattle.std.proofs.Math.Path.{sym, ap}
use Rattle.std.proofs.Math.ListN.{length, get_elem?, length-map}
use Rattle.language.specs.Basics.{up_from, last?}
use Rattle.language.specs.Text.{CL, GO, IF, KN, AR, AD, RM, QY, Block, Stmt, BK, DO, block_at, block_decls, decl_name, declared_names}
use Rattle.language.specs.Encoding.{block_fields, stmt_fields, action_fields}
use Rattle.language.specs.Copy.{Replacement, renamed, rename_action, rename_stmt}
use Rattle.language.specs.Machine.{Activation, State, Limits, counted}
use Rattle.laws.specs.Tests.{none≢some, some_inj}
use Rattle.laws.specs.Lists.{snoc-length, get_elem-seam, get_elem-in, get_d-elem, get_elem?-map}
use Rattle.laws.specs.Rising.{rising-within}
use Rattle.laws.specs.Distinct.{Distinct}
use Rattle.grammar.specs.Formed.{block-once, block-few}
use Rattle.frames.specs.Frame.{Frame, Stack, continue, with_frames, stepped, new_frame, numbered, frame_stmt}
use Rattle.frames.specs.Numbered.{numbered-suc, last-numbered}
use Rattle.frames.specs.Related.{reads_in, reads_at, joined, own_of, Twin, twin-at}
use Rattle.frames.proofs.Find.{as-many-decls}
use Rattle.frames.proofs.Steps.{next-renamed}
use Rattle.coordinates.specs.Enclosure.{Enclosing, enclosed, Enclosure, names_of}
use Rattle.coordinates.specs.Chain.{enclosure_of}
use Rattle.coordinates.proofs.Coordinates.{level-of-text}
use Rattle.resolved.specs.Resolved.{place_of}
use Rattle.resolved.proofs.Places.{enclosed-formed}
use Rattle.resolved.proofs.NameWords.{Narrow, narrow-of-text}
use Rattle.copy_fields.specs.Inside.{named-inside}
use Rattle.copy_fields.specs.Standing.{declared-fields-named}
use Rattle.steps.specs.Means.{EntersAt}
use Rattle.steps.specs.Here.{many, here as last-here, downward}
use Rattle.copy_machine.proofs.Moved.{Hands, EntersAnew}
use Rattle.frames.proofs.Runs.{CopiesStep, copies-step}
use Rattle.copy_machine.proofs.Together.{copies-entered}
use Rattle.copy_texts.specs.Renewing.{Inside, Declared, Enters}
use Rattle.run_state.specs.declared.Registers.{Registers}
use Rattle.run_state.specs.Limits.{limits_by}
use Rattle.copy_moves.specs.Running.{Running}
use Rattle.copy_run.specs.Depth.{reads-deep}
use Rattle.copy_run.specs.Words.{innermost-activation, ends, end-within-script}
use Rattle.copy_run.specs.Calling.{argument-reads}
use Rattle.copy_run.specs.Here.{named_here, written-here, cells-here, many-copies}

-- a call in a copy is a call in the text as written
called-written : (σ : Replacement) (x : Option Stmt) (o p : ℕ) (xs : List ℕ) → Option.map (λ (y : Stmt). rename_stmt y σ) x ≡ some (DO o (CL p xs))
    → (o' p' : ℕ) × (ys : List ℕ) × (x ≡ some (DO o' (CL p' ys))) × (xs ≡ map (renamed σ) ys)
unfolding rename_stmt rename_action
called-written σ none o p xs q = none≢some q
called-written σ (some (BK b)) o p xs q = let z : ◌≡◌ {A = ℕ} 0 1 = cc in absurd (omega arith)
called-written σ (some (DO o' (CL p' ys))) o p xs q = (o', p', ys, refl, cc)
called-written σ (some (DO o' (GO l))) o p xs q = let z : ◌≡◌ {A = ℕ} 0 1 = cc in absurd (omega arith)
called-written σ (some (DO o' (IF v l))) o p xs q = let z : ◌≡◌ {A = ℕ} 0 1 = cc in absurd (omega arith)
called-written σ (some (DO o' (KN t z₀))) o p xs q = let z : ◌≡◌ {A = ℕ} 0 1 = cc in absurd (omega arith)
called-written σ (some (DO o' (AR t u l r))) o p xs q = let z : ◌≡◌ {A = ℕ} 0 1 = cc in absurd (omega arith)
called-written σ (some (DO o' (AD g m))) o p xs q = let z : ◌≡◌ {A = ℕ} 0 1 = cc in absurd (omega arith)
called-written σ (some (DO o' (RM g m))) o p xs q = let z : ◌≡◌ {A = ℕ} 0 1 = cc in absurd (omega arith)
called-written σ (some (DO o' (QY t g m))) o p xs q = let z : ◌≡◌ {A = ℕ} 0 1 = cc in absurd (omega arith)

module _ {code names : List ℕ} {activations limit : ℕ} {cells : List ℤ} {area : List ℕ} {width : ℕ} {blocks nexts links firsts starts targets looked : List ℕ} {table : List ℤ} {here : Registers}
    (w : Running code names activations limit cells area width blocks nexts links firsts starts targets looked table here)
    (body link back : ℕ) (cells₁ : List ℤ) (j : EntersAt w.standing body link back cells₁) where
  abbrev pub l : Limits
  l = limits_by activations limit

  abbrev pub fs : List Frame
  fs = w.standing.stack.frames

  abbrev pub t : Block
  t = w.standing.program

  abbrev pub es : Enclosure
  es = enclosure_of fs (suc link)

  abbrev pub e : Enclosing
  e = enclosed j.formals j.text

  -- the innermost activation before

  abbrev pub a : Activation
  a = (innermost-activation w).0

  abbrev pub at-innermost : get_elem? w.copies.live here.live ≡ some a
  at-innermost = (innermost-activation w).1

  pub last : last? w.copies.live ≡ some a
  last = last-numbered w.copies.live ∙ ap (numbered w.copies.live) (many-copies w) ∙ numbered-suc w.copies.live here.live ∙ at-innermost

  -- the machines after the step

  abbrev pub f : Frame
  f = new_frame j.formals j.arguments j.text (suc link)

  abbrev ahead : List Frame
  ahead = w.standing.below ++ (continue w.standing.frame (suc w.standing.frame.next) ∷ [])

  abbrev pub v : Stack
  v = with_frames w.standing.stack (ahead ++ (f ∷ []))

  abbrev pub made : CopiesStep l w.copies w.standing.stack v
  made = copies-step l w.copies w.standing.stack w.related w.invariant a last v j.steps

  abbrev pub later : State
  later = counted w.copies made.0

  ahead-deep : length ahead ≡ suc here.live
  ahead-deep = snoc-length w.standing.below (continue w.standing.frame (suc w.standing.frame.next)) ∙ ap suc w.standing.depth

  frames-deep : length v.frames ≡ suc (suc here.live)
  unfolding with_frames
  frames-deep = snoc-length ahead f ∙ ap suc ahead-deep

  before-deep : length fs ≡ suc here.live
  before-deep = many w.standing

  pub anew : EntersAnew w.copies later a
  anew = copies-entered l w.copies w.standing.stack v w.related w.invariant a last made.0 made.1 made.2 (omega (arith, frames-deep, before-deep))

  abbrev pub new : Activation
  new = anew.new

  pub there : get_elem? later.live (suc here.live) ≡ some new
  there = ap (get_elem? later.live) (sym (many-copies w)) ∙ anew.there

  pub top_frame : get_elem? (stepped w.standing.stack v).frames (suc here.live) ≡ some f
  unfolding stepped with_frames
  top_frame = ap (get_elem? (ahead ++ (f ∷ []))) (sym ahead-deep) ∙ get_elem-seam ahead f []

  twin : Twin later.live later.values (suc here.live) new f
  twin =
      let p = twin-at later (stepped w.standing.stack v) made.2 (suc here.live) new there in
      subst (Twin later.live later.values (suc here.live) new) (some_inj (sym p.1 ∙ top_frame)) p.2

  -- the activation from whose copy the text is taken

  pub link-low : link < length w.copies.live
  link-low = omega (arith, j.link-high, many-copies w)

  abbrev pub source : Activation
  source = (get_elem-in w.copies.live link link-low).0

  abbrev pub source_is : get_elem? w.copies.live link ≡ some source
  source_is = (get_elem-in w.copies.live link link-low).1

  source-reads : reads_at later.live (suc link) ≡ source.reads
  unfolding reads_at reads_in numbered
  source-reads =
      let c = get_elem-in later.live link (omega (arith, link-low, anew.deep)) in
      let b = anew.kept link c.0 link-low c.1 in
      let z : b.0 ≡ source = some_inj (sym b.1 ∙ source_is) in
      ap reads_in c.1 ∙ sym b.2.2 ∙ ap (λ (x : Activation). x.reads) z

  pub around-deep : length source.reads ≡ length es
  around-deep = reads-deep w.copies w.standing.stack w.related (downward w.standing) link source source_is ∙ level-of-text fs (suc link)

  -- the arguments

  pub as_many : length new.arguments ≡ length j.formals
  unfolding new_frame
  as_many = twin.as_many

  innermost-twin : Twin w.copies.live w.copies.values here.live a w.standing.frame
  innermost-twin =
      let p = twin-at w.copies w.standing.stack w.related here.live a at-innermost in
      subst (Twin w.copies.live w.copies.values here.live a) (some_inj (sym p.1 ∙ last-here w.standing)) p.2

  -- the call, as written
  pub record Calls : Type 0 where
    pub offset : ℕ
    pub called : ℕ
    pub given : List ℕ
    pub next : frame_stmt w.standing.frame ≡ some (DO offset (CL called given))
    pub arguments-are : new.arguments ≡ map (renamed (joined a.reads)) given

  calls_by : Hands a new.arguments → 0 < length new.arguments → Calls
  calls_by (inl h) some_one =
      let c = called-written (joined a.reads) (frame_stmt w.standing.frame) h.0 h.1 h.2 (sym (next-renamed w.copies.live w.copies.values here.live a w.standing.frame innermost-twin) ∙ h.3) in
      record { offset = c.0; called = c.1; given = c.2; next = c.3; arguments-are = h.4 ∙ c.4 }
  calls_by (inr h) some_one = absurd (omega (arith, ap length h.2))

  pub calls : 0 < length new.arguments → Calls
  calls h = calls_by anew.arguments-are h

  -- they stand after the CL, within the text
  pub arguments-within : (i : ℕ) → i < length new.arguments → here.at + 3 + i < length (block_fields t)
  unfolding stmt_fields action_fields
  arguments-within i h =
      let c = calls (omega arith) in
      let n : length new.arguments ≡ length c.given = ap length c.arguments-are ∙ length-map c.given (renamed (joined a.reads)) in
      omega (arith, ends w (DO c.offset (CL c.called c.given)) c.next, end-within-script w)

  pub handed : (i : ℕ) → i < length new.arguments → get_or area (here.live * width + (here.at + 3) + i) 0 ≡ get_or new.arguments i 0
  handed i h =
      let c = calls (omega arith) in
      let n : length new.arguments ≡ length c.given = ap length c.arguments-are ∙ length-map c.given (renamed (joined a.reads)) in
      let y = get_elem-in c.given i (omega arith) in
      let own : get_elem? new.arguments i ≡ some (renamed (joined a.reads) y.0) =
      ap (λ (xs : List ℕ). get_elem? xs i) c.arguments-are ∙ get_elem?-map (renamed (joined a.reads)) c.given i ∙ ap (Option.map (renamed (joined a.reads))) y.1 in
      let place : here.live * width + (here.at + 3) + i ≡ here.live * width + here.at + (3 + i) = omega arith in
      ap (λ k. get_or area k 0) place
      ∙ argument-reads w a at-innermost (named_here w) (written-here w) (cells-here w a at-innermost) c.offset c.called c.given c.next i y.0 y.1
      ∙ sym (get_d-elem new.arguments i (renamed (joined a.reads) y.0) 0 own)

  -- its names

  pub declared-many : length (block_decls new.text) ≡ length (block_decls j.text)
  unfolding declared_names new_frame
  declared-many =
      sym (length-map (block_decls new.text) decl_name) ∙ sym (as-many-decls later.live later.values (suc here.live) new f twin) ∙ length-map (block_decls j.text) decl_name

  pub fresh-high : 65536 ≤ here.fresh
  fresh-high = omega (arith, w.fresh-is, rising-within 65536 w.copies.live w.copies.fresh w.related.rising)

  pub few-names : length j.formals + length (block_decls j.text) ≤ 32
  few-names = block-few (suc (length es)) j.formals (2 * place_of (block_at j.text)) j.text (enclosed-formed t w.standing.keeps e es j.encloses)

  pub enters : Enters area (here.live * width + (here.at + 3)) here.fresh e es source.reads new
  unfolding new_frame own_of
  enters =
      record {
        as_many = as_many;
        handed = handed;
        new-names = anew.names-are ∙ ap (λ n. up_from n (length (block_decls new.text))) (sym w.fresh-is) ∙ ap (up_from here.fresh) declared-many;
        above = omega (arith, few-names, fresh-high);
        reads-are = twin.reads-are ∙ ap (λ (σs : List Replacement). own_of f new ∷ σs) source-reads;
        around = around-deep;
      }

  -- the words of names in the text

  pub inside-here : Inside names (block_fields t) e es
  inside-here = named-inside names t w.standing.keeps w.names_stand e es j.encloses

  pub declared-here : Declared names e es
  declared-here = declared-fields-named names t w.standing.keeps w.names_stand e es j.encloses

  pub narrow-here : Narrow (e ∷ es)
  narrow-here = narrow-of-text t w.standing.keeps (e ∷ es) j.encloses

  pub once-here : Distinct (names_of e)
  unfolding names_of
  once-here = block-once (suc (length es)) j.formals (2 * place_of (block_at j.text)) j.text (enclosed-formed t w.standing.keeps e es j.encloses)
