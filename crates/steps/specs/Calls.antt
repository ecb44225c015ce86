-- CL: what the arrays come to is what the frame machine does. `call-means`: by a name that is no formal, where the script check has seen to the
-- arguments; `call-formal-means`: by a formal, where number and kinds are compared first (26 before 22). `body-bounds`: where the body stands.
use Prim.Native.Nat.{ℕ, suc, pred, ◌+◌, ◌-◌, ◌*◌, ◌/◌, ◌%◌, ◌≤◌, ◌<◌}
use native.Mathlib.Omega.{arith}
use Rattle.std.specs.Prelude.{Bool, true, false, ◌&&◌, List, [], ◌∷◌, ◌++◌, map, ◌≡◌, leb, ℤ, pos, set}
use Rattle.std.proofs.Math.Option
use Rattle.std.proofs.Math.Option.{Option, some}
use Rattle.std.proofs.Math.Path.{refl, sym, ap, subst, fun_ext}
use Rattle.std.proofs.Common.{◌∙◌}
use borrow.Author.Tests.{leb-false, eqb-true, eqb-false}
use Rattle.std.proofs.Math.Dec.{eqb}
use Rattle.std.proofs.Math.ListN.{length, get_or, get_elem?}
use Rattle.std.proofs.lemmas.List.{length-map}
use Rattle.language.specs.Text.{Kind, procedure, Formal, Block, Decl, VR, LB, PR, CL, DO, block_at, block_decls, decl_kind, decl_formals, decl_body, formal_kinds}
use Rattle.language.specs.Encoding.{action_fields, stmt_fields}
use Rattle.language.specs.Scope.{agree}
use Rattle.language.specs.Machine.{Limits}
use Rattle.language.specs.declared.Stop.TheVariants.{NoActivationLeft, ArgumentsDiffer}
use Rattle.laws.specs.Tests.{split}
use Rattle.laws.specs.Lists.{get_d-elem, get_elem-bound, get_elem?-map, image-at}
use Rattle.laws.specs.Kinds.{agree-many}
use Rattle.laws.specs.Each.{Each, each_at}
use Rattle.grammar.specs.Rules.{FormedAction, ScopedAction}
use Rattle.frames.specs.Frame.{Frame, acted, numbered, designates, frame_number, place, decl_of, kind_of, map_action, new_frame, with_frames, frame_stmt}
use Rattle.frames.specs.Numbered.{numbered-low, numbered-high}
use Rattle.frame_laws.specs.Actions.{calls, calls-full, calls-differing}
use Rattle.frame_laws.specs.Continuing.{decl_of-advanced, kind_of-advanced, step-acts}
use Rattle.coordinates.specs.Enclosure.{enclosed, Enclosure, as-body, Encloses}
use Rattle.coordinates.specs.Chain.{enclosing, enclosure_of}
use Rattle.coordinates.proofs.Search.{enclosure-step}
use Rattle.coordinates.proofs.Levels.{enclosure-of-text, frame-encloses}
use Rattle.coordinates.proofs.Moves.{declared-in}
use Rattle.coordinates.proofs.Designated.{Designated}
use Rattle.coordinates.proofs.Called.{declared-agrees}
use Rattle.coordinates.proofs.Visible.{action_names}
use Rattle.coordinates.proofs.Next.{Resolved, NextAction, next-action}
use Rattle.resolved.specs.Resolved.{place_of, end_place, stmt_place, decl_target, direct, name_word, resolved_formals, resolved_action, resolved_stmt, Covers}
use Rattle.resolved.proofs.Lengths.{covers_at}
use Rattle.resolved.proofs.Words.{head-formals}
use Rattle.resolved.proofs.Standing.{head-stands, formals-covered, formals-before}
use Rattle.resolved.proofs.Places.{block-fields, end-bound}
use Rattle.resolved.specs.Layout.{formals_in}
use Rattle.arrays.specs.Holds.{formal_word}
use Rattle.arrays.proofs.Cells as celled
use Rattle.run_moves.specs.declared.Move.TheVariants.{Enter, Stop}
use Rattle.run_moves.specs.Effects.{same_kinds}
use Rattle.run_moves.specs.Acting.{Finding, Scene, field, moves, rewrites, set_all, no_room, arguments_from, do_call, arguments_agree, do_call_formal}
use Rattle.steps.specs.Standing.{Standing, Finds}
use Rattle.steps.specs.Means.{EntersAt, Means}
use Rattle.steps.specs.Here.{many, numbered-here, live-few, last-is, downward, covered, goes-on-at}
use Rattle.steps.specs.Going.{scene_of, ahead, ahead_stack, home_found, target_found}
use Rattle.steps.specs.Entries.{room-none, room-left}
use Rattle.steps.specs.Arguments.{written-length, written_below, written_at, handed-length, handed-at, kinds-agree, kinds-stand, declared-takes}

-- a procedure is declared by a PR
is-procedure : (d : Decl) → decl_kind d ≡ procedure → (at n : ℕ) × (gs : List Formal) × (b : Block) × (d ≡ PR at n gs b)
unfolding decl_kind
is-procedure (VR at n) e = let z : ◌≡◌ {A = ℕ} 0 1 = cc in absurd (omega arith)
is-procedure (LB at n i) e = let z : ◌≡◌ {A = ℕ} 0 1 = cc in absurd (omega arith)
is-procedure (PR at n gs b) e = (at, n, gs, b, refl)

module _ (F : Finding) (s : Scene) where
  call-full : leb s.activations (s.live + 1) ≡ true → do_call F s ≡ moves s (Stop NoActivationLeft)
  unfolding do_call no_room
  call-full e = rw (do_call, e)

  call_enters : leb s.activations (s.live + 1) ≡ false
      → do_call F s ≡ rewrites s (Enter (F.target (field s 1)) (F.home (field s 1)) (s.at + 3 + field s 2)) (set_all s.cells (32 * s.live + 32) (arguments_from F s (s.at + 3) (field s 2)))
  unfolding do_call no_room
  call_enters e = rw (do_call, e)

  formal-agrees : arguments_agree F s (F.target (field s 1)) ≡ true → do_call_formal F s ≡ do_call F s
  unfolding do_call_formal
  formal-agrees e = rw (do_call_formal, e)

  formal-differs : arguments_agree F s (F.target (field s 1)) ≡ false → do_call_formal F s ≡ moves s (Stop ArgumentsDiffer)
  unfolding do_call_formal
  formal-differs e = rw (do_call_formal, e)

module _ {code : List ℕ} {l : Limits} {cells : List ℤ} {blocks nexts links : List ℕ} {table : List ℤ} {pairs live at end : ℕ} (w : Standing code l cells blocks nexts links table pairs live at end)
    (o p : ℕ) (xs : List ℕ) (q : frame_stmt w.frame ≡ some (DO o (CL p xs))) where
  abbrev fs : List Frame
  fs = w.stack.frames

  abbrev es : Enclosure
  es = enclosure_of fs (length fs)

  -- the procedure and the arguments, by their designators
  abbrev x : ℕ
  x = designates fs p

  abbrev ys : List ℕ
  ys = map (designates fs) xs

  next : NextAction w.program fs w.frame o (CL p xs)
  next = next-action l w.program w.keeps w.stack w.sound w.frame (last-is w) o (CL p xs) q

  called : Resolved fs p
  unfolding action_names
  called = next.names.0

  given : Each (Resolved fs) xs
  unfolding action_names
  given = next.names.1

  pub few : length xs ≤ 32
  unfolding FormedAction
  few = next.formed.few

  -- the words of the statement

  word-is : get_or code (at + 1) 0 ≡ name_word es p
  unfolding resolved_stmt resolved_action
  word-is = (covered w (DO o (CL p xs)) q).1.0

  pub count-is : get_or code (at + 2) 0 ≡ length xs
  unfolding resolved_stmt resolved_action
  count-is =
      let two : at + 2 ≡ at + 1 + 1 = omega arith in
      ap (λ i. get_or code i 0) two ∙ (covered w (DO o (CL p xs)) q).1.1.0

  arguments-covered : Covers code (at + 3) (map (name_word es) xs)
  unfolding resolved_stmt resolved_action
  arguments-covered =
      let three : at + 1 + 1 + 1 ≡ at + 3 = omega arith in
      subst (λ i. Covers code i (map (name_word es) xs)) three (covered w (DO o (CL p xs)) q).1.1.1

  pub argument_is : (i a : ℕ) → get_elem? xs i ≡ some a → get_or code (at + 3 + i) 0 ≡ name_word es a
  argument_is i a e =
      covers_at code (at + 3) (map (name_word es) xs) arguments-covered i (omega (arith, get_elem-bound xs i a e, length-map xs (name_word es)))
      ∙ get_d-elem (map (name_word es) xs) i (name_word es a) 0 (get_elem?-map (name_word es) xs i ∙ ap (Option.map (name_word es)) e)

  back : at + 3 + get_or code (at + 2) 0 ≡ stmt_place w.frame.text (suc w.frame.next)
  unfolding stmt_fields action_fields
  back =
      let e : at + 3 + get_or code (at + 2) 0 ≡ at + suc (suc (suc (length xs))) = omega (arith, count-is) in
      e ∙ sym (goes-on-at w (DO o (CL p xs)) q)

  -- the procedure

  procedure-is : Designated fs x procedure
  procedure-is = next.kinds

  found : (a n : ℕ) × (gs : List Formal) × (b : Block) × (procedure-is.decl ≡ PR a n gs b)
  found = is-procedure procedure-is.decl procedure-is.kind

  abbrev gs : List Formal
  gs = found.2

  abbrev body : Block
  body = found.3

  declared : decl_of fs x ≡ some (PR found.0 found.1 gs body)
  declared = procedure-is.declared ∙ ap some found.4

  home : (g : Frame) × (numbered fs (frame_number x) ≡ some g) × (get_elem? (block_decls g.text) (place x - length g.formals) ≡ some (PR found.0 found.1 gs body))
  home = declared-in fs x (PR found.0 found.1 gs body) declared

  number : frame_number x ≡ suc (pred (frame_number x))
  number = omega (arith, numbered-low fs (frame_number x) home.0 home.1)

  around : Encloses w.program (enclosing home.0 ∷ enclosure_of fs home.0.link)
  around = frame-encloses w.program fs w.sound.chained (frame_number x) home.0 home.1

  body-encloses : Encloses w.program (enclosed gs body ∷ enclosing home.0 ∷ enclosure_of fs home.0.link)
  unfolding enclosing
  body-encloses = (as-body (place x - length home.0.formals) found.0 found.1 home.2, around)

  -- whether the arguments are as the formals

  abbrev agreed : Bool
  agreed = agree (formal_kinds gs) (map (kind_of fs) ys)

  agreed-ahead : agree (formal_kinds gs) (map (kind_of (ahead w)) ys) ≡ agreed
  unfolding with_frames
  agreed-ahead = ap (λ (r : ℕ → Option Kind). agree (formal_kinds gs) (map r ys)) (fun_ext (kind_of-advanced w.stack w.below w.frame (suc w.frame.next) w.frames-are))

  declared-ahead : decl_of (ahead w) x ≡ some (PR found.0 found.1 gs body)
  unfolding with_frames
  declared-ahead = decl_of-advanced w.stack w.below w.frame (suc w.frame.next) w.frames-are x ∙ declared

  -- By a name that is no formal

  agreed-declared : direct (name_word es p) ≡ true → agreed ≡ true
  unfolding ScopedAction decl_formals
  agreed-declared d =
      let m = next.scoped.called in
      let takes = declared-takes w.program w.keeps fs w.sound.chained w.sound.wired (enclosure-of-text w.program fs w.sound.chained (length fs) w.frame (ap (numbered fs) (many w) ∙ numbered-here w)) p m.0 m.1 d found.0 found.1 gs body declared in
      declared-agrees l w.program w.keeps w.stack w.sound w.frame (last-is w) o p xs q m.0 (formal_kinds gs) m.1 takes (PR found.0 found.1 gs body) declared

  -- By a formal

  formals-are : formals_in (get_or code (place_of (block_at body)) 0) ≡ length gs
  formals-are =
      ap formals_in (head-stands code w.name w.program w.keeps w.covers (enclosed gs body) (enclosing home.0 ∷ enclosure_of fs home.0.link) body-encloses)
      ∙ head-formals w.program w.keeps (enclosed gs body) (enclosing home.0 ∷ enclosure_of fs home.0.link) body-encloses

  formals-stand : Covers code (place_of (block_at body) - 3 * length gs) (resolved_formals gs)
  unfolding enclosing
  formals-stand = formals-covered code w.name w.program w.keeps w.covers (enclosing home.0) (enclosure_of fs home.0.link) around (place x - length home.0.formals) found.0 found.1 gs body home.2

  compared : eqb (length gs) (length xs) && same_kinds code (at + 3) (place_of (block_at body) - 3 * length xs) (length xs) ≡ agreed
  compared =
      split (eqb (length gs) (length xs))
      (λ e. let n : length gs ≡ length xs = eqb-true (length gs) (length xs) e in
      (λ i. e i && same_kinds code (at + 3) (place_of (block_at body) - 3 * length xs) (length xs))
      ∙ kinds-agree code fs gs xs (at + 3) (place_of (block_at body) - 3 * length xs) n (subst (λ k. Covers code (place_of (block_at body) - 3 * k) (resolved_formals gs)) n formals-stand)
      (kinds-stand w.program w.keeps fs w.sound.chained w.sound.wired code blocks (set nexts live at) links cells w.holds (at + 3) xs arguments-covered given))
      (λ e. (λ i. e i && same_kinds code (at + 3) (place_of (block_at body) - 3 * length xs) (length xs))
      ∙ split agreed (λ a. absurd (eqb-false (length gs) (length xs) e (sym (agree-many (kind_of fs) gs ys a) ∙ length-map xs (designates fs)))) (λ a. sym a))

  module _ (F : Finding) (finds : Finds w.stack.frames F) where
    target_is : F.target (get_or code (at + 1) 0) ≡ place_of (block_at body)
    unfolding decl_target
    target_is = target_found w F finds p called 1 word-is ∙ celled.target_found fs x home.0 (PR found.0 found.1 gs body) home.1 declared

    -- the body stands in the script, after its formals
    pub body-bounds : (F.target (get_or code (at + 1) 0) < 4096) × (3 * (formals_in (get_or code (F.target (get_or code (at + 1) 0)) 0)) ≤ F.target (get_or code (at + 1) 0))
    unfolding enclosing end_place
    body-bounds =
        let heads : formals_in (get_or code (F.target (get_or code (at + 1) 0)) 0) ≡ length gs = ap (λ k. formals_in (get_or code k 0)) target_is ∙ formals-are in
        let last = end-bound w.program w.keeps (enclosed gs body) (enclosing home.0 ∷ enclosure_of fs home.0.link) body-encloses in
        let formals = formals-before code w.name w.program w.keeps w.covers (enclosing home.0) (enclosure_of fs home.0.link) around (place x - length home.0.formals) found.0 found.1 gs body home.2 in
        (omega (arith, target_is, block-fields body), omega (arith, target_is))

    -- entering the body

    abbrev handed_words : List ℤ
    handed_words = arguments_from F (scene_of w) (at + 3) (get_or code (at + 2) 0)

    handed-word : (i y : ℕ) → get_elem? ys i ≡ some y → get_or (set_all cells (32 * live + 32) handed_words) (32 * suc live + i) (pos 0) ≡ pos (formal_word fs y)
    handed-word i y e =
        let a = image-at (designates fs) xs i y e in
        let b : i < get_or code (at + 2) 0 = omega (arith, count-is, get_elem-bound xs i a.0 a.1) in
        let n : 32 * suc live + i ≡ 32 * live + 32 + i = omega arith in
        let room : 32 * live + 32 + length handed_words ≤ length cells = omega (arith, handed-length F (scene_of w) (at + 3) (get_or code (at + 2) 0), count-is, few, w.cells-long, live-few w) in
        ap (λ k. get_or (set_all cells (32 * live + 32) handed_words) k (pos 0)) n
        ∙ written_at cells (32 * live + 32) handed_words i _ room (handed-at F (scene_of w) (at + 3) (get_or code (at + 2) 0) i b)
        ∙ ap F.handed (argument_is i a.0 a.1) ∙ (finds a.0 (each_at (Resolved fs) xs i a.0 a.1 given)).handed-is
        ∙ ap (λ z. pos (formal_word fs z)) (sym a.2)

    entering : agreed ≡ true → leb l.activations (live + 1) ≡ false
        → EntersAt w (F.target (get_or code (at + 1) 0)) (pred (frame_number x)) (at + 3 + get_or code (at + 2) 0) (set_all cells (32 * live + 32) handed_words)
    unfolding with_frames map_action decl_formals decl_body
    entering a e =
        record {
          formals = gs;
          arguments = ys;
          text = body;
          room = omega (arith, leb-false l.activations (live + 1) e);
          link-high = omega (arith, numbered-high fs (frame_number x) home.0 home.1, many w);
          body_is = target_is;
          back_is = back;
          encloses = subst (λ k. Encloses w.program (enclosed gs body ∷ enclosure_of fs k)) number
              (subst (λ (os : Enclosure). Encloses w.program (enclosed gs body ∷ os)) (sym (enclosure-step fs (downward w) (frame_number x) home.0 home.1)) body-encloses);
          steps = step-acts l w.stack w.below w.frame o (CL p xs) w.frames-are q
              ∙ calls l (ahead_stack w) x ys (PR found.0 found.1 gs body) declared-ahead (agreed-ahead ∙ a) (room-left w e)
              ∙ ap (λ k. acted (with_frames w.stack (ahead w ++ (new_frame gs ys body k ∷ [])))) number;
          count = agree-many (kind_of fs) gs ys a;
          designate = λ i y c.
              let b = image-at (designates fs) xs i y c in
              let r = each_at (Resolved fs) xs i b.0 b.1 given in
              (r.meaning.kind, subst (λ z. Designated fs z r.meaning.kind) (sym b.2) r.instance);
          as_long = written-length cells (32 * live + 32) handed_words;
          kept = λ i h. written_below cells (32 * live + 32) handed_words i (omega arith);
          handed = handed-word;
        }

    agreeing-means : agreed ≡ true → Means w (do_call F (scene_of w))
    unfolding moves rewrites with_frames map_action decl_formals
    agreeing-means a =
        split (leb l.activations (live + 1))
        (λ e. subst (Means w) (sym (call-full F (scene_of w) e)) (
          step-acts l w.stack w.below w.frame o (CL p xs) w.frames-are q
              ∙ calls-full l (ahead_stack w) x ys (PR found.0 found.1 gs body) declared-ahead (agreed-ahead ∙ a) (room-none w e),
          refl,
        ))
        (λ e. subst (Means w) (sym (call_enters F (scene_of w) e))
        (subst (λ k. EntersAt w (F.target (get_or code (at + 1) 0)) k (at + 3 + get_or code (at + 2) 0) (set_all cells (32 * live + 32) handed_words)) (sym (home_found w F finds p called 1 word-is)) (entering a e)))

    pub call-means : direct (name_word es p) ≡ true → Means w (do_call F (scene_of w))
    call-means d = agreeing-means (agreed-declared d)

    agree-is : arguments_agree F (scene_of w) (F.target (get_or code (at + 1) 0)) ≡ agreed
    unfolding arguments_agree
    agree-is =
        let heads : formals_in (get_or code (F.target (get_or code (at + 1) 0)) 0) ≡ length gs = ap (λ k. formals_in (get_or code k 0)) target_is ∙ formals-are in
        (λ i. eqb (heads i) (count-is i) && same_kinds code (at + 3) (target_is i - 3 * count-is i) (count-is i)) ∙ compared

    pub call-formal-means : Means w (do_call_formal F (scene_of w))
    unfolding moves with_frames map_action decl_formals
    call-formal-means =
        split agreed (λ a. subst (Means w) (sym (formal-agrees F (scene_of w) (agree-is ∙ a))) (agreeing-means a))
        (λ a. subst (Means w) (sym (formal-differs F (scene_of w) (agree-is ∙ a))) (
          step-acts l w.stack w.below w.frame o (CL p xs) w.frames-are q
              ∙ calls-differing l (ahead_stack w) x ys (PR found.0 found.1 gs body) declared-ahead (agreed-ahead ∙ a),
          refl,
        ))
