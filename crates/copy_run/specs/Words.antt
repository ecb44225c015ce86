-- The next statement's words in the innermost activation's copy, from the names that its fields hold (`fields-named`) and the script's own fields
-- (`written`): `word_read`, and `plain` where there is no name; its words in the resolved script: `resolved-word`. `reading-plain`, `reading-named`: what
-- a word with no name and a visible name read as. `fields-there`: the statement's fields stand in the area and in the script.
-- `innermost-activation`: the activation whose copy it is.
use Prim.Native.Nat.{ℕ, suc, pred, ◌+◌, ◌*◌, ◌≤◌, ◌<◌}
use Rattle.std.proofs.Common.{arith, mul-le-mul_right, ◌∙◌}
use Rattle.std.proofs.Math.Bool.{true, false}
use Rattle.std.specs.Prelude.{List, ◌≡◌, refl, ℤ, length, get_or}
use Rattle.std.proofs.Math.Option.{some}
use Rattle.std.proofs.Math.Path.{ap}
use borrow.Author.Tests.{lt-ltb, le-leb}
use Rattle.std.proofs.Math.Dec.{leb, ltb}
use Rattle.std.proofs.Math.ListN.{get_elem?}
use Rattle.language.specs.Text.{Action, Stmt, DO, block_at}
use Rattle.language.specs.Encoding.{block_fields, stmt_fields}
use Rattle.language.specs.Copy.{Replacement, renamed}
use Rattle.language.specs.Machine.{Activation}
use Rattle.laws.specs.Lists.{get_elem-in}
use Rattle.frames.specs.Frame.{frame_stmt}
use Rattle.frames.specs.Related.{joined, as-deep}
use Rattle.coordinates.specs.Enclosure.{Enclosure}
use Rattle.coordinates.specs.Chain.{enclosing, enclosure_of}
use Rattle.coordinates.proofs.Next.{NextAction, next-action}
use Rattle.resolved.specs.Resolved.{place_of, end_place, stmt_place, level_in, resolved_stmt, Covers}
use Rattle.resolved.proofs.Lengths.{covers_at}
use Rattle.resolved.proofs.Places.{Placed, enclosed-placed, block-place, end_is, place_is, place-within}
use Rattle.run_moves.specs.Acting.{Scene, field}
use Rattle.steps.specs.Here.{many, last-is, here as last-here, covered, at-is, here-bounded, encloses-here, within-activations, goes-on-at}
use Rattle.steps.specs.Reads.{fields_within}
use Rattle.steps.specs.Going.{scene_of}
use Rattle.resolve_fields.specs.Walk.{stmt_words}
use Rattle.copy_fields.specs.NameFields.{name_words}
use Rattle.copy_texts.specs.Texts.{reading}
use Rattle.copy_statements.specs.Doing.{Copy, text}
use Rattle.copy_statements.specs.Ready.{Fields}
use Rattle.run_state.specs.declared.Registers.{Registers}
use Rattle.copy_moves.specs.Running.{Running}

module _ (σs : List Replacement) (v n : ℕ) where
  pub reading-plain : level_in v ≡ 0 → reading σs v n ≡ n
  unfolding reading
  reading-plain e =
      let t : ltb 0 (level_in v) ≡ false = ap (ltb 0) e in
      rw (reading, t)

  pub reading-named : 1 ≤ level_in v → level_in v ≤ length σs → reading σs v n ≡ renamed (joined σs) n
  unfolding reading
  reading-named l h =
      let t : ltb 0 (level_in v) ≡ true = lt-ltb 0 (level_in v) l in
      let u : leb (level_in v) (length σs) ≡ true = le-leb (level_in v) (length σs) h in
      rw (reading, t, u)

module _ {code names : List ℕ} {activations limit : ℕ} {cells : List ℤ} {area : List ℕ} {width : ℕ} {blocks nexts links firsts starts targets looked : List ℕ} {table : List ℤ} {here : Registers}
    (w : Running code names activations limit cells area width blocks nexts links firsts starts targets looked table here) where
  -- what the next statement is read from, and what it finds
  abbrev pub copy_of : Copy
  copy_of = record { area = area; base = here.live * width; firsts = firsts; starts = starts; targets = targets }

  abbrev pub scene_in : Scene
  scene_in = scene_of w.standing

  abbrev pub around : Enclosure
  around = enclosure_of w.standing.stack.frames (length w.standing.stack.frames)

  -- the names' words and the script's fields, at the next statement
  abbrev pub NamedHere : Type 0
  NamedHere = (x : Stmt) → frame_stmt w.standing.frame ≡ some x → Covers names here.at (stmt_words name_words x around)

  abbrev pub WrittenHere : Type 0
  WrittenHere = (x : Stmt) → frame_stmt w.standing.frame ≡ some x → Covers (block_fields w.standing.program) here.at (stmt_fields x)

  pub innermost-activation : (a : Activation) × (get_elem? w.copies.live here.live ≡ some a)
  innermost-activation = get_elem-in w.copies.live here.live (omega (arith, as-deep w.copies w.standing.stack w.related, many w.standing))

  -- a field with no name
  pub plain : (a : Activation) (i m : ℕ) → text copy_of scene_in i ≡ reading a.reads 0 m → text copy_of scene_in i ≡ m
  plain a i m e = e ∙ reading-plain a.reads 0 m refl

  -- what is known of the next statement
  abbrev pub next_known : (o : ℕ) (b : Action) → frame_stmt w.standing.frame ≡ some (DO o b)
      → NextAction w.standing.program w.standing.stack.frames w.standing.frame o b
  next_known o b q =
      next-action _ w.standing.program w.standing.keeps w.standing.stack w.standing.sound w.standing.frame (last-is w.standing) o b q

  -- where the statement stands

  text-placed : Placed w.standing.program (enclosing w.standing.frame) (enclosure_of w.standing.stack.frames w.standing.frame.link)
  text-placed =
      enclosed-placed w.standing.program w.standing.keeps (enclosing w.standing.frame) (enclosure_of w.standing.stack.frames w.standing.frame.link)
      (encloses-here w.standing)

  begins : place_of (block_at w.standing.frame.text) ≤ here.at
  unfolding enclosing
  begins =
      let f = w.standing.frame in
      let next : suc (pred f.next) ≡ f.next = omega (arith, (here-bounded w.standing).next-first) in
      let stands = place_is f.text _ f.formals text-placed.place text-placed.formed (pred f.next) in
      omega (arith, at-is w.standing, ap (stmt_place f.text) next, block-place f.text _ f.formals text-placed.place text-placed.formed)

  pub end-within-script : end_place w.standing.frame.text ≤ length (block_fields w.standing.program)
  unfolding enclosing
  end-within-script =
      let f = w.standing.frame in
      omega (arith, end_is f.text _ f.formals text-placed.place text-placed.formed, text-placed.within)

  module _ (x : Stmt) (q : frame_stmt w.standing.frame ≡ some x) where
    pub ends : here.at + length (stmt_fields x) ≤ end_place w.standing.frame.text
    unfolding enclosing
    ends =
        let f = w.standing.frame in
        omega (arith, goes-on-at w.standing x q, place-within f.text _ f.formals text-placed.place text-placed.formed (suc f.next) (omega arith))

    pub resolved-word : (i : ℕ) → i < length (resolved_stmt w.standing.name x around) → field scene_in i ≡ get_or (resolved_stmt w.standing.name x around) i 0
    resolved-word = covers_at code here.at (resolved_stmt w.standing.name x around) (covered w.standing x q)

    pub fields-there : (n : ℕ) → n ≤ length (stmt_fields x) → Fields copy_of scene_in n
    fields-there n h =
        let rooms = mul-le-mul_right width (within-activations w.standing) in
        record { within = omega (arith, fields_within w.standing x q); there = omega (arith, ends, end-within-script, w.wide, w.room, rooms) }

    module _ (a : Activation) (innermost : get_elem? w.copies.live here.live ≡ some a) (fields-named : NamedHere) (written : WrittenHere) where
      pub word_read : (i : ℕ) → i < length (stmt_fields x) → i < length (stmt_words name_words x around)
          → text copy_of scene_in i ≡ reading a.reads (get_or (stmt_words name_words x around) i 0) (get_or (stmt_fields x) i 0)
      word_read i h k =
          let after : here.live * width + here.at + i ≡ here.live * width + (here.at + i) = omega arith in
          let name = covers_at names here.at (stmt_words name_words x around) (fields-named x q) i k in
          let own = covers_at (block_fields w.standing.program) here.at (stmt_fields x) (written x q) i h in
          ap (λ p. get_or area p 0) after
          ∙ w.texts.each here.live a w.standing.frame innermost (last-here w.standing) (here.at + i) (omega (arith, begins)) (omega (arith, ends))
          ∙ (λ j. reading a.reads (name j) (own j))
