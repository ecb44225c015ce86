-- CL, read from the innermost activation's copy: `call-comes`, by a name that is a formal as written and by one that is not.
use Prim.Native.Nat.{ℕ, suc, ◌+◌, ◌<◌}
use native.Mathlib.Omega.{arith}
use Rattle.std.specs.Prelude.{Bool, List, map, ◌≡◌, eqb, ℤ}
use Rattle.std.proofs.Math.Bool.{true, false}
use Rattle.std.proofs.Math.Option
use Rattle.std.proofs.Math.Option.{some}
use Rattle.std.proofs.Math.Path.{sym, ap, subst}
use Rattle.std.proofs.Common.{◌∙◌}
use Rattle.std.proofs.Math.ListN.{length, get_or, get_elem?, length-map}
use Rattle.language.specs.Text.{CL, DO}
use Rattle.language.specs.Encoding.{action_fields, stmt_fields, CL-mark}
use Rattle.language.specs.Machine.{Activation}
use Rattle.language.specs.Copy.{renamed}
use Rattle.laws.specs.Lists.{get_elem-in, get_elem-bound, get_d-elem, get_elem?-map}
use Rattle.frames.specs.Related.{joined}
use Rattle.laws.specs.Each.{each_at}
use Rattle.grammar.specs.Rules.{Name, FormedAction}
use Rattle.frames.specs.Frame.{Frame, frame_stmt}
use Rattle.coordinates.proofs.Visible.{action_names}
use Rattle.coordinates.proofs.Next.{Resolved}
use Rattle.resolved.specs.Resolved.{direct, chosen, name_word, resolved_action, resolved_stmt}
use Rattle.run_moves.specs.Acting.{Finding, Scene, field, operations, op_of, acting, happens as acts}
use Rattle.steps.specs.Finding.{finds-by-links}
use Rattle.steps.specs.Calls.{body-bounds}
use Rattle.resolved.specs.Layout.{operation_in}
use Rattle.run_statements.specs.Pieces.{FormalsBefore}
use Rattle.resolve_fields.specs.Walk.{stmt_words}
use Rattle.copy_fields.specs.NameFields.{named_action, name_words}
use Rattle.copy_texts.specs.Texts.{reading}
use Rattle.copy_statements.specs.Doing.{Copy, text, target, call, mark_of, happens, do_call}
use Rattle.copy_statements.specs.Ready.{Named}
use Rattle.run_state.specs.declared.Registers.{Registers}
use Rattle.copy_moves.specs.Running.{Running}
use Rattle.copy_run.specs.Agreeing.{Agrees, call_same, call-formal-same}
use Rattle.copy_run.specs.Words.{copy_of, scene_in, around, NamedHere, WrittenHere, plain, next_known, fields-there, resolved-word, word_read}
use Rattle.copy_run.specs.Names.{by_links, CellOfName, reads-name, named}
use Rattle.copy_run.specs.Statements.{Comes, comes, acts-by}

module _ {code names : List ℕ} {activations limit : ℕ} {cells : List ℤ} {area : List ℕ} {width : ℕ} {blocks nexts links firsts starts targets looked : List ℕ} {table : List ℤ} {here : Registers}
    (w : Running code names activations limit cells area width blocks nexts links firsts starts targets looked table here)
    (a : Activation) (innermost : get_elem? w.copies.live here.live ≡ some a)
    (fields-named : NamedHere w) (written : WrittenHere w) (cell-of-name : CellOfName w a)
    (o p : ℕ) (xs : List ℕ) (q : frame_stmt w.standing.frame ≡ some (DO o (CL p xs))) where
  abbrev fs : List Frame
  fs = w.standing.stack.frames

  abbrev c : Copy
  c = copy_of w

  abbrev s : Scene
  s = scene_in w

  abbrev F : Finding
  F = by_links w

  abbrev word_of : ℕ → ℕ
  word_of n = name_word (around w) n

  -- the words of the copy and of the resolved script
  read : (i : ℕ) → i < 3 + length xs → text c s i ≡ reading a.reads (get_or (stmt_words name_words (DO o (CL p xs)) (around w)) i 0) (get_or (stmt_fields (DO o (CL p xs))) i 0)
  unfolding stmt_words named_action stmt_fields action_fields
  read i h = word_read w (DO o (CL p xs)) q a innermost fields-named written i (omega arith) (omega (arith, length-map xs word_of))

  resolved : (i : ℕ) → i < 3 + length xs → field s i ≡ get_or (resolved_stmt w.standing.name (DO o (CL p xs)) (around w)) i 0
  unfolding resolved_stmt resolved_action
  resolved i h = resolved-word w (DO o (CL p xs)) q i (omega (arith, length-map xs word_of))

  procedure : Agrees c s F 1 1 × Named c s 1
  unfolding stmt_words named_action stmt_fields action_fields resolved_stmt resolved_action action_names FormedAction
  procedure =
      let n = next_known w o (CL p xs) q in
      named w a innermost p n.names.0 n.formed.called cell-of-name 1 (read 1 (omega arith)) 1 (resolved 1 (omega arith))

  many : text c s 2 ≡ length xs
  unfolding stmt_words named_action stmt_fields action_fields
  many = plain w a 2 (length xs) (read 2 (omega arith))

  count : text c s 2 ≡ field s 2
  unfolding resolved_stmt resolved_action
  count = many ∙ sym (resolved 2 (omega arith))

  -- what an argument's name reads as
  pub argument-reads : (i y : ℕ) → get_elem? xs i ≡ some y → text c s (3 + i) ≡ renamed (joined a.reads) y
  unfolding stmt_words named_action stmt_fields action_fields action_names
  argument-reads i y e =
      let n = next_known w o (CL p xs) q in
      let k = get_elem-bound xs i y e in
      let word : get_or (map word_of xs) i 0 ≡ word_of y = get_d-elem (map word_of xs) i (word_of y) 0 (get_elem?-map word_of xs i ∙ ap (Option.map word_of) e) in
      let own : get_or xs i 0 ≡ y = get_d-elem xs i y 0 e in
      let j = suc (suc (suc i)) in
      let third : j ≡ 3 + i = omega arith in
      subst (λ k. text c s k ≡ renamed (joined a.reads) y) third
      (read j (omega arith) ∙ (λ k. reading a.reads (word k) (own k)) ∙ reads-name w a innermost y (each_at (Resolved fs) xs i y e n.names.1))

  argument : (i : ℕ) → i < text c s 2 → Agrees c s F (3 + i) (3 + i) × Named c s (3 + i)
  unfolding stmt_words named_action stmt_fields action_fields resolved_stmt resolved_action action_names FormedAction
  argument i h =
      let n = next_known w o (CL p xs) q in
      let k : i < length xs = omega (arith, many) in
      let y = get_elem-in xs i k in
      let word : get_or (map word_of xs) i 0 ≡ word_of y.0 = get_d-elem (map word_of xs) i (word_of y.0) 0 (get_elem?-map word_of xs i ∙ ap (Option.map word_of) y.1) in
      let own : get_or xs i 0 ≡ y.0 = get_d-elem xs i y.0 0 y.1 in
      let j = suc (suc (suc i)) in
      let third : j ≡ 3 + i = omega arith in
      subst (λ k. Agrees c s F k k × Named c s k) third
      (named w a innermost y.0 (each_at (Resolved fs) xs i y.0 y.1 n.names.1) (each_at Name xs i y.0 y.1 n.formed.arguments) cell-of-name
      j (read j (omega arith) ∙ (λ k. reading a.reads (word k) (own k))) j (resolved j (omega arith) ∙ word))

  -- by the operation that stands there
  operation : (v : ℕ) → field s 0 ≡ v → eqb (operation_in (get_or code here.at 0)) 15 ≡ eqb (operation_in v) 15
  operation v e =
      let z : here.at ≡ here.at + 0 = omega arith in
      ap (λ i. eqb (operation_in (get_or code i 0)) 15) z ∙ ap (λ n. eqb (operation_in n) 15) e

  does : (t : Bool) → field s 0 ≡ chosen t 7 15 → do_call c s ≡ acting F s
  unfolding chosen acts op_of operations
  does true e = call_same c s F procedure.0 count (λ i h. (argument i h).0) (operation 7 e) ∙ acts-by c s F 7 e
  does false e = call-formal-same c s F procedure.0 count (λ i h. (argument i h).0) (operation 15 e) ∙ acts-by c s F 15 e

  -- the body stands after its formals
  body : FormalsBefore code (target c s 1)
  body =
      let b = body-bounds w.standing o p xs q F (finds-by-links w.standing) in
      subst (FormalsBefore code) (sym procedure.0.target_is) (record { there = b.0; before = b.1 })

  pub call-comes : Comes c s F
  unfolding stmt_words named_action stmt_fields action_fields resolved_stmt resolved_action FormedAction mark_of happens
  call-comes =
      let x = DO o (CL p xs) in
      let n = next_known w o (CL p xs) q in
      comes c s F call (ap mark_of (plain w a 0 CL-mark (read 0 (omega arith))))
      (does (direct (word_of p)) (resolved 0 (omega arith)))
      (record {
        few = omega (arith, many, n.formed.few);
        fields = fields-there w x q (3 + text c s 2) (omega (arith, many));
        procedure = procedure.1;
        arguments = λ i h. (argument i h).1;
        activations = w.standing.sound.few;
        body = λ e. body;
      })
