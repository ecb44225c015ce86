-- Each statement, read from the innermost activation's copy: it does what the resolved script's statement does with names found by links, and its
-- fields are what its mark asks for (`Comes`). A law for each mark but CL's.
use Rattle.std.specs.Prelude.{ℕ, ◌+◌, ◌/◌, ◌%◌, ◌<◌, Bool, ◌&&◌, List, ◌≡◌, ℤ, pos, negsuc, length}
use native.Mathlib.Omega.{arith}
use Rattle.std.proofs.Math.Bool.{true, false}
use Rattle.std.proofs.Math.Option.{some}
use Rattle.std.proofs.Math.Path.{refl, ap, subst}
use Rattle.std.proofs.Common.{sym, ◌∙◌}
use Rattle.std.proofs.Math.ListN.{get_or, get_elem?}
use Rattle.std.specs.Int.Signed.{mag}
use Rattle.language.specs.Text.{Operation, plus, minus, less, GO, IF, KN, AR, AD, RM, QY, Block, block as make, Stmt, BK, DO}
use Rattle.language.specs.Encoding.{operation_field, unsigned, action_fields, stmt_fields, BK-mark, GO-mark, IF-mark, KN-mark, AR-mark, AD-mark, RM-mark, QY-mark}
use Rattle.language.specs.Machine.{Activation}
use Rattle.grammar.specs.Rules.{FormedAction}
use Rattle.frames.specs.Frame.{Frame, frame_stmt}
use Rattle.coordinates.specs.Enclosure.{Enclosing}
use Rattle.coordinates.proofs.Visible.{action_names}
use Rattle.coordinates.proofs.Next.{Resolved}
use Rattle.resolved.specs.Resolved.{direct, chosen, name_word, head_word, header, resolved_action, resolved_stmt}
use Rattle.run_moves.specs.declared.Ask.TheVariants.{Add, Remove}
use Rattle.run_moves.specs.Acting.{Finding, Scene, Happened, field, operations, operation_of, constant-op, block-op, op_of, acting, happens as acts, do_arithmetic as act_arithmetic}
use Rattle.steps.specs.Values.{operation-of}
use Rattle.resolved.specs.Layout.{operation_in}
use Rattle.resolve_fields.specs.Walk.{stmt_words}
use Rattle.copy_fields.specs.NameFields.{named_action, name_words}
use Rattle.copy_texts.specs.Texts.{reading}
use Rattle.copy_statements.specs.Doing.{Copy, text, Mark, arithmetic, branch, constant, goto, block, pair, unpair, query, mark_of, happens, doing}
use Rattle.copy_statements.specs.Ready.{Named, By}
use Rattle.run_state.specs.declared.Registers.{Registers}
use Rattle.copy_moves.specs.Running.{Running}
use Rattle.copy_run.specs.Agreeing.{Agrees, constant-same, arithmetic-same, goto-same, branch_same, block_same, change-same, query-same}
use Rattle.copy_run.specs.Words.{copy_of, scene_in, around, NamedHere, WrittenHere, plain, next_known, fields-there, resolved-word, word_read}
use Rattle.copy_run.specs.Names.{by_links, CellOfName, named}

module _ (c : Copy) (s : Scene) (F : Finding) where
  pub record Comes : Type 0 where
    pub same : doing c s ≡ acting F s
    pub by : By c s (mark_of (text c s 0))

  -- by its mark and by its operation
  pub comes : (k : Mark) → mark_of (text c s 0) ≡ k → happens c s k ≡ acting F s → By c s k → Comes
  unfolding doing
  comes k e h b = record { same = ap (happens c s) e ∙ h; by = subst (By c s) (sym e) b }

  pub acts-by : (v : ℕ) → field s 0 ≡ v → acts F s (op_of v) ≡ acting F s
  unfolding acting
  acts-by v e = ap (λ n. acts F s (op_of n)) (sym e)

  -- one operation or the other, by a test
  acts-either : (t : Bool) (a b : ℕ) (h : Happened) → field s 0 ≡ chosen t a b → h ≡ acts F s (op_of a) → h ≡ acts F s (op_of b) → h ≡ acting F s
  unfolding chosen
  acts-either true a b h e p q = p ∙ acts-by a e
  acts-either false a b h e p q = q ∙ acts-by b e

-- a constant's two words
unsigned_small : (z : ℤ) → mag z < 2147483648 → unsigned z < 4294967296
unfolding unsigned
unsigned_small (pos n) h = omega arith
unsigned_small (negsuc n) h = omega arith

module _ {code names : List ℕ} {activations limit : ℕ} {cells : List ℤ} {area : List ℕ} {width : ℕ} {blocks nexts links firsts starts targets looked : List ℕ} {table : List ℤ} {here : Registers}
    (w : Running code names activations limit cells area width blocks nexts links firsts starts targets looked table here)
    (a : Activation) (innermost : get_elem? w.copies.live here.live ≡ some a)
    (fields-named : NamedHere w) (written : WrittenHere w) (cell-of-name : CellOfName w a) where
  abbrev fs : List Frame
  fs = w.standing.stack.frames

  abbrev c : Copy
  c = copy_of w

  abbrev s : Scene
  s = scene_in w

  abbrev F : Finding
  F = by_links w

  -- a name in a field of the copy, with its word in one of the resolved script
  abbrev name : (n : ℕ) → Resolved fs n → n < 65536 → (i j : ℕ)
      → text c s i ≡ reading a.reads (name_word (around w) n) n → field s j ≡ name_word (around w) n → Agrees c s F i j × Named c s i
  name n r small i j e k = named w a innermost n r small cell-of-name i e j k

  -- the words of the copy and of the resolved script
  module _ (x : Stmt) (q : frame_stmt w.standing.frame ≡ some x) where
    read : (i : ℕ) → i < length (stmt_fields x) → i < length (stmt_words name_words x (around w))
        → text c s i ≡ reading a.reads (get_or (stmt_words name_words x (around w)) i 0) (get_or (stmt_fields x) i 0)
    read = word_read w x q a innermost fields-named written

    resolved : (i : ℕ) → i < length (resolved_stmt w.standing.name x (around w)) → field s i ≡ get_or (resolved_stmt w.standing.name x (around w)) i 0
    resolved = resolved-word w x q

  -- KN

  pub constant-comes : (o t : ℕ) (z : ℤ) → frame_stmt w.standing.frame ≡ some (DO o (KN t z)) → Comes c s F
  unfolding stmt_words named_action stmt_fields action_fields resolved_stmt resolved_action action_names FormedAction mark_of happens acts op_of operations
  constant-comes o t z q =
      let x = DO o (KN t z) in
      let n = next_known w o (KN t z) q in
      let low = plain w a 2 (unsigned z % 65536) (read x q 2 (omega arith) (omega arith)) in
      let high = plain w a 3 (unsigned z / 65536) (read x q 3 (omega arith) (omega arith)) in
      let bound = unsigned_small z n.formed.value in
      let f = name t n.names.0 n.formed.target 1 1 (read x q 1 (omega arith) (omega arith)) (resolved x q 1 (omega arith)) in
      let does = constant-same c s F f.0 (omega (arith, resolved x q 2 (omega arith))) in
      comes c s F constant (ap mark_of (plain w a 0 KN-mark (read x q 0 (omega arith) (omega arith))))
      (acts-either c s F (direct (name_word (around w) t)) 0 11 _ (resolved x q 0 (omega arith)) does does)
      (fields-there w x q 4 (omega arith), f.1, omega arith, omega arith)

  -- AR

  by-operation : (o : Operation) → act_arithmetic F s o ≡ acts F s (op_of (1 + operation_field o))
  unfolding acts op_of operations operation_field
  by-operation plus = refl
  by-operation minus = refl
  by-operation less = refl

  pub arithmetic-comes : (o t : ℕ) (p : Operation) (l r : ℕ) → frame_stmt w.standing.frame ≡ some (DO o (AR t p l r)) → Comes c s F
  unfolding stmt_words named_action stmt_fields action_fields resolved_stmt resolved_action action_names FormedAction mark_of happens acts op_of operations
  arithmetic-comes o t p l r q =
      let x = DO o (AR t p l r) in
      let n = next_known w o (AR t p l r) q in
      let es = around w in
      let f = name t n.names.0 n.formed.0 1 1 (read x q 1 (omega arith) (omega arith)) (resolved x q 1 (omega arith)) in
      let g = name l n.names.1.0 n.formed.1 3 3 (read x q 3 (omega arith) (omega arith)) (resolved x q 3 (omega arith)) in
      let h = name r n.names.1.1.0 n.formed.2 4 4 (read x q 4 (omega arith) (omega arith)) (resolved x q 4 (omega arith)) in
      let operation = ap operation_of (plain w a 2 (operation_field p) (read x q 2 (omega arith) (omega arith))) ∙ operation-of p in
      let there = ap operation_of (resolved x q 2 (omega arith)) ∙ operation-of p in
      let does = arithmetic-same c s F p operation f.0 g.0 h.0 in
      comes c s F arithmetic (ap mark_of (plain w a 0 AR-mark (read x q 0 (omega arith) (omega arith))))
      (acts-either c s F (direct (name_word es t) && direct (name_word es l) && direct (name_word es r)) (1 + operation_field p) 12 _ (resolved x q 0 (omega arith))
      (does ∙ by-operation p) (does ∙ ap (act_arithmetic F s) (sym there)))
      (fields-there w x q 5 (omega arith), f.1, g.1, h.1)

  -- IF and GO

  pub branch-comes : (o v l : ℕ) → frame_stmt w.standing.frame ≡ some (DO o (IF v l)) → Comes c s F
  unfolding stmt_words named_action stmt_fields action_fields resolved_stmt resolved_action action_names FormedAction mark_of happens acts op_of operations
  branch-comes o v l q =
      let x = DO o (IF v l) in
      let n = next_known w o (IF v l) q in
      let f = name v n.names.0 n.formed.0 1 2 (read x q 1 (omega arith) (omega arith)) (resolved x q 2 (omega arith)) in
      let g = name l n.names.1.0 n.formed.1 2 1 (read x q 2 (omega arith) (omega arith)) (resolved x q 1 (omega arith)) in
      let does = branch_same c s F f.0 g.0 in
      comes c s F branch (ap mark_of (plain w a 0 IF-mark (read x q 0 (omega arith) (omega arith))))
      (acts-either c s F (direct (name_word (around w) v) && direct (name_word (around w) l)) 4 13 _ (resolved x q 0 (omega arith)) does does)
      (fields-there w x q 3 (omega arith), f.1, g.1)

  pub goto-comes : (o l : ℕ) → frame_stmt w.standing.frame ≡ some (DO o (GO l)) → Comes c s F
  unfolding stmt_words named_action stmt_fields action_fields resolved_stmt resolved_action action_names FormedAction mark_of happens acts op_of operations
  goto-comes o l q =
      let x = DO o (GO l) in
      let n = next_known w o (GO l) q in
      let f = name l n.names.0 n.formed 1 1 (read x q 1 (omega arith) (omega arith)) (resolved x q 1 (omega arith)) in
      let does = goto-same c s F 1 f.0 in
      comes c s F goto (ap mark_of (plain w a 0 GO-mark (read x q 0 (omega arith) (omega arith))))
      (acts-either c s F (direct (name_word (around w) l)) 5 14 _ (resolved x q 0 (omega arith)) does does)
      (fields-there w x q 2 (omega arith), f.1)

  -- AD, RM and QY

  pub add-comes : (o g m : ℕ) → frame_stmt w.standing.frame ≡ some (DO o (AD g m)) → Comes c s F
  unfolding stmt_words named_action stmt_fields action_fields resolved_stmt resolved_action action_names FormedAction mark_of happens acts op_of operations
  add-comes o g m q =
      let x = DO o (AD g m) in
      let n = next_known w o (AD g m) q in
      let f = name g n.names.0 n.formed.0 1 1 (read x q 1 (omega arith) (omega arith)) (resolved x q 1 (omega arith)) in
      let h = name m n.names.1.0 n.formed.1 2 2 (read x q 2 (omega arith) (omega arith)) (resolved x q 2 (omega arith)) in
      comes c s F pair (ap mark_of (plain w a 0 AD-mark (read x q 0 (omega arith) (omega arith))))
      (change-same c s F Add f.0 h.0 ∙ acts-by c s F 8 (resolved x q 0 (omega arith)))
      (fields-there w x q 3 (omega arith), f.1, h.1)

  pub remove-comes : (o g m : ℕ) → frame_stmt w.standing.frame ≡ some (DO o (RM g m)) → Comes c s F
  unfolding stmt_words named_action stmt_fields action_fields resolved_stmt resolved_action action_names FormedAction mark_of happens acts op_of operations
  remove-comes o g m q =
      let x = DO o (RM g m) in
      let n = next_known w o (RM g m) q in
      let f = name g n.names.0 n.formed.0 1 1 (read x q 1 (omega arith) (omega arith)) (resolved x q 1 (omega arith)) in
      let h = name m n.names.1.0 n.formed.1 2 2 (read x q 2 (omega arith) (omega arith)) (resolved x q 2 (omega arith)) in
      comes c s F unpair (ap mark_of (plain w a 0 RM-mark (read x q 0 (omega arith) (omega arith))))
      (change-same c s F Remove f.0 h.0 ∙ acts-by c s F 9 (resolved x q 0 (omega arith)))
      (fields-there w x q 3 (omega arith), f.1, h.1)

  pub query-comes : (o t g m : ℕ) → frame_stmt w.standing.frame ≡ some (DO o (QY t g m)) → Comes c s F
  unfolding stmt_words named_action stmt_fields action_fields resolved_stmt resolved_action action_names FormedAction mark_of happens acts op_of operations
  query-comes o t g m q =
      let x = DO o (QY t g m) in
      let n = next_known w o (QY t g m) q in
      let f = name t n.names.0 n.formed.0 1 1 (read x q 1 (omega arith) (omega arith)) (resolved x q 1 (omega arith)) in
      let h = name g n.names.1.0 n.formed.1 2 2 (read x q 2 (omega arith) (omega arith)) (resolved x q 2 (omega arith)) in
      let k = name m n.names.1.1.0 n.formed.2 3 3 (read x q 3 (omega arith) (omega arith)) (resolved x q 3 (omega arith)) in
      comes c s F query (ap mark_of (plain w a 0 QY-mark (read x q 0 (omega arith) (omega arith))))
      (query-same c s F f.0 h.0 k.0 ∙ acts-by c s F 10 (resolved x q 0 (omega arith)))
      (fields-there w x q 4 (omega arith), f.1, h.1, k.1)

  -- BK

  block-op-is : (e : Enclosing) (level v : ℕ) → v ≡ head_word e level → op_of v ≡ block-op
  unfolding op_of operations head_word
  block-op-is e level v h =
      let m : operation_in v ≡ 6 = omega arith in
      ap (λ i. get_or operations i constant-op) m

  pub block-comes : (b : Block) → frame_stmt w.standing.frame ≡ some (BK b) → Comes c s F
  unfolding stmt_words stmt_fields resolved_stmt header mark_of happens acts acting
  block-comes (make at ds ss) q =
      let x = BK (make at ds ss) in
      comes c s F block (ap mark_of (plain w a 0 BK-mark (read x q 0 (omega arith) (omega arith))))
      (block_same c s F ∙ ap (acts F s) (sym (block-op-is _ _ _ (resolved x q 0 (omega arith)))))
      (fields-there w x q 2 (omega arith))
