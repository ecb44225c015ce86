-- Where the next statement enters a block, its arguments can be handed on, and nothing else becomes of the words (`enters-handing`).
use Rattle.std.specs.Prelude.{ℕ, zero, suc, ◌+◌, ◌-◌, ◌*◌, ◌≤◌, ◌<◌, true, List, ◌∷◌, ◌≡◌, refl, leb, ℤ, pos, get_or}
use native.Mathlib.Omega.{arith}
use Rattle.std.proofs.Math.Bool.{false≢true}
use Rattle.std.proofs.Math.Path.{sym, ap, subst}
use Rattle.std.proofs.Common.{◌∙◌, eq-eqb, ne_eqb}
use Rattle.language.specs.Basics.{eq_z}
use Rattle.language.specs.Text.{Operation, plus, minus, less}
use Rattle.laws.specs.Tests.{split}
use Rattle.run_moves.specs.Effects.{Effect as Done-or-not}
use Rattle.std.specs.Prelude.{Ok, Err}
use Rattle.run_moves.specs.declared.Ask.{Ask}
use Rattle.run_moves.specs.declared.Ask.TheVariants.{Add, Remove}
use Rattle.run_moves.specs.declared.Move.TheVariants.{On, Stop}
use Rattle.language.specs.declared.Stop.TheVariants.{NoActivationLeft, ArgumentsDiffer}
use Rattle.run_moves.specs.Acting.{Finding, Scene, scene_by, Happened, field, value_of, moves, rewrites, set_all, do_constant, arithmetic_move, do_arithmetic, do_goto}
use Rattle.run_moves.specs.Acting.{do_branch, no_room, arguments_from, do_call, arguments_agree, do_call_formal, do_change, do_query}
use Rattle.run_moves.specs.Acting.{Op, constant-op, add-op, subtract-op, compare-op, branch-op, goto-op, block-op, call-op, pair-op, unpair-op, query-op}
use Rattle.run_moves.specs.Acting.{constant-formal-op, arithmetic-formal-op, branch-formal-op, goto-formal-op, call-formal-op, op_of, happens, acting}
use Rattle.steps.specs.Standing.{Standing}
use Rattle.steps.specs.Fields as fields
use Rattle.resolved.specs.Layout.{operation_in}
use Rattle.run_statements.specs.Pieces.{only-cells, block_move}
use Rattle.run_statements.specs.Scenes.{block_same}
use Rattle.chain_records.specs.declared.Activation.{Activation}
use Rattle.run_state.specs.declared.Registers.{Registers}
use Rattle.chain_links.specs.Records.{blocks_in, nexts_in, links_in}
use Rattle.chain_links.specs.Finding.{by_chain, Handing, arguments_end, handed_on}
use Rattle.run_state.specs.Limits.{limits_by}
use Rattle.chain_links.specs.Running.{Running}
use Rattle.chain_step.specs.Moves.{is_entry}
use Rattle.chain_step.specs.Fields.{seen, reached}
use Rattle.chain_step.specs.Numbers.{number_of, number-of}

-- Where a call's arguments end

ends-block : (code : List ℕ) (at : ℕ) → operation_in (get_or code at 0) ≡ 6 → arguments_end code at ≡ 3
unfolding arguments_end
ends-block code at e = rw (arguments_end, eq-eqb (operation_in (get_or code at 0)) 6 e)

ends-call : (code : List ℕ) (at : ℕ) → (operation_in (get_or code at 0) ≡ 6 → ⊥) → arguments_end code at ≡ 3 + get_or code (at + 2) 0
unfolding arguments_end
ends-call code at d = rw (arguments_end, ne_eqb (operation_in (get_or code at 0)) 6 d)

arguments-alike : (F : Finding) (s t : Scene) → s.code ≡ t.code → (from n : ℕ) → arguments_from F s from n ≡ arguments_from F t from n
unfolding arguments_from
arguments-alike F s t e from zero = refl
arguments-alike F s t e from (suc n) =
    λ i. F.handed (get_or (e i) from 0) ∷ arguments-alike F s t e (from + 1) n i

-- Statements that enter nothing

module _ (F : Finding) (s : Scene) where
  abbrev Entry : Happened → Type 0
  Entry h = is_entry h.move ≡ true

  arithmetic-goes : (e : Done-or-not) → is_entry (arithmetic_move F s e) ≡ true → ⊥
  unfolding arithmetic_move is_entry
  arithmetic-goes (Ok u) z = false≢true z
  arithmetic-goes (Err c) z = false≢true z

  constant-goes : Entry (do_constant F s) → ⊥
  unfolding do_constant rewrites is_entry
  constant-goes z = false≢true z

  computing-goes : (o : Operation) → Entry (do_arithmetic F s o) → ⊥
  unfolding do_arithmetic rewrites
  computing-goes o z = arithmetic-goes _ z

  goto-goes : Entry (do_goto F s) → ⊥
  unfolding do_goto moves is_entry
  goto-goes z = false≢true z

  branch-goes : Entry (do_branch F s) → ⊥
  unfolding do_branch moves is_entry
  branch-goes z = split (eq_z (value_of F s (field s 2)) (pos 0))
      (λ e. let q : do_branch F s ≡ moves s (On (s.at + 3)) = rw (e, do_branch) in false≢true (subst Entry q z))
      (λ e. let q : do_branch F s ≡ do_goto F s = rw (e, do_branch) in goto-goes (subst Entry q z))

  change-goes : (a : Ask) → Entry (do_change F s a) → ⊥
  unfolding do_change moves is_entry
  change-goes a z = false≢true z

  query-goes : Entry (do_query F s) → ⊥
  unfolding do_query moves is_entry
  query-goes z = false≢true z

  -- a call that enters hands its arguments on
  abbrev handed : List ℤ
  handed = set_all s.cells (32 * s.live + 32) (arguments_from F s (s.at + 3) (field s 2))

  call-hands : Entry (do_call F s) → (do_call F s).cells ≡ handed
  unfolding do_call no_room moves rewrites is_entry
  call-hands z = split (leb s.activations (s.live + 1))
      (λ e. let q : do_call F s ≡ moves s (Stop NoActivationLeft) = rw (do_call, e) in absurd (false≢true (subst Entry q z)))
      (λ e. rw (do_call, e))

  formal-hands : Entry (do_call_formal F s) → (do_call_formal F s).cells ≡ handed
  unfolding do_call_formal moves is_entry
  formal-hands z = split (arguments_agree F s (F.target (field s 1)))
      (λ e. let q : do_call_formal F s ≡ do_call F s = rw (do_call_formal, e) in ap (λ (h : Happened). h.cells) q ∙ call-hands (subst Entry q z))
      (λ e. let q : do_call_formal F s ≡ moves s (Stop ArgumentsDiffer) = rw (do_call_formal, e) in absurd (false≢true (subst Entry q z)))

module _ {code : List ℕ} {activations limit : ℕ} {cells : List ℤ} {records : List Activation} {table : List ℤ} {here : Registers}
    (w : Running code activations limit cells records table here) where
  abbrev st : Standing code (limits_by activations limit) cells (blocks_in records) (nexts_in records) (links_in records) table here.pairs here.live
      here.at here.end
  st = w.standing

  abbrev way : Finding
  way = by_chain cells records here.live here.level

  abbrev scene : Scene
  scene = scene_by code cells activations here.live here.at

  -- The words

  handed-to : (n : ℕ) → arguments_end code here.at ≡ 3 + n
      → set_all cells (32 * here.live + 32) (arguments_from way scene (here.at + 3) n) ≡ handed_on code cells records here
  handed-to n e =
      let m : n ≡ arguments_end code here.at - 3 = omega (arith, e) in
      ap (set_all cells (32 * here.live + 32)) (arguments-alike way scene (only-cells code cells here.at) refl (here.at + 3) n
      ∙ ap (arguments_from way (only-cells code cells here.at) (here.at + 3)) m)

  block-hands : arguments_end code here.at ≡ 3 → cells ≡ handed_on code cells records here
  unfolding set_all arguments_from
  block-hands e = let z : arguments_end code here.at ≡ 3 + 0 = omega (arith, e) in handed-to 0 z

  -- What is asked of the arguments

  no_arguments : here.at + 3 ≤ 4096 → here.live ≤ 254 → Handing code records here 3
  no_arguments h few =
      record {
        low = omega arith;
        few = omega arith;
        there = h;
        live-few = few;
        named = λ i l m. absurd (omega arith);
        below = λ i l m. absurd (omega arith);
      }

  field-name : fields.Arguments st → (i : ℕ) → 3 ≤ i → i < 3 + get_or code (here.at + 2) 0 → fields.FieldName st i
  field-name a i l m = let e : 3 + (i - 3) ≡ i = omega arith in subst (fields.FieldName st) e (a.each (i - 3) (omega arith))

  its-arguments : fields.Arguments st → here.live ≤ 254 → Handing code records here (3 + get_or code (here.at + 2) 0)
  its-arguments a few =
      record {
        low = omega arith;
        few = omega (arith, a.many);
        there = omega (arith, a.there);
        live-few = few;
        named = λ i l m. record { there = omega (arith, a.there); seen = seen w i (field-name a i l m) };
        below = λ i l m. (reached w i (field-name a i l m)).own;
      }

  abbrev Hands : Op → Type 0
  Hands o = ((happens way scene o).cells ≡ handed_on code cells records here) × Handing code records here (arguments_end code here.at)

  hands-block : op_of (get_or code here.at 0) ≡ block-op → here.at + 3 ≤ 4096 → here.live ≤ 254 → Hands block-op
  unfolding happens number_of
  hands-block e h few =
      let z = ends-block code here.at (number-of (get_or code here.at 0) block-op e) in (
        sym (block_same way scene (block_move code activations here.live here.at) refl).1 ∙ block-hands z,
        subst (Handing code records here) (sym z) (no_arguments h few),
      )

  ends-as-call : (o : Op) → op_of (get_or code here.at 0) ≡ o → (number_of o ≡ 6 → ⊥) → arguments_end code here.at ≡ 3 + get_or code (here.at + 2) 0
  ends-as-call o e d = ends-call code here.at (λ z. d (sym (number-of (get_or code here.at 0) o e) ∙ z))

  hands : (o : Op) → op_of (get_or code here.at 0) ≡ o → fields.Fields st o → here.live ≤ 254 → is_entry (happens way scene o).move ≡ true → Hands o
  unfolding happens number_of
  hands constant-op e f few z = absurd (constant-goes way scene z)
  hands add-op e f few z = absurd (computing-goes way scene plus z)
  hands subtract-op e f few z = absurd (computing-goes way scene minus z)
  hands compare-op e f few z = absurd (computing-goes way scene less z)
  hands branch-op e f few z = absurd (branch-goes way scene z)
  hands goto-op e f few z = absurd (goto-goes way scene z)
  hands block-op e f few z = hands-block e f few
  hands call-op e f few z =
      let q = ends-as-call call-op e (λ (h : 7 ≡ 6). omega (arith, h)) in
      (call-hands way scene z ∙ handed-to (get_or code (here.at + 2) 0) q, subst (Handing code records here) (sym q) (its-arguments f.0 few))
  hands pair-op e f few z = absurd (change-goes way scene Add z)
  hands unpair-op e f few z = absurd (change-goes way scene Remove z)
  hands query-op e f few z = absurd (query-goes way scene z)
  hands constant-formal-op e f few z = absurd (constant-goes way scene z)
  hands arithmetic-formal-op e f few z = absurd (computing-goes way scene _ z)
  hands branch-formal-op e f few z = absurd (branch-goes way scene z)
  hands goto-formal-op e f few z = absurd (goto-goes way scene z)
  hands call-formal-op e f few z =
      let q = ends-as-call call-formal-op e (λ (h : 15 ≡ 6). omega (arith, h)) in
      (formal-hands way scene z ∙ handed-to (get_or code (here.at + 2) 0) q, subst (Handing code records here) (sym q) (its-arguments f.0 few))

  -- the next statement
  pub enters-handing : (here.at ≡ here.end → ⊥) → here.live ≤ 254 → is_entry (acting way scene).move ≡ true
      → ((acting way scene).cells ≡ handed_on code cells records here) × Handing code records here (arguments_end code here.at)
  unfolding acting
  enters-handing before few =
      let z : here.at ≡ here.at + 0 = omega arith in
      let e = ap (λ i. op_of (get_or code i 0)) z in
      hands (op_of (get_or code (here.at + 0) 0)) e (subst (fields.Fields st) e (fields.fields-stand st before)) few
