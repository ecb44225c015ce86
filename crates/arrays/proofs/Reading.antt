-- What an engine reads of an activation in the resolved script. At its block's place: its level (`level-read`), how many formals and names it has
-- (`formals-read`, `names-read`), where its text ends (`end_read`) and the looked-up name's word (`looked-up-read`). At its next statement's
-- place: the statement (`action-read`, `block_read`), or the end of the text exactly where there is none (`none_read`, `some_read`);
-- `next-read` and `after-block-read` say where the statement after it stands.
use Prim.Native.Nat.{ℕ, suc, pred, ◌+◌, ◌%◌, ◌/◌, ◌≤◌, ◌<◌}
use native.Mathlib.Omega.{arith}
use mathlib.Core.List.{List, [], ◌∷◌}
use Rattle.std.proofs.Math.Option.{none, some}
use Rattle.std.specs.Prelude.{◌≡◌, ℤ}
use Rattle.std.proofs.Math.Path.{sym, ap, subst}
use Rattle.std.proofs.Common.{◌∙◌}
use Rattle.std.proofs.Math.ListN.{length, get_or, get_elem?}
use Rattle.language.specs.Text.{Action, Block, Stmt, BK, DO, block_at, block_decls, block_stmts, stmt_at}
use Rattle.language.specs.Encoding.{stmt_fields}
use Rattle.laws.specs.Lists.{get_elem-bound}
use Rattle.grammar.specs.Rules.{Keeps}
use Rattle.frames.specs.Frame.{Frame, numbered, frame_stmt}
use Rattle.frames.specs.Numbered.{numbered-suc}
use Rattle.coordinates.specs.Enclosure.{Enclosure, Encloses}
use Rattle.coordinates.specs.Chain.{enclosing, enclosure_of, level_of, Chained}
use Rattle.coordinates.proofs.Search.{enclosure-step}
use Rattle.coordinates.proofs.Kept.{chained-downward}
use Rattle.coordinates.proofs.Levels.{frame-encloses}
use Rattle.resolved.specs.Resolved.{place_of, end_place, stmt_place, name_word, resolved_of, resolved_action, resolved_block, Covers, level_in}
use Rattle.resolved.proofs.Places.{place-bound, enclosed-next, enclosed-after-block, enclosed-before-end}
use Rattle.resolved.proofs.Standing.{stmt-covered, action-covered, head-stands, bounds-stands, looked-up-stands}
use Rattle.resolved.proofs.Words.{head-level, head-formals, head-names, bounds-end}
use Rattle.resolved.specs.Layout.{formals_in, names_in, end_in}
use Rattle.arrays.specs.Holds.{Holds}
use Rattle.arrays.proofs.Names.{frame-level}

-- the place of the statement that comes next
pub next-some : (f : Frame) (x : Stmt) → frame_stmt f ≡ some x → stmt_place f.text f.next ≡ place_of (stmt_at x)
unfolding frame_stmt stmt_place
next-some f x q = rw (stmt_place, q)

pub next-none : (f : Frame) → frame_stmt f ≡ none → stmt_place f.text f.next ≡ end_place f.text
unfolding frame_stmt stmt_place
next-none f q = rw (stmt_place, q)

module _ (code : List ℕ) (name : ℕ) (t : Block) (keeps : Keeps t) (covered : Covers code 0 (resolved_of name t)) (fs : List Frame) (chain : Chained t fs)
    (blocks nexts links : List ℕ) (cells : List ℤ) (holds : Holds fs blocks nexts links cells) (k : ℕ) (f : Frame) (e : get_elem? fs k ≡ some f) where
  stands : numbered fs (suc k) ≡ some f
  stands = numbered-suc fs k ∙ e

  around : Enclosure
  around = enclosure_of fs f.link

  enclosure-is : enclosure_of fs (suc k) ≡ enclosing f ∷ around
  unfolding around
  enclosure-is = enclosure-step fs (chained-downward t fs chain) (suc k) f stands

  within : Encloses t (enclosing f ∷ around)
  unfolding around
  within = frame-encloses t fs chain (suc k) f stands

  block-is : get_or blocks k 0 ≡ place_of (block_at f.text)
  block-is = (holds k f e).block-is

  pub level-read : level_in (get_or code (get_or blocks k 0) 0) ≡ level_of fs (suc k)
  unfolding enclosing around
  level-read =
      ap (λ p. level_in (get_or code p 0)) block-is ∙ ap level_in (head-stands code name t keeps covered (enclosing f) around within) ∙ head-level t keeps (enclosing f) around within
      ∙ sym (frame-level fs (chained-downward t fs chain) (suc k) f stands)

  pub formals-read : formals_in (get_or code (get_or blocks k 0) 0) ≡ length f.formals
  unfolding enclosing
  formals-read =
      ap (λ p. formals_in (get_or code p 0)) block-is ∙ ap formals_in (head-stands code name t keeps covered (enclosing f) around within) ∙ head-formals t keeps (enclosing f) around within

  pub names-read : names_in (get_or code (get_or blocks k 0) 0) ≡ length f.formals + length (block_decls f.text)
  unfolding enclosing
  names-read =
      ap (λ p. names_in (get_or code p 0)) block-is ∙ ap names_in (head-stands code name t keeps covered (enclosing f) around within) ∙ head-names t keeps (enclosing f) around within

  pub end_read : end_in (get_or code (get_or blocks k 0 + 1) 0) ≡ end_place f.text
  unfolding enclosing
  end_read =
      ap (λ p. end_in (get_or code (p + 1) 0)) block-is ∙ ap end_in (bounds-stands code name t keeps covered (enclosing f) around within) ∙ bounds-end t keeps (enclosing f) around within

  pub looked-up-read : get_or code (get_or blocks k 0 + 2) 0 ≡ name_word (enclosure_of fs (suc k)) name
  unfolding enclosing
  looked-up-read =
      ap (λ p. get_or code (p + 2) 0) block-is ∙ looked-up-stands code name t keeps covered (enclosing f) around within ∙ ap (λ (es : Enclosure). name_word es name) (sym enclosure-is)

  -- The statement that comes next

  next-is : (x : Stmt) → frame_stmt f ≡ some x → get_or nexts k 0 ≡ place_of (stmt_at x)
  next-is x q = (holds k f e).next-is ∙ next-some f x q

  pub action-read : (at : ℕ) (a : Action) → frame_stmt f ≡ some (DO at a) → Covers code (get_or nexts k 0) (resolved_action (enclosure_of fs (suc k)) a)
  unfolding frame_stmt enclosing stmt_at
  action-read at a q =
      subst (λ p. Covers code p (resolved_action (enclosure_of fs (suc k)) a)) (sym (next-is (DO at a) q))
      (subst (λ (es : Enclosure). Covers code (place_of at) (resolved_action es a)) (sym enclosure-is) (action-covered code name t keeps covered (enclosing f) around within (pred f.next) at a q))

  pub block_read : (b : Block) → frame_stmt f ≡ some (BK b) → Covers code (get_or nexts k 0) (resolved_block name b [] (enclosure_of fs (suc k)))
  unfolding frame_stmt enclosing stmt_at resolved_block
  block_read b q =
      subst (λ p. Covers code p (resolved_block name b [] (enclosure_of fs (suc k)))) (sym (next-is (BK b) q))
      (subst (λ (es : Enclosure). Covers code (place_of (block_at b)) (resolved_block name b [] es)) (sym enclosure-is) (stmt-covered code name t keeps covered (enclosing f) around within (pred f.next) (BK b) q))

  pub none_read : frame_stmt f ≡ none → get_or nexts k 0 ≡ end_place f.text
  none_read q = (holds k f e).next-is ∙ next-none f q

  module _ (first : 1 ≤ f.next) (x : Stmt) (q : frame_stmt f ≡ some x) where
    pub some_read : get_or nexts k 0 < end_place f.text
    unfolding frame_stmt enclosing
    some_read =
        let h = get_elem-bound (block_stmts f.text) (pred f.next) x q in
        omega (arith, (holds k f e).next-is, enclosed-before-end t keeps (enclosing f) around within f.next first (omega arith))

    pub next-read : stmt_place f.text (suc f.next) ≡ get_or nexts k 0 + length (stmt_fields x)
    unfolding frame_stmt enclosing
    next-read =
        let z : suc f.next ≡ suc (suc (pred f.next)) = omega arith in
        ap (stmt_place f.text) z ∙ enclosed-next t keeps (enclosing f) around within (pred f.next) x q ∙ ap (λ p. p + length (stmt_fields x)) (sym (next-is x q))

    -- a statement's fields end within the script
    pub fields_within : get_or nexts k 0 + length (stmt_fields x) ≤ 4096
    unfolding enclosing
    fields_within = omega (arith, next-read, place-bound t keeps (enclosing f) around within (suc f.next) (omega arith))

  pub after-block-read : 1 ≤ f.next → (b : Block) → frame_stmt f ≡ some (BK b) → stmt_place f.text (suc f.next) ≡ end_place b
  unfolding frame_stmt enclosing
  after-block-read first b q =
      let z : suc f.next ≡ suc (suc (pred f.next)) = omega arith in
      ap (stmt_place f.text) z ∙ enclosed-after-block t keeps (enclosing f) around within (pred f.next) b q
