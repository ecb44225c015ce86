-- A block's first words taken apart, and the size of all words. `head-*`, `bounds-*`: what head_word and bounds_word hold, in an enclosure of
-- a script that keeps the rules. `words_small`: every word of the resolved script is below 2^32.
use Prim.Native.Nat.{ℕ, zero, suc, ◌+◌, ◌/◌, ◌%◌, ◌≤◌, ◌<◌}
use native.Mathlib.Omega.{arith}
use Rattle.std.specs.Prelude.{Bool, ◌≡◌, ℤ, pos, negsuc}
use Rattle.std.proofs.Math.Bool.{true, false}
use mathlib.Core.List.{List, [], ◌∷◌, ◌++◌, map}
use Rattle.std.proofs.Math.Option.{Option, none, some}
use Rattle.std.proofs.Math.Path.{refl}
use borrow.Author.Tests.{ltb-true, ltb-false}
use Rattle.std.proofs.Math.Dec.{ltb}
use Rattle.std.proofs.Math.ListN.{length, get_elem?}
use Rattle.std.specs.Int.Signed.{mag}
use Rattle.language.specs.Text.{Operation, plus, minus, less, Formal, Action, CL, GO, IF, KN, AR, AD, RM, QY, Block, block, Decl, VR, LB, PR, Stmt, BK, DO, Decls, no-decl, decl, Stmts, no-stmt, stmt, decls, stmts, block_at, block_decls, block_stmts}
use Rattle.language.specs.Encoding.{operation_field, unsigned}
use Rattle.laws.specs.Each.{Each, each_append}
use Rattle.grammar.specs.Rules.{FormedAction, FormedBlock, Keeps}
use Rattle.grammar.specs.Formed.{block-few}
use Rattle.coordinates.specs.Enclosure.{Enclosing, enclosed, Enclosure, Coordinate, coordinate_of, as-block, as-body, whole, Encloses}
use Rattle.coordinates.proofs.Declared.{Declares, coordinate-declares}
use Rattle.coordinates.proofs.Levels.{enclosure-level}
use Rattle.resolved.specs.Resolved.{place_of, end_place, stmt_place, packed, level_in, decl_target, name_word, chosen, resolved_action, head_word, bounds_word, header, resolved_formals, resolved_block, resolved_decl, resolved_stmt, resolved_decls, resolved_stmts, resolved_of}
use Rattle.resolved.proofs.Places.{stmt-formed, body-stands, body-within, end_is, enclosed-formed, end-bound, place-bound}
use Rattle.resolved.proofs.NameWords.{kind-small, decl-kind-small, word_none, formal-there, decl-there, formal-word, declared-word, narrow-of-text, position-few, level-few, enclosed-at}

-- A block's first words

place-zero : (b : Block) → stmt_place b 0 ≡ stmt_place b 1
unfolding stmt_place
place-zero b = refl

pub level-in-head : (e : Enclosing) (level : ℕ) → level ≤ 16 → level_in (head_word e level) ≡ level
unfolding head_word
level-in-head e level low = omega arith

module _ (t : Block) (keeps : Keeps t) (e : Enclosing) (es : Enclosure) (within : Encloses t (e ∷ es)) where
  abbrev Level : ℕ
  Level = suc (length es)

  names-few : length e.formals + length (block_decls e.text) ≤ 32
  names-few = block-few Level e.formals _ e.text (enclosed-formed t keeps e es within)

  level-low : Level ≤ 16
  level-low = (enclosure-level t keeps (e ∷ es) within).1

  pub head-operation : head_word e Level % 256 ≡ 6
  unfolding head_word
  head-operation = omega (arith, names-few, level-low)

  pub head-level : head_word e Level / 256 % 256 ≡ Level
  head-level = level-in-head e Level level-low

  pub head-formals : head_word e Level / 65536 % 256 ≡ length e.formals
  unfolding head_word
  head-formals = omega (arith, names-few, level-low)

  pub head-names : head_word e Level / 16777216 ≡ length e.formals + length (block_decls e.text)
  unfolding head_word
  head-names = omega (arith, names-few, level-low)

  pub head_small : head_word e Level < 4294967296
  unfolding head_word
  head_small = omega (arith, names-few, level-low)

  pub bounds-end : bounds_word e.text % 65536 ≡ end_place e.text
  unfolding bounds_word
  bounds-end = omega (arith, end-bound t keeps e es within)

  pub bounds-first : bounds_word e.text / 65536 ≡ stmt_place e.text 1
  unfolding bounds_word
  bounds-first = omega (arith, end-bound t keeps e es within)

  pub bounds-small : bounds_word e.text < 4294967296
  unfolding bounds_word
  bounds-small = omega (arith, end-bound t keeps e es within, place-bound t keeps e es within 1 (omega arith))

  -- what a declared name leads to
  pub target_small : (k : ℕ) (d : Decl) → get_elem? (block_decls e.text) k ≡ some d → decl_target e.text d ≤ 4096
  unfolding decl_target
  target_small k (VR at n) q = omega arith
  target_small k (LB at n i) q = label_small _
    where
      label_small : (i : ℕ) → stmt_place e.text i ≤ 4096
      label_small zero = omega (arith, place-zero e.text, place-bound t keeps e es within 1 (omega arith))
      label_small (suc i) = place-bound t keeps e es within (suc i) (omega arith)
  target_small k (PR at n fs b) q =
      let p = place_of (block_at e.text) in
      let f = enclosed-formed t keeps e es within in
      omega (arith, body-stands e.text Level e.formals p f k at n fs b q, body-within e.text k at n fs b q, end_is e.text Level e.formals p f, end-bound t keeps e es within)

-- Name words

module _ (t : Block) (keeps : Keeps t) (es : Enclosure) (within : Encloses t es) (n : ℕ) where
  found-small : (c : Coordinate) → coordinate_of es n ≡ some c → name_word es n < 4294967296
  unfolding packed
  found-small c found =
      let d = coordinate-declares es n c found in
      let e = d.block in
      let stands = d.stands in
      let narrow = narrow-of-text t keeps es within in
      let p = position-few es narrow n c found e stands in
      let l = (level-few es narrow n c found e stands).1 in
      go d p l (ltb (length d.block.formals) c.position) refl
    where
      go : (d : Declares es n c) → c.position ≤ 32 → c.level ≤ 16 → (b : Bool) → ltb (length d.block.formals) c.position ≡ b → name_word es n < 4294967296
      go d p l true k =
          let e = d.block in
          let h : length e.formals < c.position = ltb-true (length e.formals) c.position k in
          let x = decl-there es n c found e d.stands h in
          let o = enclosed-at t es within c.level e d.low d.high d.stands in
          omega (arith, declared-word es n c found e d.stands x.0 h x.1, target_small t keeps e o.0 o.1 _ x.0 x.1, decl-kind-small x.0)
      go d p l false k =
          let e = d.block in
          let m = formal-there es n c found e d.stands (ltb-false (length e.formals) c.position k) in
          omega (arith, formal-word es n c found e d.stands m.0 m.1, kind-small m.0.kind)

  pub name-small : name_word es n < 4294967296
  name-small = go (coordinate_of es n) refl
    where
      go : (o : Option Coordinate) → coordinate_of es n ≡ o → name_word es n < 4294967296
      go none q = omega (arith, word_none es n q)
      go (some c) q = found-small c q

-- All words

abbrev pub Small : ℕ → Type 0
Small w = w < 4294967296

chosen-small : (b : Bool) (x y : ℕ) → Small x → Small y → Small (chosen b x y)
unfolding chosen
chosen-small true x y p q = p
chosen-small false x y p q = q

operation-small : (o : Operation) → operation_field o < 3
unfolding operation_field
operation-small plus = omega arith
operation-small minus = omega arith
operation-small less = omega arith

unsigned_small : (z : ℤ) → mag z < 2147483648 → Small (unsigned z)
unfolding unsigned
unsigned_small (pos n) h = omega arith
unsigned_small (negsuc n) h = omega arith

formals-small : (fs : List Formal) → Each Small (resolved_formals fs)
unfolding resolved_formals
formals-small [] = tt
formals-small (f ∷ fs) = (omega arith, (omega arith, (omega (arith, kind-small f.kind), formals-small fs)))

module _ (t : Block) (keeps : Keeps t) where
  many-small : (es : Enclosure) → Encloses t es → (ns : List ℕ) → Each Small (map (name_word es) ns)
  many-small es w [] = tt
  many-small es w (n ∷ ns) = (name-small t keeps es w n, many-small es w ns)

  action-small : (es : Enclosure) → Encloses t es → (a : Action) → FormedAction a → Each Small (resolved_action es a)
  unfolding resolved_action FormedAction
  action-small es w (KN g z) h =
      (chosen-small _ 0 11 (omega arith) (omega arith), (name-small t keeps es w g, (unsigned_small z h.value, (omega arith, tt))))
  action-small es w (AR g o l r) h =
      (chosen-small _ (1 + operation_field o) 12 (omega (arith, operation-small o)) (omega arith), (name-small t keeps es w g, (omega (arith, operation-small o), (name-small t keeps es w l, (name-small t keeps es w r, tt)))))
  action-small es w (IF v l) h = (chosen-small _ 4 13 (omega arith) (omega arith), (name-small t keeps es w l, (name-small t keeps es w v, tt)))
  action-small es w (GO l) h = (chosen-small _ 5 14 (omega arith) (omega arith), (name-small t keeps es w l, tt))
  action-small es w (CL p xs) h =
      (chosen-small _ 7 15 (omega arith) (omega arith), (name-small t keeps es w p, (omega (arith, h.few), many-small es w xs)))
  action-small es w (AD g m) h = (omega arith, (name-small t keeps es w g, (name-small t keeps es w m, tt)))
  action-small es w (RM g m) h = (omega arith, (name-small t keeps es w g, (name-small t keeps es w m, tt)))
  action-small es w (QY g l m) h = (omega arith, (name-small t keeps es w g, (name-small t keeps es w l, (name-small t keeps es w m, tt))))

  formed-action : (o : Enclosing) (es : Enclosure) → Encloses t (o ∷ es) → (i at : ℕ) (a : Action)
      → get_elem? (block_stmts o.text) i ≡ some (DO at a) → FormedAction a
  unfolding FormedBlock
  formed-action o es w i at a q = (stmt-formed o.text (suc (length es)) o.formals _ (enclosed-formed t keeps o es w) i (DO at a) q).action

  header-small : (name : ℕ) (e : Enclosing) (es : Enclosure) → Encloses t (e ∷ es) → Each Small (header name e es)
  unfolding header
  header-small name e es w = (head_small t keeps e es w, (bounds-small t keeps e es w, (name-small t keeps (e ∷ es) w name, tt)))

  module _ (name : ℕ) where
    mutual
      unfolding resolved_block decls stmts block_decls block_stmts

      block-small : (b : Block) (fs : List Formal) (es : Enclosure) → Encloses t (enclosed fs b ∷ es) → Each Small (resolved_block name b fs es)
      block-small (block at ds ss) fs es w =
          let e = enclosed fs (block at ds ss) in
          each_append Small (header name e es) (resolved_decls name ds (e ∷ es) ++ resolved_stmts name ss (e ∷ es)) (header-small name e es w)
          (each_append Small (resolved_decls name ds (e ∷ es)) (resolved_stmts name ss (e ∷ es)) (decls-small ds e es w (λ i d q. (i, q))) (stmts-small ss e es w (λ i x q. (i, q))))

      decl-small : (d : Decl) (o : Enclosing) (es : Enclosure) → Encloses t (o ∷ es) → (i : ℕ) → get_elem? (block_decls o.text) i ≡ some d
          → Each Small (resolved_decl name d (o ∷ es))
      decl-small (VR at n) o es w i q = (omega arith, (name-small t keeps (o ∷ es) w n, tt))
      decl-small (LB at n k) o es w i q = (omega arith, (name-small t keeps (o ∷ es) w n, (omega arith, tt)))
      decl-small (PR at n fs b) o es w i q =
          (omega arith, (name-small t keeps (o ∷ es) w n, (omega arith, each_append Small (resolved_formals fs) (resolved_block name b fs (o ∷ es)) (formals-small fs) (block-small b fs (o ∷ es) (as-body i at n q, w)))))

      stmt-small : (x : Stmt) (o : Enclosing) (es : Enclosure) → Encloses t (o ∷ es) → (i : ℕ) → get_elem? (block_stmts o.text) i ≡ some x
          → Each Small (resolved_stmt name x (o ∷ es))
      stmt-small (BK b) o es w i q = block-small b [] (o ∷ es) (as-block i q refl, w)
      stmt-small (DO at a) o es w i q = action-small (o ∷ es) w a (formed-action o es w i at a q)

      -- the declarations, and the statements, are among the block's
      decls-small : (ds : Decls) (o : Enclosing) (es : Enclosure) → Encloses t (o ∷ es)
          → ((i : ℕ) (d : Decl) → get_elem? (decls ds) i ≡ some d → (j : ℕ) × (get_elem? (block_decls o.text) j ≡ some d))
          → Each Small (resolved_decls name ds (o ∷ es))
      decls-small no-decl o es w g = tt
      decls-small (decl d ds) o es w g =
          each_append Small (resolved_decl name d (o ∷ es)) (resolved_decls name ds (o ∷ es)) (decl-small d o es w (g 0 d refl).0 (g 0 d refl).1) (decls-small ds o es w (λ i c q. g (suc i) c q))

      stmts-small : (ss : Stmts) (o : Enclosing) (es : Enclosure) → Encloses t (o ∷ es)
          → ((i : ℕ) (x : Stmt) → get_elem? (stmts ss) i ≡ some x → (j : ℕ) × (get_elem? (block_stmts o.text) j ≡ some x))
          → Each Small (resolved_stmts name ss (o ∷ es))
      stmts-small no-stmt o es w g = tt
      stmts-small (stmt x ss) o es w g =
          each_append Small (resolved_stmt name x (o ∷ es)) (resolved_stmts name ss (o ∷ es)) (stmt-small x o es w (g 0 x refl).0 (g 0 x refl).1) (stmts-small ss o es w (λ i y q. g (suc i) y q))

    pub words_small : Each Small (resolved_of name t)
    unfolding resolved_of whole
    words_small = block-small t [] [] refl
