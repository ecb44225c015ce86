-- What labels and procedures lead to stays right. `aims-entered`: the words of a block's text, noted one after the other, give the targets of all
-- names that the block declares (`AimsReady` is what that takes), and those of other activations stay; `aims-kept`; `aims-start`.
use Rattle.std.specs.Prelude.{ℕ, zero, suc, ◌+◌, ◌*◌, ◌-◌, ◌≤◌, ◌<◌, true, List, [], ◌∷◌, ◌++◌, ◌≢◌, ◌≡◌, length, get_or}
use Rattle.std.proofs.Common.{arith, inl, inr, sym, ap, ◌∙◌, subst, subst₂, eq-eqb, ne_eqb}
use Rattle.std.proofs.Math.Option.{Option, some, map}
use Rattle.std.proofs.Math.ListN.{get_elem?}
use Rattle.std.proofs.lemmas.List.{length-map}
use Rattle.language.specs.Text.{Formal, Decl, block_at, block_decls, decl_name, formal_names, declared_names}
use Rattle.language.specs.Machine.{Activation}
use Rattle.laws.specs.Tests.{none≢some, some_inj}
use Rattle.laws.specs.Each.{each_at}
use Rattle.laws.specs.Distinct.{Distinct}
use Rattle.laws.specs.Lists.{get_elem-bound, get_elem-after, get_elem?-map}
use Rattle.frames.specs.Frame.{Frame, position_from}
use Rattle.coordinates.specs.Enclosure.{Enclosing, enclosed, Enclosure, Coordinate, names_of}
use Rattle.coordinates.specs.Chain.{enclosing, outline, SameOutlines}
use Rattle.coordinates.proofs.Search.{coordinate-here}
use Rattle.coordinates.proofs.Declared.{level-here}
use Rattle.resolved.specs.Resolved.{place_of, end_place, position_in, level_in, target_in, direct, decl_target, name_word}
use Rattle.resolved.specs.Layout.{cell_from}
use Rattle.copy_texts.specs.Texts.{Aims, noted_from}
use Rattle.resolved.proofs.NameWords.{Narrow, name-is}
use Rattle.copy_texts.specs.Readings.{position_here, position-there, owned}
use Rattle.copy_texts.specs.Renewing.{NamesStand, Inside, Declared}
use Rattle.copy_texts.specs.Stacks.{OneMore, frame-before, by_index}
use Rattle.copy_texts.specs.Noting.{Leads, from-below, from-reached}

-- The word of a declared name

position-of : (ns : List ℕ) (i k n : ℕ) → Distinct ns → get_elem? ns k ≡ some n → position_from n i ns ≡ some (i + k)
position-of [] i k n once q = none≢some q
position-of (x ∷ ns) i zero n once q =
    let z : i ≡ i + 0 = omega arith in
    position_here n i x ns (eq-eqb n x (sym (some_inj q))) ∙ ap {B = Option ℕ} some z
position-of (x ∷ ns) i (suc k) n once q =
    let z : suc i + k ≡ i + suc k = omega arith in
    let apart : x ≢ n = each_at (λ m. x ≢ m) ns k n q once.0 in
    position-there n i x ns (ne_eqb n x (λ e. apart (sym e))) ∙ position-of ns (suc i) k n once.1 q ∙ ap {B = Option ℕ} some z

declared-at : (e : Enclosing) (j : ℕ) (d : Decl) → get_elem? (block_decls e.text) j ≡ some d → get_elem? (names_of e) (length e.formals + j) ≡ some (decl_name d)
unfolding names_of formal_names declared_names
declared-at e j d q =
    let many : length (formal_names e.formals) ≡ length e.formals = length-map e.formals (λ (f : Formal). f.name) in
    let z : length e.formals + j - length (formal_names e.formals) ≡ j = omega arith in
    get_elem-after (formal_names e.formals) (declared_names e.text) (length e.formals + j) (omega arith) ∙ ap (get_elem? (declared_names e.text)) z
    ∙ get_elem?-map decl_name (block_decls e.text) j ∙ ap (map decl_name) q

-- its level and its position, and that it is no formal's
pub record DeclaredWord (e : Enclosing) (es : Enclosure) (j : ℕ) (w : ℕ) : Type 0 where
  pub level : level_in w ≡ suc (length es)
  pub position : position_in w ≡ length e.formals + j
  pub is-direct : direct w ≡ true

pub word-declared : (e : Enclosing) (es : Enclosure) → Narrow (e ∷ es) → Distinct (names_of e) → (j : ℕ) (d : Decl) → get_elem? (block_decls e.text) j ≡ some d
    → DeclaredWord e es j (name_word (e ∷ es) (decl_name d))
unfolding direct
word-declared e es narrow once j d q =
    let p = length e.formals + j in
    let c : Coordinate = record { level = suc (length es); position = suc p } in
    let z : 1 + p ≡ suc p = omega arith in
    let named = position-of (names_of e) 1 p (decl_name d) once (declared-at e j d q) ∙ ap {B = Option ℕ} some z in
    let found = coordinate-here e es (decl_name d) (suc p) named in
    let says = name-is (e ∷ es) narrow (decl_name d) c found e (level-here e es) in
    record { level = says.level; position = says.position; is-direct = eq-eqb _ 0 (says.declared (omega arith)) }

-- The cells of one block

named-leads : (e : Enclosing) (es : Enclosure) (j : ℕ) (d : Decl) → get_elem? (block_decls e.text) j ≡ some d → (w n : ℕ) → NamesStand e es w n
    → Leads (suc (length es)) (length e.formals + j) (decl_target e.text d) w
named-leads e es j d q w n (inl z) l k s = absurd (omega arith)
named-leads e es j d q w n (inr c) l k s =
    let m = length e.formals in
    let word = name_word (c.0 ++ (e ∷ es)) n in
    let at : position_in word ≡ m + j = ap position_in (sym c.1) ∙ s in
    let o = owned e es c.0 c.3 n (ap level_in (sym c.1) ∙ l) in
    let z : position_in word - m ≡ j = omega arith in
    ap target_in c.1 ∙ o.target d (omega arith) (ap (get_elem? (block_decls e.text)) z ∙ q)

pub block-aims : (targets names fields : List ℕ) (lowest : ℕ) (e : Enclosing) (es : Enclosure) → Narrow (e ∷ es) → Distinct (names_of e) → Inside names fields e es → Declared names e es
    → lowest + 32 ≤ length targets → length e.formals + length (block_decls e.text) ≤ 32 → (j : ℕ) (d : Decl) → get_elem? (block_decls e.text) j ≡ some d
    → get_or (noted_from targets names lowest (suc (length es)) (place_of (block_at e.text)) (end_place e.text - place_of (block_at e.text))) (lowest + (length e.formals + j)) 0 ≡ decl_target e.text d
block-aims targets names fields lowest e es narrow once inside declared room few j d q =
    let place = place_of (block_at e.text) in
    let n = end_place e.text - place in
    let b = get_elem-bound (block_decls e.text) j d q in
    let s = declared j d q in
    let w = word-declared e es narrow once j d q in
    from-reached names lowest (suc (length es)) (length e.formals + j) (decl_target e.text d) targets place n s.0 (omega arith)
    (λ i low high. named-leads e es j d q (get_or names i 0) (get_or fields i 0) (inside i low (omega arith))) s.1 (omega (arith, s.1, s.2))
    (ap level_in s.3 ∙ w.level) (ap direct s.3 ∙ w.is-direct) (ap position_in s.3 ∙ w.position)

-- The activations that were there before

-- the targets of one frame's declarations
abbrev Leading : List ℕ → ℕ → Frame → Type 0
Leading targets k f =
    (j : ℕ) (d : Decl) → get_elem? (block_decls f.text) j ≡ some d → get_or targets (cell_from k (length f.formals + j)) 0 ≡ decl_target f.text d

cells-kept : (targets : List ℕ) (fs fs'' : List Frame) → Aims targets fs → (n : ℕ) → SameOutlines n fs fs'' → (k : ℕ) (f : Frame) → k < n → get_elem? fs'' k ≡ some f → Leading targets k f
unfolding outline enclosing
cells-kept targets fs fs'' aims n same k f l r =
    let g = frame-before n k l fs fs'' same f r in
    let block : enclosed g.0.formals g.0.text ≡ enclosed f.formals f.text = ap (λ (x : Enclosing × ℕ). x.0) g.2 in
    subst (λ (e : Enclosing). (j : ℕ) (d : Decl) → get_elem? (block_decls e.text) j ≡ some d → get_or targets (cell_from k (length e.formals + j)) 0 ≡ decl_target e.text d)
    block (λ j d q. aims.each k j g.0 d g.1 q)

pub aims-kept : (targets : List ℕ) (fs fs'' : List Frame) → Aims targets fs → SameOutlines (length fs'') fs fs'' → Aims targets fs''
aims-kept targets fs fs'' aims same =
    record { each = λ k j f d r q. cells-kept targets fs fs'' aims (length fs'') same k f (get_elem-bound fs'' k f r) r j d q }

-- One activation more

pub record AimsReady (targets targets' names fields : List ℕ) (live : ℕ) (as' as'' : List Activation) (fs fs'' : List Frame) (es : Enclosure) (f : Frame) (new : Activation) : Type 0 where
  pub aims : Aims targets fs
  pub more : OneMore live as' as'' fs fs'' new f
  pub long : length targets ≡ 8224
  pub room : live + 1 ≤ 255
  pub few : (k : ℕ) (x : Frame) → get_elem? fs'' k ≡ some x → length x.formals + length (block_decls x.text) ≤ 32
  pub narrow : Narrow (enclosed f.formals f.text ∷ es)
  pub once : Distinct (names_of (enclosed f.formals f.text))
  pub inside : Inside names fields (enclosed f.formals f.text) es
  pub declared : Declared names (enclosed f.formals f.text) es
  pub targets-are : targets' ≡ noted_from targets names (32 * (live + 1)) (suc (length es)) (place_of (block_at f.text)) (end_place f.text - place_of (block_at f.text))

module _ {targets targets' names fields : List ℕ} {live : ℕ} {as' as'' : List Activation} {fs fs'' : List Frame} {es : Enclosure} {f : Frame} {new : Activation}
    (h : AimsReady targets targets' names fields live as' as'' fs fs'' es f new) where
  old-leading : (k : ℕ) (x : Frame) → get_elem? fs'' k ≡ some x → k < live + 1 → Leading targets' k x
  old-leading k x r l j d q =
      let i = cell_from k (length x.formals + j) in
      let below : i < 32 * (live + 1) = omega (arith, h.few k x r, get_elem-bound (block_decls x.text) j d q) in
      ap (λ (ts : List ℕ). get_or ts i 0) h.targets-are
      ∙ from-below names (32 * (live + 1)) (suc (length es)) targets (place_of (block_at f.text)) (end_place f.text - place_of (block_at f.text)) i below
      ∙ cells-kept targets fs fs'' h.aims (live + 1) h.more.same-frames k x l r j d q

  new-leading : Leading targets' (live + 1) f
  new-leading j d q =
      let e = enclosed f.formals f.text in
      ap (λ (ts : List ℕ). get_or ts (cell_from (live + 1) (length f.formals + j)) 0) h.targets-are
      ∙ block-aims targets names fields (32 * (live + 1)) e es h.narrow h.once h.inside h.declared (omega (arith, h.long, h.room)) (h.few (live + 1) f h.more.top_frame) j d q

  top-leading : (k : ℕ) (x : Frame) → get_elem? fs'' k ≡ some x → k ≡ live + 1 → Leading targets' k x
  top-leading k x r z =
      let c : f ≡ x = some_inj (sym h.more.top_frame ∙ ap (get_elem? fs'') (sym z) ∙ r) in
      subst₂ (Leading targets') (sym z) c new-leading

  pub aims-entered : Aims targets' fs''
  aims-entered = record { each = λ k j x d r. by_index fs'' live k x h.more.frames-deeper r (old-leading k x r) (top-leading k x r) j d }

-- the program's
pub aims-start : (targets names fields : List ℕ) (f : Frame) → Narrow (enclosed f.formals f.text ∷ []) → Distinct (names_of (enclosed f.formals f.text))
    → Inside names fields (enclosed f.formals f.text) [] → Declared names (enclosed f.formals f.text) []
    → 32 ≤ length targets → length f.formals + length (block_decls f.text) ≤ 32
    → Aims (noted_from targets names 0 1 (place_of (block_at f.text)) (end_place f.text - place_of (block_at f.text))) (f ∷ [])
aims-start targets names fields f narrow once inside declared room few = record { each = λ k j x d r. leading k x r j d }
  where
    targets' : List ℕ
    targets' = noted_from targets names 0 1 (place_of (block_at f.text)) (end_place f.text - place_of (block_at f.text))

    leading : (k : ℕ) (x : Frame) → get_elem? (f ∷ []) k ≡ some x → Leading targets' k x
    leading zero x r = subst (Leading targets' 0) (some_inj r) (block-aims targets names fields 0 (enclosed f.formals f.text) [] narrow once inside declared (omega arith) few)
    leading (suc k) x r = none≢some r
