-- What a name's word says. `name-is`: where a name has a coordinate in an enclosure that is not too deep and has not too many names (`Narrow`), its
-- word has the level and the position of the coordinate, says whether it is a formal, its kind and what it leads to (`NameIs`). `word-none-iff`:
-- the word is 0 exactly where the name has no coordinate. `formal-word`, `declared-word`: the words themselves, with no condition on the script.
use Prim.Native.Nat.{ℕ, zero, suc, pred, ◌+◌, ◌*◌, ◌-◌, ◌≤◌, ◌<◌}
use native.Mathlib.Omega.{arith}
use Rattle.std.proofs.Common.{zero-add, sym, ◌∙◌, subst, length-append}
use Rattle.std.specs.Prelude.{Bool, List, [], ◌∷◌, ◌++◌, ◌↔◌, ◌≡◌, eqb}
use Rattle.std.proofs.Math.Bool.{true, false}
use Rattle.std.proofs.Math.Option.{Option, none, some}
use Rattle.std.proofs.Math.Path.{refl, ap}
use borrow.Author.Tests.{eqb-true, eqb-false, ltb-true, ltb-false}
use Rattle.std.proofs.Math.Dec.{ltb}
use Rattle.std.proofs.Math.ListN.{length, get_elem?}
use Rattle.std.proofs.lemmas.List.{length-map}
use Rattle.language.specs.Basics.{lookup, zip}
use Rattle.language.specs.Text.{Kind, variable, label, procedure, Formal, Block, block, Decl, VR, LB, PR, block_decls, decl_name, formal_names, declared_names}
use Rattle.language.specs.Encoding.{kind_field}
use Rattle.laws.specs.Tests.{none≢some, some_inj}
use Rattle.laws.specs.Each.{Each, each_at}
use Rattle.laws.specs.Lists.{get_elem-in, get_elem-bound, get_elem-append, get_elem-after}
use Rattle.laws.specs.Lookup.{lookup-here, lookup-there, lookup-left, lookup-right}
use Rattle.grammar.specs.Rules.{FormedBlock, Keeps}
use Rattle.frames.specs.Frame.{numbered, position_from}
use Rattle.frames.specs.Numbered.{numbered-bounds}
use Rattle.coordinates.specs.Enclosure.{Enclosing, enclosed, Enclosure, Coordinate, names_of, coordinate_of, at_level, Encloses}
use Rattle.coordinates.proofs.Search.{coordinate-here, coordinate-further}
use Rattle.coordinates.proofs.Declared.{coordinate-declares, position-named, level-at, level-here, level-further}
use Rattle.coordinates.proofs.Levels.{formed-names, enclosure-level, enclosure-names}
use Rattle.resolved.specs.Resolved.{packed, position_in, formal_in, kind_in, level_in, target_in, decl_target, decl_kind_field, formal_words, decl_words, own_words, visible_words, name_word}

-- A packed word taken apart

module _ (position formal kind level target : ℕ) (few : position < 32) (bit : formal < 2) (known : kind < 4) (low : level < 256) where
  pub packed-position : position_in (packed position formal kind level target) ≡ position
  unfolding packed
  packed-position = omega arith

  pub packed-formal : formal_in (packed position formal kind level target) ≡ formal
  unfolding packed
  packed-formal = omega arith

  pub packed-kind : kind_in (packed position formal kind level target) ≡ kind
  unfolding packed
  packed-kind = omega arith

  pub packed-level : level_in (packed position formal kind level target) ≡ level
  unfolding packed
  packed-level = omega arith

  pub packed-target : target_in (packed position formal kind level target) ≡ target
  unfolding packed
  packed-target = omega arith

pub kind-small : (k : Kind) → kind_field k < 3
unfolding kind_field
kind-small variable = omega arith
kind-small label = omega arith
kind-small procedure = omega arith

pub decl-kind-small : (d : Decl) → decl_kind_field d < 3
unfolding decl_kind_field
decl-kind-small (VR at n) = omega arith
decl-kind-small (LB at n i) = omega arith
decl-kind-small (PR at n fs b) = omega arith

-- The words of a block's own names

formals-many : (level i : ℕ) (fs : List Formal) → length (formal_words level i fs) ≡ length fs
unfolding formal_words
formals-many level i [] = refl
formals-many level i (f ∷ fs) = ap suc (formals-many level (suc i) fs)

decls-many : (b : Block) (level i : ℕ) (ds : List Decl) → length (decl_words b level i ds) ≡ length ds
unfolding decl_words
decls-many b level i [] = refl
decls-many b level i (d ∷ ds) = ap suc (decls-many b level (suc i) ds)

formals-at : (level i : ℕ) (fs : List Formal) (k : ℕ) (m : Formal) → get_elem? fs k ≡ some m
    → get_elem? (formal_words level i fs) k ≡ some (packed (i + k) 1 (kind_field m.kind) level 0)
unfolding formal_words
formals-at level i [] k m e = none≢some e
formals-at level i (f ∷ fs) zero m e =
    let z : i ≡ i + 0 = omega arith in
    let q : f ≡ m = some_inj e in
    λ j. some (packed (z j) 1 (kind_field (q j).kind) level 0)
formals-at level i (f ∷ fs) (suc k) m e =
    let z : suc i + k ≡ i + suc k = omega arith in
    formals-at level (suc i) fs k m e ∙ ap (λ j. some (packed j 1 (kind_field m.kind) level 0)) z

decls-at : (b : Block) (level i : ℕ) (ds : List Decl) (k : ℕ) (d : Decl) → get_elem? ds k ≡ some d
    → get_elem? (decl_words b level i ds) k ≡ some (packed (i + k) 0 (decl_kind_field d) level (decl_target b d))
unfolding decl_words
decls-at b level i [] k d e = none≢some e
decls-at b level i (c ∷ ds) zero d e =
    let z : i ≡ i + 0 = omega arith in
    let q : c ≡ d = some_inj e in
    λ j. some (packed (z j) 0 (decl_kind_field (q j)) level (decl_target b (q j)))
decls-at b level i (c ∷ ds) (suc k) d e =
    let z : suc i + k ≡ i + suc k = omega arith in
    decls-at b level (suc i) ds k d e ∙ ap (λ j. some (packed j 0 (decl_kind_field d) level (decl_target b d))) z

names-many : (e : Enclosing) → length (names_of e) ≡ length e.formals + length (block_decls e.text)
unfolding names_of formal_names declared_names
names-many e =
    length-append (formal_names e.formals) (declared_names e.text) ∙ omega (arith, length-map e.formals (λ (f : Formal). f.name), length-map (block_decls e.text) decl_name)

own-many : (e : Enclosing) (level : ℕ) → length (own_words e level) ≡ length (names_of e)
unfolding own_words
own-many e level =
    omega (arith, length-append (formal_words level 0 e.formals) (decl_words e.text level (length e.formals) (block_decls e.text)), formals-many level 0 e.formals, decls-many e.text level (length e.formals) (block_decls e.text), names-many e)

own-formal : (e : Enclosing) (level k : ℕ) (m : Formal) → get_elem? e.formals k ≡ some m
    → get_elem? (own_words e level) k ≡ some (packed k 1 (kind_field m.kind) level 0)
unfolding own_words
own-formal e level k m q =
    let l : k < length (formal_words level 0 e.formals) = omega (arith, formals-many level 0 e.formals, get_elem-bound e.formals k m q) in
    get_elem-append (formal_words level 0 e.formals) (decl_words e.text level (length e.formals) (block_decls e.text)) k l
    ∙ formals-at level 0 e.formals k m q ∙ ap (λ j. some (packed j 1 (kind_field m.kind) level 0)) (zero-add k)

own-declared : (e : Enclosing) (level k : ℕ) (d : Decl) → length e.formals ≤ k
    → get_elem? (block_decls e.text) (k - length e.formals) ≡ some d
    → get_elem? (own_words e level) k ≡ some (packed k 0 (decl_kind_field d) level (decl_target e.text d))
unfolding own_words
own-declared e level k d h q =
    let n = length e.formals in
    let fw = formal_words level 0 e.formals in
    let dw = decl_words e.text level n (block_decls e.text) in
    let l : length fw ≤ k = omega (arith, formals-many level 0 e.formals) in
    let z : k - length fw ≡ k - n = omega (arith, formals-many level 0 e.formals) in
    let y : n + (k - n) ≡ k = omega arith in
    get_elem-after fw dw k l ∙ ap (get_elem? dw) z ∙ decls-at e.text level n (block_decls e.text) (k - n) d q ∙ ap (λ j. some (packed j 0 (decl_kind_field d) level (decl_target e.text d))) y

-- The word that is found is that at the coordinate's position

zip-found : (n i : ℕ) (ns ws : List ℕ) (p : ℕ) → position_from n i ns ≡ some p → (i ≤ p) × (lookup n (zip ns ws) ≡ get_elem? ws (p - i))
unfolding position_from zip lookup
zip-found n i [] ws p e = none≢some e
zip-found n i (x ∷ ns) [] p e = go (λ r. (zip-found n (suc i) ns [] p r).0) (eqb n x) refl
  where
    go : (position_from n (suc i) ns ≡ some p → suc i ≤ p) → (b : Bool) → eqb n x ≡ b → (i ≤ p) × (◌≡◌ {A = Option ℕ} none none)
    go r true q = let h : i ≡ p = some_inj (rw (q, position_from) at e) in (omega arith, refl)
    go r false q = (omega (arith, r (rw (q, position_from) at e)), refl)
zip-found n i (x ∷ ns) (w ∷ ws) p e = go (zip-found n (suc i) ns ws p) (eqb n x) refl
  where
    go : (position_from n (suc i) ns ≡ some p → (suc i ≤ p) × (lookup n (zip ns ws) ≡ get_elem? ws (p - suc i))) → (b : Bool) → eqb n x ≡ b
        → (i ≤ p) × (lookup n ((x, w) ∷ zip ns ws) ≡ get_elem? (w ∷ ws) (p - i))
    go r true q =
        let h : i ≡ p = some_inj (rw (q, position_from) at e) in
        let z : 0 ≡ p - i = omega arith in
        (omega arith, lookup-here n (x, w) (zip ns ws) q ∙ ap (get_elem? (w ∷ ws)) z)
    go r false q =
        let k = r (rw (q, position_from) at e) in
        let z : suc (p - suc i) ≡ p - i = omega (arith, k.0) in
        (omega (arith, k.0), lookup-there n (x, w) (zip ns ws) q ∙ k.1 ∙ ap (get_elem? (w ∷ ws)) z)

zip-missed : (n i : ℕ) (ns ws : List ℕ) → position_from n i ns ≡ none → lookup n (zip ns ws) ≡ none
unfolding position_from zip lookup
zip-missed n i [] ws e = refl
zip-missed n i (x ∷ ns) [] e = refl
zip-missed n i (x ∷ ns) (w ∷ ws) e = go (zip-missed n (suc i) ns ws) (eqb n x) refl
  where
    go : (position_from n (suc i) ns ≡ none → lookup n (zip ns ws) ≡ none) → (b : Bool) → eqb n x ≡ b → lookup n ((x, w) ∷ zip ns ws) ≡ none
    go r true q = none≢some (sym (rw (q, position_from) at e))
    go r false q = lookup-there n (x, w) (zip ns ws) q ∙ r (rw (q, position_from) at e)

visible-word : (es : Enclosure) (n : ℕ) (c : Coordinate) → coordinate_of es n ≡ some c → (y : Enclosing) → at_level es c.level ≡ some y
    → lookup n (visible_words es) ≡ get_elem? (own_words y c.level) (pred c.position)
unfolding coordinate_of visible_words
visible-word [] n c e y a = none≢some e
visible-word (x ∷ es) n c e y a = go (visible-word es n c) (position_from n 1 (names_of x)) refl
  where
    own : List ℕ
    own = own_words x (suc (length es))

    go : (coordinate_of es n ≡ some c → (y : Enclosing) → at_level es c.level ≡ some y → lookup n (visible_words es) ≡ get_elem? (own_words y c.level) (pred c.position))
        → (o : Option ℕ) → position_from n 1 (names_of x) ≡ o → lookup n (zip (names_of x) own ++ visible_words es) ≡ get_elem? (own_words y c.level) (pred c.position)
    go r none q =
        let f : coordinate_of es n ≡ some c = sym (coordinate-further x es n q) ∙ e in
        let d = coordinate-declares es n c f in
        lookup-right n (zip (names_of x) own) (visible_words es) (zip-missed n 1 (names_of x) own q)
        ∙ r f y (sym (level-further x es c.level d.low d.high) ∙ a)
    go r (some p) q =
        let k : record { level = suc (length es); position = p } ≡ c = some_inj (sym (coordinate-here x es n p q) ∙ e) in
        let same : x ≡ y = some_inj (sym (level-here x es) ∙ (λ i. at_level (x ∷ es) (k i).level) ∙ a) in
        let f = zip-found n 1 (names_of x) own p q in
        let b = numbered-bounds (names_of x) p n (position-named n (names_of x) p q) in
        let w = get_elem-in own (p - 1) (omega (arith, own-many x (suc (length es)), b.0, b.1)) in
        let z : p - 1 ≡ pred p = omega arith in
        lookup-left n (zip (names_of x) own) (visible_words es) w.0 (f.1 ∙ w.1) ∙ sym w.1 ∙ ap (get_elem? own) z ∙ (λ i. get_elem? (own_words (same i) (k i).level) (pred (k i).position))

visible-none : (es : Enclosure) (n : ℕ) → coordinate_of es n ≡ none → lookup n (visible_words es) ≡ none
unfolding coordinate_of visible_words lookup
visible-none [] n e = refl
visible-none (x ∷ es) n e = go (visible-none es n) (position_from n 1 (names_of x)) refl
  where
    own : List ℕ
    own = own_words x (suc (length es))

    go : (coordinate_of es n ≡ none → lookup n (visible_words es) ≡ none) → (o : Option ℕ) → position_from n 1 (names_of x) ≡ o
        → lookup n (zip (names_of x) own ++ visible_words es) ≡ none
    go r none q = lookup-right n (zip (names_of x) own) (visible_words es) (zip-missed n 1 (names_of x) own q) ∙ r (sym (coordinate-further x es n q) ∙ e)
    go r (some p) q = none≢some (sym e ∙ coordinate-here x es n p q)

word_some : (es : Enclosure) (n w : ℕ) → lookup n (visible_words es) ≡ some w → name_word es n ≡ w
unfolding name_word
word_some es n w e = rw (e, name_word)

pub word_none : (es : Enclosure) (n : ℕ) → coordinate_of es n ≡ none → name_word es n ≡ 0
unfolding name_word
word_none es n e = rw (visible-none es n e, name_word)

-- Words by coordinate

module _ (es : Enclosure) (n : ℕ) (c : Coordinate) (found : coordinate_of es n ≡ some c) (e : Enclosing) (stands : at_level es c.level ≡ some e) where
  pub formal-word : (m : Formal) → get_elem? e.formals (pred c.position) ≡ some m
      → name_word es n ≡ packed (pred c.position) 1 (kind_field m.kind) c.level 0
  formal-word m q = word_some es n _ (visible-word es n c found e stands ∙ own-formal e c.level (pred c.position) m q)

  pub declared-word : (d : Decl) → length e.formals < c.position → get_elem? (block_decls e.text) (pred c.position - length e.formals) ≡ some d
      → name_word es n ≡ packed (pred c.position) 0 (decl_kind_field d) c.level (decl_target e.text d)
  declared-word d h q = word_some es n _ (visible-word es n c found e stands ∙ own-declared e c.level (pred c.position) d (omega arith) q)

  same_block : (x : Enclosing) → at_level es c.level ≡ some x → e ≡ x
  same_block x q = some_inj (sym stands ∙ q)

  pub position-bounds : (1 ≤ c.position) × (c.position ≤ length e.formals + length (block_decls e.text))
  position-bounds =
      let d = coordinate-declares es n c found in
      let q : numbered (names_of e) c.position ≡ some n = subst (λ (x : Enclosing). numbered (names_of x) c.position ≡ some n) (sym (same_block d.block d.stands)) d.named in
      let b = numbered-bounds (names_of e) c.position n q in
      (b.0, omega (arith, b.1, names-many e))

  -- the formal or the declaration at the coordinate's position
  pub formal-there : c.position ≤ length e.formals → (m : Formal) × (get_elem? e.formals (pred c.position) ≡ some m)
  formal-there h = get_elem-in e.formals (pred c.position) (omega (arith, position-bounds.0))

  pub decl-there : length e.formals < c.position → (d : Decl) × (get_elem? (block_decls e.text) (pred c.position - length e.formals) ≡ some d)
  decl-there h = get_elem-in (block_decls e.text) (pred c.position - length e.formals) (omega (arith, position-bounds.1))

  -- the word has the level, with no bounds needed
  word-above : 256 * c.level ≤ name_word es n
  unfolding packed
  word-above = go (ltb (length e.formals) c.position) refl
    where
      go : (b : Bool) → ltb (length e.formals) c.position ≡ b → 256 * c.level ≤ name_word es n
      go true t =
          let h : length e.formals < c.position = ltb-true (length e.formals) c.position t in
          let d = decl-there h in
          omega (arith, declared-word d.0 h d.1)
      go false t =
          let m = formal-there (ltb-false (length e.formals) c.position t) in
          omega (arith, formal-word m.0 m.1)

pub word-none-iff : (es : Enclosure) (n : ℕ) → (name_word es n ≡ 0) ↔ (coordinate_of es n ≡ none)
word-none-iff es n = (λ z. go z (coordinate_of es n) refl, word_none es n)
  where
    go : name_word es n ≡ 0 → (o : Option Coordinate) → coordinate_of es n ≡ o → coordinate_of es n ≡ none
    go z none q = q
    go z (some c) q =
        let d = coordinate-declares es n c q in
        absurd (omega (arith, d.low, word-above es n c q d.block d.stands))

-- Blocks by level, of an enclosure of the text

pub enclosed-at : (t : Block) (es : Enclosure) → Encloses t es → (j : ℕ) (y : Enclosing) → 1 ≤ j → j ≤ length es → at_level es j ≡ some y
    → (os : Enclosure) × Encloses t (y ∷ os) × (suc (length os) ≡ j)
enclosed-at t [] w j y l h a = absurd w
enclosed-at t (e ∷ []) w j y l h a =
    let z : 1 ≡ j = omega arith in
    let same : e ≡ y = some_inj (sym (level-here e []) ∙ ap (at_level (e ∷ [])) z ∙ a) in
    ([], subst (λ (x : Enclosing). Encloses t (x ∷ [])) same w, z)
enclosed-at t (e ∷ o ∷ es) w j y l h a = go (enclosed-at t (o ∷ es) w.1 j y l) (eqb j (suc (suc (length es)))) refl
  where
    go : (j ≤ suc (length es) → at_level (o ∷ es) j ≡ some y → (os : Enclosure) × Encloses t (y ∷ os) × (suc (length os) ≡ j)) → (b : Bool)
        → eqb j (suc (suc (length es))) ≡ b → (os : Enclosure) × Encloses t (y ∷ os) × (suc (length os) ≡ j)
    go r true q =
        let z : j ≡ suc (suc (length es)) = eqb-true j (suc (suc (length es))) q in
        let same : e ≡ y = some_inj (sym (level-here e (o ∷ es)) ∙ ap (at_level (e ∷ o ∷ es)) (sym z) ∙ a) in
        (o ∷ es, subst (λ (x : Enclosing). Encloses t (x ∷ o ∷ es)) same w, sym z)
    go r false q =
        let k : j ≤ suc (length es) = omega (arith, eqb-false j (suc (suc (length es))) q) in
        r k (sym (level-further e (o ∷ es) j l k) ∙ a)

-- The bounds under which the parts of a word can be told apart; the enclosures of a script that keeps the rules have them.
pub record Narrow (es : Enclosure) : Type 0 where
  pub shallow : length es ≤ 16
  pub few : Each (λ (x : Enclosing). length (names_of x) ≤ 32) es

few-names : (t : Block) → Keeps t → (es : Enclosure) → Encloses t es → Each (λ (x : Enclosing). length (names_of x) ≤ 32) es
few-names t keeps [] w = absurd w
few-names t keeps (e ∷ []) w = (enclosure-names t keeps e [] w, tt)
few-names t keeps (e ∷ o ∷ es) w = (enclosure-names t keeps e (o ∷ es) w, few-names t keeps (o ∷ es) w.1)

pub narrow-of-text : (t : Block) → Keeps t → (es : Enclosure) → Encloses t es → Narrow es
narrow-of-text t keeps es w = record { shallow = (enclosure-level t keeps es w).1; few = few-names t keeps es w }

pub narrow-inner : (b : Block) (fs : List Formal) (es : Enclosure) (here : ℕ) → Narrow es → FormedBlock b (suc (length es)) fs here → Narrow (enclosed fs b ∷ es)
unfolding FormedBlock names_of
narrow-inner (block at ds ss) fs es here narrow h =
    record { shallow = h.nesting; few = (formed-names (block at ds ss) (suc (length es)) fs here h, narrow.few) }

-- What the word of a name says, where its coordinate is c and the block there e.
pub record NameIs (w : ℕ) (c : Coordinate) (e : Enclosing) : Type 0 where
  pub position : position_in w ≡ pred c.position
  pub level : level_in w ≡ c.level
  pub formal : c.position ≤ length e.formals → formal_in w ≡ 1
  pub declared : length e.formals < c.position → formal_in w ≡ 0
  pub formal-kind : (m : Formal) → get_elem? e.formals (pred c.position) ≡ some m → kind_in w ≡ kind_field m.kind
  pub formal-target : c.position ≤ length e.formals → target_in w ≡ 0
  pub declared-kind : (d : Decl) → length e.formals < c.position
      → get_elem? (block_decls e.text) (pred c.position - length e.formals) ≡ some d → kind_in w ≡ decl_kind_field d
  pub declared-target : (d : Decl) → length e.formals < c.position
      → get_elem? (block_decls e.text) (pred c.position - length e.formals) ≡ some d → target_in w ≡ decl_target e.text d

module _ (es : Enclosure) (narrow : Narrow es) (n : ℕ) (c : Coordinate) (found : coordinate_of es n ≡ some c) (e : Enclosing) (stands : at_level es c.level ≡ some e) where
  pub position-few : c.position ≤ 32
  position-few =
      let d = coordinate-declares es n c found in
      let there = sym (level-at es c.level d.low d.high) ∙ stands in
      let few : length (names_of e) ≤ 32 = each_at (λ (x : Enclosing). length (names_of x) ≤ 32) es (length es - c.level) e there narrow.few in
      omega (arith, (position-bounds es n c found e stands).1, names-many e)

  pub level-few : (1 ≤ c.level) × (c.level ≤ 16)
  level-few =
      let d = coordinate-declares es n c found in
      (d.low, omega (arith, d.high, narrow.shallow))

  Parts : ℕ → ℕ → ℕ → Type 0
  Parts formal kind target =
      record {
        at : position_in (name_word es n) ≡ pred c.position;
        in-level : level_in (name_word es n) ≡ c.level;
        is-formal : formal_in (name_word es n) ≡ formal;
        of-kind : kind_in (name_word es n) ≡ kind;
        leads : target_in (name_word es n) ≡ target;
      }

  parts : (formal kind target : ℕ) → formal < 2 → kind < 3 → name_word es n ≡ packed (pred c.position) formal kind c.level target → Parts formal kind target
  unfolding Parts
  parts formal kind target b k q =
      let p = pred c.position in
      let few : p < 32 = omega (arith, position-few, (position-bounds es n c found e stands).0) in
      let known : kind < 4 = omega arith in
      let low : c.level < 256 = omega (arith, level-few.1) in
      record {
        at = ap position_in q ∙ packed-position p formal kind c.level target few b known low;
        in-level = ap level_in q ∙ packed-level p formal kind c.level target few b known low;
        is-formal = ap formal_in q ∙ packed-formal p formal kind c.level target few b known low;
        of-kind = ap kind_in q ∙ packed-kind p formal kind c.level target few b known low;
        leads = ap target_in q ∙ packed-target p formal kind c.level target few b known low;
      }

  formal-parts : (m : Formal) → get_elem? e.formals (pred c.position) ≡ some m → Parts 1 (kind_field m.kind) 0
  formal-parts m q = parts 1 (kind_field m.kind) 0 (omega arith) (kind-small m.kind) (formal-word es n c found e stands m q)

  declared-parts : (d : Decl) → length e.formals < c.position
      → get_elem? (block_decls e.text) (pred c.position - length e.formals) ≡ some d → Parts 0 (decl_kind_field d) (decl_target e.text d)
  declared-parts d h q = parts 0 (decl_kind_field d) (decl_target e.text d) (omega arith) (decl-kind-small d) (declared-word es n c found e stands d h q)

  pub name-is : NameIs (name_word es n) c e
  unfolding Parts
  name-is =
      record {
        position = (go (ltb (length e.formals) c.position) refl).0;
        level = (go (ltb (length e.formals) c.position) refl).1;
        formal = λ h. let m = formal-there es n c found e stands h in (formal-parts m.0 m.1).is-formal;
        declared = λ h. let d = decl-there es n c found e stands h in (declared-parts d.0 h d.1).is-formal;
        formal-kind = λ m q. (formal-parts m q).of-kind;
        formal-target = λ h. let m = formal-there es n c found e stands h in (formal-parts m.0 m.1).leads;
        declared-kind = λ d h q. (declared-parts d h q).of-kind;
        declared-target = λ d h q. (declared-parts d h q).leads;
      }
    where
      go : (b : Bool) → ltb (length e.formals) c.position ≡ b → (position_in (name_word es n) ≡ pred c.position) × (level_in (name_word es n) ≡ c.level)
      go true k =
          let h : length e.formals < c.position = ltb-true (length e.formals) c.position k in
          let d = decl-there es n c found e stands h in
          let r = declared-parts d.0 h d.1 in
          (r.at, r.in-level)
      go false k =
          let m = formal-there es n c found e stands (ltb-false (length e.formals) c.position k) in
          let r = formal-parts m.0 m.1 in
          (r.at, r.in-level)
