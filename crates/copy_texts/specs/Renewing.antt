-- A block entered, and what its own names then read as. `Enters`: the new activation's arguments stand in the area, its declared names go on from
-- `fresh`, and it reads its own names as these and all others as the activation around it. `renewed-own`: at the block's level a word is copied
-- as what its name reads as there; `renewed-other`: a word of any other level is copied as it stands. So a field that is as the activation around
-- reads it is copied as the new activation reads it: `field-read`.
use Rattle.std.specs.Prelude.{ℕ, zero, suc, ◌+◌, ◌-◌, ◌≤◌, ◌<◌, true, false, ◌⊎◌, ◌≡◌, eqb, ltb}
use Rattle.std.proofs.Common.{arith, inl, inr, ap₂, ◌∙◌, subst, eqb-true, leb-true, leb-false, ltb-true, ltb-false, eq-eqb, ne_eqb, le-leb, lt-ltb, le-ltb}
use Rattle.std.proofs.Math.Bool.{◌&&◌}
use mathlib.Core.List.{List, ◌∷◌, ◌++◌}
use Rattle.std.proofs.Math.Option.{none, some}
use Rattle.std.proofs.Math.Path.{sym, ap}
use Rattle.std.proofs.lemmas.Bool.{eqb-false, lt-leb}
use Rattle.std.proofs.Math.Dec.{leb}
use Rattle.std.proofs.Math.ListN.{length, get_or, get_elem?, length-append, length-map, get_or-append}
use Rattle.std.proofs.Math.Seq.{get_or-append-add}
use Rattle.language.specs.Basics.{lookup, zip, up_from}
use Rattle.language.specs.Text.{Formal, Decl, block_at, block_decls, decl_name, formal_names, declared_names}
use Rattle.language.specs.Copy.{Replacement, renamed}
use Rattle.language.specs.Machine.{Activation}
use Rattle.laws.specs.Tests.{split}
use Rattle.laws.specs.Lists.{lengths-append}
use Rattle.laws.specs.Lookup.{lookup-left, lookup-right, zip-append, length-up_from}
use Rattle.laws.specs.Renaming.{renamed-some, renamed-same}
use Rattle.frames.specs.Related.{joined}
use Rattle.coordinates.specs.Enclosure.{Enclosing, Enclosure, names_of}
use Rattle.resolved.specs.Resolved.{place_of, end_place, position_in, level_in, direct, name_word}
use Rattle.resolved.proofs.NameWords.{Narrow}
use Rattle.copy_texts.specs.Texts.{reading, renewed}
use Rattle.copy_texts.specs.Readings.{Owned, owned, own-within, own-reads, own-hidden}

-- the word of a field with what is written there, n, in the text of block e: of level 0, or that of the name n at some place in the text
abbrev pub NamesStand : Enclosing → Enclosure → ℕ → ℕ → Type 0
NamesStand e es w n = (level_in w ≡ 0) ⊎ ((inner : Enclosure) × (w ≡ name_word (inner ++ (e ∷ es)) n) × (n < 65536) × Narrow (inner ++ (e ∷ es)))

abbrev pub Inside : List ℕ → List ℕ → Enclosing → Enclosure → Type 0
Inside names fields e es = (q : ℕ) → place_of (block_at e.text) ≤ q → q < end_place e.text → NamesStand e es (get_or names q 0) (get_or fields q 0)

-- each declared name has its word somewhere in the text
abbrev pub Declared : List ℕ → Enclosing → Enclosure → Type 0
Declared names e es =
    (j : ℕ) (d : Decl) → get_elem? (block_decls e.text) j ≡ some d
    → (q : ℕ) × (place_of (block_at e.text) ≤ q) × (q < end_place e.text) × (get_or names q 0 ≡ name_word (e ∷ es) (decl_name d))

pub record Enters (area : List ℕ) (given fresh : ℕ) (e : Enclosing) (es : Enclosure) (outer : List Replacement) (new : Activation) : Type 0 where
  pub as_many : length new.arguments ≡ length e.formals
  pub handed : (i : ℕ) → i < length new.arguments → get_or area (given + i) 0 ≡ get_or new.arguments i 0
  pub new-names : declared_names new.text ≡ up_from fresh (length (block_decls e.text))
  pub above : length e.formals ≤ fresh
  pub reads-are : new.reads ≡ (zip (formal_names e.formals) new.arguments ++ zip (declared_names e.text) (declared_names new.text)) ∷ outer
  pub around : length outer ≡ length es

-- Copying one word

module _ (area : List ℕ) (given level first w old : ℕ) where
  pub renewed-other : (level_in w ≡ level → ⊥) → renewed area given level first w old ≡ old
  unfolding renewed
  renewed-other h = rw (ne_eqb (level_in w) level h, renewed)

  renewed-new : level_in w ≡ level → direct w ≡ true → renewed area given level first w old ≡ first + position_in w
  unfolding renewed
  renewed-new l d = rw (eq-eqb (level_in w) level l, renewed) (rw d)

  renewed-given : level_in w ≡ level → direct w ≡ false → renewed area given level first w old ≡ get_or area (given + position_in w) 0
  unfolding renewed
  renewed-given l d = rw (eq-eqb (level_in w) level l, renewed) (rw d)

-- The own names' values

up_from-get_d : (f c p : ℕ) → p < c → get_or (up_from f c) p 0 ≡ f + p
unfolding up_from
up_from-get_d f zero p h = absurd (omega arith)
up_from-get_d f (suc c) zero h = omega arith
up_from-get_d f (suc c) (suc p) h = omega (arith, up_from-get_d (suc f) c p (omega arith))

-- what the own names read as, in the order of their positions
unfoldable pub values_of : Activation → List ℕ
values_of a = a.arguments ++ declared_names a.text

module _ {area : List ℕ} {given fresh : ℕ} {e : Enclosing} {es : Enclosure} {outer : List Replacement} {new : Activation} (h : Enters area given fresh e es outer new) where
  formals-many : length (formal_names e.formals) ≡ length new.arguments
  unfolding formal_names
  formals-many = length-map e.formals (λ (f : Formal). f.name) ∙ sym h.as_many

  declared-many : length (declared_names e.text) ≡ length (declared_names new.text)
  unfolding declared_names
  declared-many = length-map (block_decls e.text) decl_name ∙ sym (ap length h.new-names ∙ length-up_from fresh (length (block_decls e.text)))

  pub values-many : length (values_of new) ≡ length (names_of e)
  unfolding values_of names_of
  values-many = sym (lengths-append (formal_names e.formals) (declared_names e.text) new.arguments (declared_names new.text) formals-many declared-many)

  pub reads-own : new.reads ≡ zip (names_of e) (values_of new) ∷ outer
  unfolding values_of names_of
  reads-own = h.reads-are ∙ ap (λ (σ : Replacement). σ ∷ outer) (zip-append (formal_names e.formals) new.arguments (declared_names e.text) (declared_names new.text) formals-many)

  value-given : (p : ℕ) → p < length e.formals → get_or (values_of new) p 0 ≡ get_or area (given + p) 0
  unfolding values_of
  value-given p l =
      let k : p < length new.arguments = omega (arith, h.as_many) in
      get_or-append new.arguments (declared_names new.text) 0 p k ∙ sym (h.handed p k)

  value-new : (p : ℕ) → length e.formals ≤ p → p < length (values_of new) → get_or (values_of new) p 0 ≡ fresh - length e.formals + p
  unfolding values_of
  value-new p l b =
      let as' = new.arguments in
      let many : length (declared_names new.text) ≡ length (block_decls e.text) = ap length h.new-names ∙ length-up_from fresh (length (block_decls e.text)) in
      let i = p - length as' in
      let z : p ≡ length as' + i = omega (arith, h.as_many) in
      ap (λ k. get_or (as' ++ declared_names new.text) k 0) z ∙ get_or-append-add as' (declared_names new.text) i 0 ∙ ap (λ (l : List ℕ). get_or l i 0) h.new-names
      ∙ up_from-get_d fresh (length (block_decls e.text)) i (omega (arith, h.as_many, length-append as' (declared_names new.text))) ∙ omega (arith, h.above, h.as_many)

  pub renewed-own : (n w old : ℕ) → Owned e n w → level_in w ≡ suc (length es) → position_in w < length (values_of new)
      → renewed area given (suc (length es)) (fresh - length e.formals) w old ≡ get_or (values_of new) (position_in w) 0
  renewed-own n w old o l b =
      split (ltb (position_in w) (length e.formals))
      (λ t.
      let k = ltb-true (position_in w) (length e.formals) t in
      renewed-given area given (suc (length es)) (fresh - length e.formals) w old l (o.indirect k) ∙ sym (value-given (position_in w) k))
      (λ t.
      let k = ltb-false (position_in w) (length e.formals) t in
      renewed-new area given (suc (length es)) (fresh - length e.formals) w old l (o.declared k) ∙ sym (value-new (position_in w) k b))

-- A field read in an activation

module _ (σs : List Replacement) (w n : ℕ) where
  pub reading-in : 1 ≤ level_in w → level_in w ≤ length σs → reading σs w n ≡ renamed (joined σs) n
  unfolding reading
  reading-in l h = rw (ap₂ ◌&&◌ (lt-ltb 0 (level_in w) l) (le-leb (level_in w) (length σs) h), reading)

  pub reading-plain : level_in w ≡ 0 → reading σs w n ≡ n
  unfolding reading
  reading-plain z = rw (ap (◌&& leb (level_in w) (length σs)) (le-ltb 0 (level_in w) (omega arith)), reading)

  pub reading-above : length σs < level_in w → reading σs w n ≡ n
  unfolding reading
  reading-above h = rw (ap₂ ◌&&◌ (lt-ltb 0 (level_in w) (omega arith)) (lt-leb (level_in w) (length σs) h), reading)

module _ (σ : Replacement) (σs : List Replacement) (n : ℕ) where
  -- by the nearest part
  pub renamed-near : (x : ℕ) → lookup n σ ≡ some x → renamed (joined (σ ∷ σs)) n ≡ x
  unfolding joined
  renamed-near x q = renamed-some (σ ++ joined σs) n x (lookup-left n σ (joined σs) x q)

  pub renamed-far : lookup n σ ≡ none → renamed (joined (σ ∷ σs)) n ≡ renamed (joined σs) n
  unfolding joined
  renamed-far q = renamed-same (σ ++ joined σs) (joined σs) n (lookup-right n σ (joined σs) q)

-- what the copy has is what the new activation reads, where the source has what the one around reads
module _ {area : List ℕ} {given fresh : ℕ} {e : Enclosing} {es : Enclosure} {outer : List Replacement} {new : Activation} (h : Enters area given fresh e es outer new) where
  abbrev level : ℕ
  level = suc (length es)

  abbrev own : Replacement
  own = zip (names_of e) (values_of new)

  abbrev taken : ℕ → ℕ → ℕ
  taken w old = renewed area given level (fresh - length e.formals) w old

  plain : (w n : ℕ) → level_in w ≡ 0 → taken w (reading outer w n) ≡ reading (own ∷ outer) w n
  plain w n z = renewed-other area given level (fresh - length e.formals) w (reading outer w n) (λ q. omega arith) ∙ reading-plain outer w n z ∙ sym (reading-plain (own ∷ outer) w n z)

  module _ (inner : Enclosure) (narrow : Narrow (inner ++ (e ∷ es))) (n : ℕ) where
    abbrev w : ℕ
    w = name_word (inner ++ (e ∷ es)) n

    here : level_in w ≡ level → taken w (reading outer w n) ≡ reading (own ∷ outer) w n
    here l =
        let b = own-within e es inner narrow n (values_of new) (values-many h) l in
        let found = own-reads e es inner narrow n (values_of new) (values-many h) l in
        renewed-own h n w (reading outer w n) (owned e es inner narrow n l) l b
        ∙ sym (reading-in (own ∷ outer) w n (omega arith) (omega (arith, h.around)) ∙ renamed-near own outer n (get_or (values_of new) (position_in w) 0) found)

    further : 1 ≤ level_in w → level_in w < level → taken w (reading outer w n) ≡ reading (own ∷ outer) w n
    further low high =
        renewed-other area given level (fresh - length e.formals) w (reading outer w n) (λ q. omega arith)
        ∙ reading-in outer w n low (omega (arith, h.around))
        ∙ sym (reading-in (own ∷ outer) w n low (omega (arith, h.around)) ∙ renamed-far own outer n (own-hidden e es inner narrow n low high (values_of new)))

    inward : level < level_in w → taken w (reading outer w n) ≡ reading (own ∷ outer) w n
    inward high =
        renewed-other area given level (fresh - length e.formals) w (reading outer w n) (λ q. omega arith)
        ∙ reading-above outer w n (omega (arith, h.around)) ∙ sym (reading-above (own ∷ outer) w n (omega (arith, h.around)))

    named : taken w (reading outer w n) ≡ reading (own ∷ outer) w n
    named =
        split (eqb (level_in w) 0) (λ t. plain w n (eqb-true (level_in w) 0 t))
        (λ f. split (eqb (level_in w) level) (λ t. here (eqb-true (level_in w) level t))
        (λ g. split (leb (level_in w) level)
        (λ t. let x = leb-true (level_in w) level t in further (omega (arith, eqb-false (level_in w) 0 f)) (omega (arith, eqb-false (level_in w) level g)))
        (λ t. inward (leb-false (level_in w) level t))))

  -- one field
  pub field-read : (w n : ℕ) → NamesStand e es w n → taken w (reading outer w n) ≡ reading new.reads w n
  field-read w n c = by c ∙ ap (λ (σs : List Replacement). reading σs w n) (sym (reads-own h))
    where
      by : NamesStand e es w n → taken w (reading outer w n) ≡ reading (own ∷ outer) w n
      by (inl z) = plain w n z
      by (inr k) = subst (λ x. taken x (reading outer x n) ≡ reading (own ∷ outer) x n) (sym k.1) (named k.0 k.3 n)
