-- What a name's word says of the own names of a block around it. In text inside block e, with the blocks es around it, let w be the word of a
-- name n. Where w has e's level, n is the name of e at w's position, so that it reads as e's value there (`own-reads`); it is a formal exactly
-- where w is not direct (`own-formal`). Where w has a lower level, e has no such name (`own-hidden`).
use Rattle.std.specs.Prelude.{ℕ, suc, pred, ◌-◌, ◌≤◌, ◌<◌, true, false, List, [], ◌∷◌, ◌++◌, ◌↔◌, ◌≡◌, refl, eqb, ltb, length, get_or}
use Rattle.std.proofs.Common.{arith, sym, ap, ◌∙◌, eq-eqb, ne_eqb, ltb-true, ltb-false, length-append}
use Rattle.std.proofs.Math.Option.{Option, none, some}
use Rattle.std.proofs.Math.ListN.{get_elem?}
use Rattle.language.specs.Basics.{lookup, zip}
use Rattle.language.specs.Text.{Decl, block_decls}
use Rattle.laws.specs.Tests.{split, never, by-lookup, none≢some, some_inj}
use Rattle.laws.specs.Lists.{get_elem-seam}
use Rattle.laws.specs.Lookup.{lookup-here, lookup-there}
use Rattle.frames.specs.Frame.{position_from}
use Rattle.coordinates.specs.Enclosure.{Enclosing, Enclosure, Coordinate, names_of, coordinate_of, at_level}
use Rattle.coordinates.proofs.Search.{coordinate-here, coordinate-further}
use Rattle.coordinates.proofs.Declared.{coordinate-declares, level-at}
use Rattle.resolved.specs.Resolved.{position_in, formal_in, level_in, target_in, direct, decl_target, name_word}
use Rattle.resolved.proofs.NameWords.{word_none, position-bounds, Narrow, name-is}

-- The own names of one block

coordinate-own : (inner : Enclosure) (e : Enclosing) (es : Enclosure) (n : ℕ) (c : Coordinate) → coordinate_of (inner ++ (e ∷ es)) n ≡ some c
    → c.level ≡ suc (length es) → position_from n 1 (names_of e) ≡ some c.position
coordinate-own [] e es n c found l =
    by-lookup (position_from n 1 (names_of e))
    (λ q. absurd (omega (arith, (coordinate-declares es n c (sym (coordinate-further e es n q) ∙ found)).high)))
    (λ p q. let k : record { level = suc (length es); position = p } ≡ c = some_inj (sym (coordinate-here e es n p q) ∙ found) in q ∙ (λ i. some (k i).position))
coordinate-own (x ∷ inner) e es n c found l =
    by-lookup (position_from n 1 (names_of x))
    (λ q. coordinate-own inner e es n c (sym (coordinate-further x (inner ++ (e ∷ es)) n q) ∙ found) l)
    (λ p q.
    let k : record { level = suc (length (inner ++ (e ∷ es))); position = p } ≡ c = some_inj (sym (coordinate-here x (inner ++ (e ∷ es)) n p q) ∙ found) in
    let z : suc (length (inner ++ (e ∷ es))) ≡ c.level = λ i. (k i).level in
    absurd (omega (arith, length-append inner (e ∷ es))))

pub coordinate-hidden : (inner : Enclosure) (e : Enclosing) (es : Enclosure) (n : ℕ) (c : Coordinate) → coordinate_of (inner ++ (e ∷ es)) n ≡ some c
    → c.level ≤ length es → position_from n 1 (names_of e) ≡ none
coordinate-hidden [] e es n c found l =
    by-lookup (position_from n 1 (names_of e)) (λ q. q)
    (λ p q.
    let k : record { level = suc (length es); position = p } ≡ c = some_inj (sym (coordinate-here e es n p q) ∙ found) in
    let z : suc (length es) ≡ c.level = λ i. (k i).level in
    absurd (omega arith))
coordinate-hidden (x ∷ inner) e es n c found l =
    by-lookup (position_from n 1 (names_of x))
    (λ q. coordinate-hidden inner e es n c (sym (coordinate-further x (inner ++ (e ∷ es)) n q) ∙ found) l)
    (λ p q.
    let k : record { level = suc (length (inner ++ (e ∷ es))); position = p } ≡ c = some_inj (sym (coordinate-here x (inner ++ (e ∷ es)) n p q) ∙ found) in
    let z : suc (length (inner ++ (e ∷ es))) ≡ c.level = λ i. (k i).level in
    absurd (omega (arith, length-append inner (e ∷ es))))

-- names with values, found by their positions

pub position_here : (n i x : ℕ) (ns : List ℕ) → eqb n x ≡ true → position_from n i (x ∷ ns) ≡ some i
unfolding position_from
position_here n i x ns q = rw (q, position_from)

pub position-there : (n i x : ℕ) (ns : List ℕ) → eqb n x ≡ false → position_from n i (x ∷ ns) ≡ position_from n (suc i) ns
unfolding position_from
position-there n i x ns q = rw (q, position_from)

pub zip-valued : (n i : ℕ) (ns vs : List ℕ) (p : ℕ) → length vs ≡ length ns → position_from n i ns ≡ some p
    → (i ≤ p) × (p - i < length ns) × (lookup n (zip ns vs) ≡ some (get_or vs (p - i) 0))
unfolding zip position_from
zip-valued n i [] vs p l q = none≢some q
zip-valued n i (x ∷ ns) [] p l q = absurd (omega arith)
zip-valued n i (x ∷ ns) (v ∷ vs) p l q =
    split (eqb n x)
    (λ t.
    let h : i ≡ p = some_inj (sym (position_here n i x ns t) ∙ q) in
    let z : 0 ≡ p - i = omega arith in
    (omega arith, omega arith, lookup-here n (x, v) (zip ns vs) t ∙ ap (λ j. some (get_or (v ∷ vs) j 0)) z))
    (λ t.
    let r = zip-valued n (suc i) ns vs p (omega arith) (sym (position-there n i x ns t) ∙ q) in
    let z : suc (p - suc i) ≡ p - i = omega (arith, r.0) in
    (omega (arith, r.0), omega (arith, r.0, r.1), lookup-there n (x, v) (zip ns vs) t ∙ r.2 ∙ ap (λ j. some (get_or (v ∷ vs) j 0)) z))

pub zip-missing : (n i : ℕ) (ns vs : List ℕ) → position_from n i ns ≡ none → lookup n (zip ns vs) ≡ none
unfolding zip lookup
zip-missing n i [] vs q = refl
zip-missing n i (x ∷ ns) [] q = refl
zip-missing n i (x ∷ ns) (v ∷ vs) q =
    split (eqb n x) (λ t. none≢some (sym q ∙ position_here n i x ns t))
    (λ t. lookup-there n (x, v) (zip ns vs) t ∙ zip-missing n (suc i) ns vs (sym (position-there n i x ns t) ∙ q))

direct_is : (w : ℕ) → formal_in w ≡ 0 → direct w ≡ true
unfolding direct
direct_is w q = eq-eqb (formal_in w) 0 q

direct-not : (w : ℕ) → formal_in w ≡ 1 → direct w ≡ false
unfolding direct
direct-not w q = ne_eqb (formal_in w) 0 (λ z. omega arith)

-- a word that is that of a name of block e
pub record Owned (e : Enclosing) (n w : ℕ) : Type 0 where
  pub at : position_from n 1 (names_of e) ≡ some (suc (position_in w))
  pub indirect : position_in w < length e.formals → direct w ≡ false
  pub declared : length e.formals ≤ position_in w → direct w ≡ true
  pub target : (d : Decl) → length e.formals ≤ position_in w
      → get_elem? (block_decls e.text) (position_in w - length e.formals) ≡ some d → target_in w ≡ decl_target e.text d

module _ (e : Enclosing) (es inner : Enclosure) (narrow : Narrow (inner ++ (e ∷ es))) (n : ℕ) where
  abbrev all : Enclosure
  all = inner ++ (e ∷ es)

  -- a word with a level has a coordinate
  coordinate-by-level : 1 ≤ level_in (name_word all n) → (c : Coordinate) × (coordinate_of all n ≡ some c) × (level_in (name_word all n) ≡ c.level)
  coordinate-by-level h =
      by-lookup (coordinate_of all n) (λ q. absurd (omega (arith, word_none all n q)))
      (λ c q. let d = coordinate-declares all n c q in (c, q, (name-is all narrow n c q d.block d.stands).level))

  stands_here : at_level all (suc (length es)) ≡ some e
  stands_here =
      let l = length-append inner (e ∷ es) in
      let z : length all - suc (length es) ≡ length inner = omega arith in
      level-at all (suc (length es)) (omega arith) (omega arith) ∙ ap (get_elem? all) z ∙ get_elem-seam inner e es

  pub owned : level_in (name_word all n) ≡ suc (length es) → Owned e n (name_word all n)
  owned l =
      let k = coordinate-by-level (omega arith) in
      let c = k.0 in
      let level : c.level ≡ suc (length es) = sym k.2 ∙ l in
      let stands = ap (at_level all) level ∙ stands_here in
      let says = name-is all narrow n c k.1 e stands in
      let bound = position-bounds all n c k.1 e stands in
      let z : c.position ≡ suc (position_in (name_word all n)) = omega (arith, says.position, bound.0) in
      record {
        at = coordinate-own inner e es n c k.1 level ∙ ap {B = Option ℕ} some z;
        indirect = λ h. direct-not (name_word all n) (says.formal (omega arith));
        declared = λ h. direct_is (name_word all n) (says.declared (omega arith));
        target = λ d h q.
            let y : pred c.position - length e.formals ≡ position_in (name_word all n) - length e.formals = omega arith in
            says.declared-target d (omega arith) (ap (get_elem? (block_decls e.text)) y ∙ q);
      }

  -- at the block's level
  pub own-formal : level_in (name_word all n) ≡ suc (length es) → (direct (name_word all n) ≡ false) ↔ (position_in (name_word all n) < length e.formals)
  own-formal l = (
    λ q. split (ltb (position_in (name_word all n)) (length e.formals)) (λ t. ltb-true (position_in (name_word all n)) (length e.formals) t)
        (λ t. never ((owned l).declared (ltb-false (position_in (name_word all n)) (length e.formals) t)) q),
    λ h. (owned l).indirect h,
  )

  module _ (vs : List ℕ) (as_many : length vs ≡ length (names_of e)) where
    pub own-within : level_in (name_word all n) ≡ suc (length es) → position_in (name_word all n) < length vs
    own-within l =
        let r = zip-valued n 1 (names_of e) vs (suc (position_in (name_word all n))) as_many (owned l).at in
        omega (arith, r.1)

    pub own-reads : level_in (name_word all n) ≡ suc (length es) → lookup n (zip (names_of e) vs) ≡ some (get_or vs (position_in (name_word all n)) 0)
    own-reads l =
        let p = position_in (name_word all n) in
        let z : suc p - 1 ≡ p = omega arith in
        (zip-valued n 1 (names_of e) vs (suc p) as_many (owned l).at).2 ∙ ap (λ j. some (get_or vs j 0)) z

  -- further out
  pub own-hidden : 1 ≤ level_in (name_word all n) → level_in (name_word all n) < suc (length es) → (vs : List ℕ) → lookup n (zip (names_of e) vs) ≡ none
  own-hidden low high vs =
      let k = coordinate-by-level low in
      zip-missing n 1 (names_of e) vs (coordinate-hidden inner e es n k.0 k.1 (omega (arith, k.2)))
