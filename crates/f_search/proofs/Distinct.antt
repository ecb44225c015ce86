-- No two declarations or formals of a script have one number: `numbers-distinct`. `numbers-listed`: the list leaves none out. `number-settles`: a number
-- settles its block, what encloses it, and the position there.
use Rattle.std.specs.Prelude.{ℕ, zero, suc, pred, ◌+◌, ◌*◌, ◌/◌, ◌≤◌, ◌<◌, ◌⊎◌, ◌≢◌, ◌≡◌, length}
use Rattle.std.proofs.Common.{arith, inl, inr, subst}
use mathlib.Core.List.Memᴰ
use mathlib.Core.List.{List, [], ◌∷◌, ◌++◌, Memᴰ}
use Rattle.std.proofs.Math.Option.{some}
use Rattle.std.proofs.Math.Path.{refl}
use Rattle.std.proofs.Math.ListN.{get_elem?}
use Rattle.language.specs.Basics.{up_from}
use Rattle.language.specs.Text.{Formal, Block, block, Decl, VR, LB, PR, Stmt, BK, DO, Decls, no-decl, decl, Stmts, no-stmt, stmt, decls, stmts, block_at, block_decls, block_stmts}
use Rattle.language.specs.Encoding.{block_fields}
use Rattle.laws.specs.Each.{Each, each_map, each_append}
use Rattle.laws.specs.Distinct.{Distinct}
use Rattle.grammar.specs.Rules.{Keeps}
use Rattle.coordinates.specs.Enclosure.{Enclosing, enclosed, Enclosure, as-block, as-body, whole, Encloses, names_of}
use Rattle.coordinates.proofs.Levels.{enclosure-names}
use Rattle.coordinates.proofs.Index.{is_block, is-action, Entry, index_block, index_decl, index_stmt, index_decls, index_stmts, index_of, block_listed, Span, index-rises}
use Rattle.resolved.proofs.Places.{even-block, place-settled}
use Rattle.f_search.specs.Numbers.{first_number, entry_numbers, index_numbers, numbers_of}

-- The index lists only blocks that the script has, each at its offset

abbrev Listed : Block → Entry → Type 0
Listed t (at, is_block []) = ⊥
Listed t (at, is_block (e ∷ es)) = (at ≡ block_at e.text) × Encloses t (e ∷ es)
Listed t (at, is-action es a) = Unit {0}

module _ (t : Block) where
  -- the declarations, or statements, of a list are among those of a block
  abbrev Declares : Block → Decls → Type 0
  Declares b ds = (i : ℕ) (d : Decl) → get_elem? (decls ds) i ≡ some d → (j : ℕ) × (get_elem? (block_decls b) j ≡ some d)

  abbrev States : Block → Stmts → Type 0
  States b ss = (i : ℕ) (s : Stmt) → get_elem? (stmts ss) i ≡ some s → (j : ℕ) × (get_elem? (block_stmts b) j ≡ some s)

  mutual
    unfolding index_block block_at block_decls block_stmts decls stmts

    listed-block : (b : Block) (fs : List Formal) (es : Enclosure) → Encloses t (enclosed fs b ∷ es) → Each (Listed t) (index_block b fs es)
    listed-block (block at ds ss) fs es w =
        let o = enclosed fs (block at ds ss) in
        ((refl, w), each_append (Listed t) (index_decls ds (o ∷ es)) (index_stmts ss (o ∷ es)) (listed-decls ds o es w (λ i d q. (i, q))) (listed-stmts ss o es w (λ i s q. (i, q))))

    listed-decl : (d : Decl) (o : Enclosing) (es : Enclosure) → Encloses t (o ∷ es) → (j : ℕ) → get_elem? (block_decls o.text) j ≡ some d → Each (Listed t) (index_decl d (o ∷ es))
    listed-decl (VR at n) o es w j q = tt
    listed-decl (LB at n i) o es w j q = tt
    listed-decl (PR at n fs b) o es w j q = listed-block b fs (o ∷ es) (as-body j at n q, w)

    listed-stmt : (s : Stmt) (o : Enclosing) (es : Enclosure) → Encloses t (o ∷ es) → (j : ℕ) → get_elem? (block_stmts o.text) j ≡ some s → Each (Listed t) (index_stmt s (o ∷ es))
    listed-stmt (BK b) o es w j q = listed-block b [] (o ∷ es) (as-block j q refl, w)
    listed-stmt (DO at a) o es w j q = (tt, tt)

    listed-decls : (ds : Decls) (o : Enclosing) (es : Enclosure) → Encloses t (o ∷ es) → Declares o.text ds → Each (Listed t) (index_decls ds (o ∷ es))
    listed-decls no-decl o es w h = tt
    listed-decls (decl d ds) o es w h =
        let x = h 0 d refl in
        each_append (Listed t) (index_decl d (o ∷ es)) (index_decls ds (o ∷ es)) (listed-decl d o es w x.0 x.1) (listed-decls ds o es w (λ i e q. h (suc i) e q))

    listed-stmts : (ss : Stmts) (o : Enclosing) (es : Enclosure) → Encloses t (o ∷ es) → States o.text ss → Each (Listed t) (index_stmts ss (o ∷ es))
    listed-stmts no-stmt o es w h = tt
    listed-stmts (stmt s ss) o es w h =
        let x = h 0 s refl in
        each_append (Listed t) (index_stmt s (o ∷ es)) (index_stmts ss (o ∷ es)) (listed-stmt s o es w x.0 x.1) (listed-stmts ss o es w (λ i e q. h (suc i) e q))

  listed-all : Each (Listed t) (index_of t)
  unfolding index_of whole
  listed-all = listed-block t [] [] refl

-- Numbers in rising order, from lo on and before hi

abbrev Rises : ℕ → ℕ → List ℕ → Type 0
Rises lo hi [] = lo ≤ hi
Rises lo hi (x ∷ xs) = (lo ≤ x) × Rises (suc x) hi xs

rises-within : (lo lo' hi hi' : ℕ) (xs : List ℕ) → lo ≤ lo' → hi' ≤ hi → Rises lo' hi' xs → Rises lo hi xs
rises-within lo lo' hi hi' [] p q s = omega arith
rises-within lo lo' hi hi' (x ∷ xs) p q s = (omega (arith, s.0), rises-within (suc x) (suc x) hi hi' xs (omega arith) q s.1)

rises-append : (lo mid hi : ℕ) (xs ys : List ℕ) → Rises lo mid xs → Rises mid hi ys → Rises lo hi (xs ++ ys)
rises-append lo mid hi [] ys s r = rises-within lo mid hi hi ys s (omega arith) r
rises-append lo mid hi (x ∷ xs) ys s r = (s.0, rises-append (suc x) mid hi xs ys s.1 r)

rises-above : (lo hi : ℕ) (xs : List ℕ) → Rises lo hi xs → Each (λ x. lo ≤ x) xs
rises-above lo hi [] s = tt
rises-above lo hi (x ∷ xs) s = (s.0, each_map (λ y. suc x ≤ y) (λ y. lo ≤ y) xs (λ y h. omega (arith, s.0)) (rises-above (suc x) hi xs s.1))

rises-distinct : (lo hi : ℕ) (xs : List ℕ) → Rises lo hi xs → Distinct xs
rises-distinct lo hi [] s = tt
rises-distinct lo hi (x ∷ xs) s = (each_map (λ y. suc x ≤ y) (λ y. x ≢ y) xs (λ y h e. omega arith) (rises-above (suc x) hi xs s.1), rises-distinct (suc x) hi xs s.1)

from-rises : (x m : ℕ) → Rises x (x + m) (up_from x m)
unfolding up_from
from-rises x zero = omega arith
from-rises x (suc m) =
    let e : suc x + m ≡ x + suc m = omega arith in
    (omega arith, subst (λ h. Rises (suc x) h (up_from (suc x) m)) e (from-rises (suc x) m))

-- The numbers of an entry lie between its offset and the next even one, 16 to a byte

-- the first number that a block from an offset on can have
abbrev first_from : ℕ → ℕ
first_from at = 32 * (suc at / 2)

entry-rises : (t : Block) → Keeps t → (x : Entry) → Listed t x → (lo : ℕ) → lo ≤ x.0 → Rises (first_from lo) (first_from (suc x.0)) (entry_numbers x)
unfolding entry_numbers first_number
entry-rises t keeps (at, is_block []) h lo l = absurd h
entry-rises t keeps (at, is_block (e ∷ es)) h lo l =
    let few = enclosure-names t keeps e es h.1 in
    let even = even-block t keeps e es h.1 in
    let n = length (names_of e) in
    rises-within (first_from lo) (first_number e) (first_from (suc at)) (first_number e + n) (up_from (first_number e) n) (omega (arith, h.0)) (omega (arith, h.0)) (from-rises (first_number e) n)
entry-rises t keeps (at, is-action es a) h lo l = omega arith

index-numbers-rise : (t : Block) → Keeps t → (lo hi : ℕ) (xs : List Entry) → Span lo hi xs → Each (Listed t) xs → Rises (first_from lo) (first_from hi) (index_numbers xs)
unfolding index_numbers
index-numbers-rise t keeps lo hi [] s h = omega arith
index-numbers-rise t keeps lo hi (x ∷ xs) s h =
    rises-append (first_from lo) (first_from (suc x.0)) (first_from hi) (entry_numbers x) (index_numbers xs) (entry-rises t keeps x h.0 lo s.0) (index-numbers-rise t keeps (suc x.0) hi xs s.1 h.1)

-- The theorems

pub numbers-distinct : (t : Block) → Keeps t → Distinct (numbers_of t)
unfolding numbers_of
numbers-distinct t keeps =
    let hi = 0 + 2 * length (block_fields t) in
    rises-distinct (first_from 0) (first_from hi) (numbers_of t) (index-numbers-rise t keeps 0 hi (index_of t) (index-rises t keeps) (listed-all t))

from-listed : (x m i : ℕ) → i < m → Memᴰ (x + i) (up_from x m)
unfolding up_from
from-listed x zero i h = absurd (omega arith)
from-listed x (suc m) zero h = let e : x + 0 ≡ x = omega arith in Memᴰ.head e
from-listed x (suc m) (suc i) h =
    let e : suc x + i ≡ x + suc i = omega arith in
    Memᴰ.tail (subst (λ y. Memᴰ y (up_from (suc x) m)) e (from-listed (suc x) m i (omega arith)))

entry_listed : (x : Entry) (n : ℕ) (xs : List Entry) → Memᴰ x xs → Memᴰ n (entry_numbers x) → Memᴰ n (index_numbers xs)
unfolding index_numbers
entry_listed x n [] m h = absurd (Memᴰ.not-nil m)
entry_listed x n (y ∷ ys) m h = go (entry_listed x n ys) (Memᴰ.cases_cons m)
  where
    go : (Memᴰ x ys → Memᴰ n (entry_numbers x) → Memᴰ n (index_numbers ys)) → (x ≡ y) ⊎ Memᴰ x ys → Memᴰ n (entry_numbers y ++ index_numbers ys)
    go r (inl e) = Memᴰ.append_left (index_numbers ys) (subst (λ (z : Entry). Memᴰ n (entry_numbers z)) e h)
    go r (inr k) = Memᴰ.append_right (entry_numbers y) (r k h)

pub numbers-listed : (t : Block) (e : Enclosing) (es : Enclosure) → Encloses t (e ∷ es) → (p : ℕ) → 1 ≤ p → p ≤ length (names_of e) → Memᴰ (first_number e + pred p) (numbers_of t)
unfolding numbers_of entry_numbers
numbers-listed t e es w p low high =
    entry_listed (block_at e.text, is_block (e ∷ es)) (first_number e + pred p) (index_of t) (block_listed t e es w) (from-listed (first_number e) (length (names_of e)) (pred p) (omega arith))

pub number-settles : (t : Block) → Keeps t → (e : Enclosing) (es : Enclosure) → Encloses t (e ∷ es) → (e' : Enclosing) (es' : Enclosure) → Encloses t (e' ∷ es')
    → (p p' : ℕ) → p < 32 → p' < 32 → first_number e + p ≡ first_number e' + p' → (◌≡◌ {A = Enclosure} (e ∷ es) (e' ∷ es')) × (p ≡ p')
unfolding first_number
number-settles t keeps e es w e' es' w' p p' l l' q = (place-settled t keeps e es w e' es' w' (omega arith), omega arith)
