-- The definitions go through a table from its first pair. These laws say them of one pair more at the end, as a loop reads them.
use Prim.Native.Nat.{ℕ, zero, suc, ◌+◌, ◌*◌, ◌/◌, ◌<◌, ◌≤◌, min}
use mathlib.Core.Path.{◌≡◌, refl, sym, ◌∙◌, ap}
use mathlib.Core.Bool.{Bool, true, false, ◌&&◌, ◌||◌}
use mathlib.Core.List.{List, [], ◌∷◌}
use mathlib.Core.Option.{Option, none, some}
use native.Mathlib.Omega.{arith}
use borrow.Author.Tests.{lt-ltb}
use lib.Dec.{ltb}
use lib.IntN.{ℤ}
use lib.ListN.{length}
use Rattle.language.specs.Basics.{eq_z}
use Rattle.language.specs.Table.{find, is_some}
use Rattle.laws.specs.Tables.{pair_is, front, or_else, find-front, find-next}
use Rattle.table_search.specs.Places.{among_pairs}

-- The list has a pair at place i.
pub data Room : ℕ → List ℤ → Type 0 where
  here : {a b : ℤ} {ws : List ℤ} → Room zero (a ∷ b ∷ ws)
  next : {i : ℕ} {a b : ℤ} {ws : List ℤ} → Room i ws → Room (suc i) (a ∷ b ∷ ws)

pub room : (i : ℕ) (ws : List ℤ) → 2 * i + 1 < length ws → Room i ws
room i [] h = absurd (omega arith)
room i (a ∷ []) h = absurd (omega arith)
room zero (a ∷ b ∷ ws) h = here
room (suc i) (a ∷ b ∷ ws) h = next (room i ws (omega arith))

pub room_fits : {i : ℕ} {ws : List ℤ} → Room i ws → 2 * suc i ≤ length ws
room_fits here = omega arith
room_fits (next r) = let h = room_fits r in omega arith

-- ---- find

pub find-fresh : (g m : ℤ) {i : ℕ} {ws : List ℤ} → Room i ws → find g m i ws ≡ none → pair_is g m i ws ≡ false → find g m (suc i) ws ≡ none
find-fresh g m {i} {ws} r e f = find-next g m i ws (room_fits r) ∙ rw (e, f)

stays : (t : Bool) (r q : Option ℕ) → ((j : ℕ) → r ≡ some j → q ≡ some j) → (j : ℕ) → front t r ≡ some j → front t q ≡ some j
stays true r q h j e = e
stays false none q h j e = absurd (let z : ◌≡◌ {A = ℕ} 0 1 = cc in omega arith)
stays false (some i) q h j e = rw (h i refl) e

-- what is found among fewer pairs is found among more
pub find-stays : (g m : ℤ) (i n : ℕ) (ws : List ℤ) (j : ℕ) → i ≤ n → find g m i ws ≡ some j → find g m n ws ≡ some j
unfolding find
find-stays g m zero n ws j h e = absurd (let z : ◌≡◌ {A = ℕ} 0 1 = cc in omega arith)
find-stays g m (suc i) zero ws j h e = absurd (omega arith)
find-stays g m (suc i) (suc n) [] j h e = e
find-stays g m (suc i) (suc n) (a ∷ []) j h e = e
find-stays g m (suc i) (suc n) (a ∷ b ∷ ws) j h e =
    find-front g m n a b ws ∙
    stays (eq_z a g && eq_z b m) (find g m i ws) (find g m n ws) (λ k q. find-stays g m i n ws k (omega arith) q) j
    (sym (find-front g m i a b ws) ∙ e)

pub find-hit : (g m : ℤ) {i : ℕ} {ws : List ℤ} (n : ℕ) → Room i ws → find g m i ws ≡ none → pair_is g m i ws ≡ true → i < n → find g m n ws ≡ some i
find-hit g m {i} {ws} n r e f h = find-stays g m (suc i) n ws i h (find-next g m i ws (room_fits r) ∙ rw (e, f))

-- ---- several pairs compared at once

not_some : (o : Option ℕ) → is_some o ≡ false → o ≡ none
unfolding is_some
not_some none e = refl
not_some (some i) e = absurd (let z : ◌≡◌ {A = Bool} true false = e in let y : ◌≡◌ {A = ℕ} 0 1 = cc in omega arith)

or-true : (b : Bool) → (b || true) ≡ true
or-true true = refl
or-true false = refl

or-false : (b : Bool) → (b || false) ≡ b
or-false true = refl
or-false false = refl

or-or : (a b c : Bool) → ((a || b) || c) ≡ (a || (b || c))
or-or true b c = refl
or-or false b c = refl

-- hits among the j pairs from place i on, and one pair more
module _ (g m : ℤ) (i j : ℕ) (ws : List ℤ) {h k : ℕ} where
  pub hits_more : pair_is g m (i + j) ws ≡ true → k ≡ suc h → ltb 0 k ≡ among_pairs g m i (suc j) ws
  unfolding among_pairs
  hits_more f e = lt-ltb 0 k (omega arith) ∙ sym (ap (among_pairs g m i j ws ||◌) f ∙ or-true (among_pairs g m i j ws))

  pub hits-same : pair_is g m (i + j) ws ≡ false → k ≡ h → ltb 0 h ≡ among_pairs g m i j ws → ltb 0 k ≡ among_pairs g m i (suc j) ws
  unfolding among_pairs
  hits-same f e q = ap (ltb 0) e ∙ q ∙ sym (ap (among_pairs g m i j ws ||◌) f ∙ or-false (among_pairs g m i j ws))

or-else : (o : Option ℕ) (t : Bool) (k : ℕ) → is_some (or_else o t k) ≡ (is_some o || t)
unfolding is_some
or-else none true k = refl
or-else none false k = refl
or-else (some i) t k = refl

-- k pairs more: found before them, or one of them
pub found_among :
    (g m : ℤ) (i k : ℕ) (ws : List ℤ) → 2 * (i + k) ≤ length ws → is_some (find g m (i + k) ws) ≡ (is_some (find g m i ws) || among_pairs g m i k ws)
unfolding among_pairs
found_among g m i zero ws h =
    let e : i + 0 ≡ i = omega arith in
    ap (λ (n : ℕ). is_some (find g m n ws)) e ∙ sym (or-false (is_some (find g m i ws)))
found_among g m i (suc k) ws h =
    let e : i + suc k ≡ suc (i + k) = omega arith in
    ap (λ (n : ℕ). is_some (find g m n ws)) e ∙ ap is_some (find-next g m (i + k) ws (omega arith)) ∙
    or-else (find g m (i + k) ws) (pair_is g m (i + k) ws) (i + k) ∙ ap (◌|| pair_is g m (i + k) ws) (found_among g m i k ws (omega arith)) ∙
    or-or (is_some (find g m i ws)) (among_pairs g m i k ws) (pair_is g m (i + k) ws)

module _ (g m : ℤ) (i k : ℕ) (ws : List ℤ) (h : 2 * (i + k) ≤ length ws) where
  pub found-there : among_pairs g m i k ws ≡ true → is_some (find g m (i + k) ws) ≡ true
  found-there e = found_among g m i k ws h ∙ ap (is_some (find g m i ws) ||◌) e ∙ or-true (is_some (find g m i ws))

  pub found_before : among_pairs g m i k ws ≡ false → is_some (find g m (i + k) ws) ≡ is_some (find g m i ws)
  found_before e = found_among g m i k ws h ∙ ap (is_some (find g m i ws) ||◌) e ∙ or-false (is_some (find g m i ws))

  pub still-none : find g m i ws ≡ none → among_pairs g m i k ws ≡ false → find g m (i + k) ws ≡ none
  unfolding is_some
  still-none e f = not_some (find g m (i + k) ws) (found_before f ∙ ap is_some e)

-- ---- the words end before the count

fewer-pairs : (k l : ℕ) → min (suc k) (suc (suc l) / 2) ≡ suc (min k (l / 2))
fewer-pairs k l = omega arith

none-fit : (k l : ℕ) → l < 2 → min k (l / 2) ≡ 0
none-fit k l h = omega arith

pub find-clamped : (g m : ℤ) (k : ℕ) (ws : List ℤ) → find g m (min k (length ws / 2)) ws ≡ find g m k ws
unfolding find
find-clamped g m zero ws = rw (zero-fit (length ws / 2))
  where
    zero-fit : (l : ℕ) → min 0 l ≡ 0
    zero-fit l = omega arith
find-clamped g m (suc k) [] = rw (none-fit (suc k) 0 (omega arith))
find-clamped g m (suc k) (a ∷ []) = rw (none-fit (suc k) 1 (omega arith))
find-clamped g m (suc k) (a ∷ b ∷ ws) =
    rw (fewer-pairs k (length ws)) (find-front g m (min k (length ws / 2)) a b ws ∙ ap (front (eq_z a g && eq_z b m)) (find-clamped g m k ws) ∙ sym (find-front g m k a b ws))

front_below : (t : Bool) (r : Option ℕ) (k : ℕ) → ((j : ℕ) → r ≡ some j → j < k) → (j : ℕ) → front t r ≡ some j → j < suc k
front_below true r k h j e = let z : 0 ≡ j = cc in omega arith
front_below false none k h j e = absurd (let z : ◌≡◌ {A = ℕ} 0 1 = cc in omega arith)
front_below false (some i) k h j e = let z : suc i ≡ j = cc in omega (arith, h i refl)

-- a pair is found among those looked at
pub find-below : (g m : ℤ) (k : ℕ) (ws : List ℤ) (j : ℕ) → find g m k ws ≡ some j → j < k
unfolding find
find-below g m zero ws j e = absurd (let z : ◌≡◌ {A = ℕ} 0 1 = cc in omega arith)
find-below g m (suc k) [] j e = absurd (let z : ◌≡◌ {A = ℕ} 0 1 = cc in omega arith)
find-below g m (suc k) (a ∷ []) j e = absurd (let z : ◌≡◌ {A = ℕ} 0 1 = cc in omega arith)
find-below g m (suc k) (a ∷ b ∷ ws) j e =
    front_below (eq_z a g && eq_z b m) (find g m k ws) k (find-below g m k ws) j (sym (find-front g m k a b ws) ∙ e)
