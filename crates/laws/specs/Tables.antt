-- Laws of the membership table: the two words of a place, one pair more at the front and one place more at the end, and the length, which
-- adding a pair and taking one out keep.
use Rattle.std.specs.Prelude.{ℕ, zero, suc, ◌+◌, ◌*◌, ◌≤◌, Bool, true, false, ◌&&◌, cond, List, [], ◌∷◌, ◌≡◌, refl, ℤ, pos, length, get_or, set}
use Rattle.std.proofs.Common.{arith, sym, ap, ◌∙◌, length-set, length-append, length-take, length-drop, ltb-false}
use Rattle.std.proofs.Math.Option.{Option, none, some}
use Rattle.language.specs.Basics.{eq_z}
use Rattle.language.specs.Table.{Table, find, members, full, add, take_out}
use Rattle.laws.specs.Lists.{twice-suc, twice-suc-one}

-- the two words of place i, from 0
abbrev pub group_at : ℕ → List ℤ → ℤ
group_at i ws = get_or ws (2 * i) (pos 0)

abbrev pub member_at : ℕ → List ℤ → ℤ
member_at i ws = get_or ws (2 * i + 1) (pos 0)

pub group_at-suc : (i : ℕ) (a b : ℤ) (ws : List ℤ) → group_at (suc i) (a ∷ b ∷ ws) ≡ group_at i ws
group_at-suc i a b ws = rw twice-suc

pub member_at-suc : (i : ℕ) (a b : ℤ) (ws : List ℤ) → member_at (suc i) (a ∷ b ∷ ws) ≡ member_at i ws
member_at-suc i a b ws = rw twice-suc-one

-- whether place i holds the pair (g, m)
abbrev pub pair_is : ℤ → ℤ → ℕ → List ℤ → Bool
pair_is g m i ws = eq_z (group_at i ws) g && eq_z (member_at i ws) m

-- ---- find

-- the first place of two: the pair at the front, then what is found after it
abbrev pub front : Bool → Option ℕ → Option ℕ
front t o = elim t [ true ↦ some 0 | false ↦ elim o [ none ↦ none | some i ↦ some (suc i) ] ]

-- what is found before place k, else k itself
abbrev pub or_else : Option ℕ → Bool → ℕ → Option ℕ
or_else none t k = cond t (some k) none
or_else (some i) t k = some i

pub find-zero : (g m : ℤ) (ws : List ℤ) → find g m 0 ws ≡ none
unfolding find
find-zero g m ws = refl

pub find-front : (g m : ℤ) (k : ℕ) (a b : ℤ) (ws : List ℤ) → find g m (suc k) (a ∷ b ∷ ws) ≡ front (eq_z a g && eq_z b m) (find g m k ws)
unfolding find
find-front g m k a b ws = refl

front-or_else : (t u : Bool) (r : Option ℕ) (i : ℕ) → front t (or_else r u i) ≡ or_else (front t r) u (suc i)
front-or_else true u r i = refl
front-or_else false true none i = refl
front-or_else false false none i = refl
front-or_else false u (some j) i = refl

find-only : (g m : ℤ) (vs ws : List ℤ) (t : Bool) → front t (find g m 0 ws) ≡ or_else (find g m 0 vs) t 0
unfolding find
find-only g m vs ws true = refl
find-only g m vs ws false = refl

-- one place more: found before it, or there, or not at all
pub find-next : (g m : ℤ) (k : ℕ) (ws : List ℤ) → 2 * suc k ≤ length ws → find g m (suc k) ws ≡ or_else (find g m k ws) (pair_is g m k ws) k
find-next g m k [] h = absurd (omega arith)
find-next g m k (a ∷ []) h = absurd (omega arith)
find-next g m zero (a ∷ b ∷ ws) h = find-front g m 0 a b ws ∙ find-only g m (a ∷ b ∷ ws) ws (eq_z a g && eq_z b m)
find-next g m (suc k) (a ∷ b ∷ ws) h =
    find-front g m (suc k) a b ws ∙ ap (front (eq_z a g && eq_z b m)) (find-next g m k ws (omega arith)) ∙ front-or_else (eq_z a g && eq_z b m) (pair_is g m k ws) (find g m k ws) k ∙
    sym (rw (group_at-suc, member_at-suc, find-front g m k a b ws) refl)

-- ---- members

-- 1 where place i is of group g, else 0
abbrev pub counts : ℤ → ℕ → List ℤ → ℕ
counts g i ws = cond (eq_z (group_at i ws) g) 1 0

pub members-zero : (g : ℤ) (ws : List ℤ) → members g 0 ws ≡ 0
unfolding members
members-zero g ws = refl

pub members-front : (g : ℤ) (k : ℕ) (a b : ℤ) (ws : List ℤ) → members g (suc k) (a ∷ b ∷ ws) ≡ members g k ws + cond (eq_z a g) 1 0
unfolding members
members-front g k a b ws = go (eq_z a g) (members g k ws)
  where
    go : (t : Bool) (n : ℕ) → elim t as (λ x. ℕ) [ true ↦ suc n | false ↦ n ] ≡ n + cond t 1 0
    go true n = omega arith
    go false n = omega arith

pub members-next : (g : ℤ) (k : ℕ) (ws : List ℤ) → 2 * suc k ≤ length ws → members g (suc k) ws ≡ members g k ws + counts g k ws
members-next g k [] h = absurd (omega arith)
members-next g k (a ∷ []) h = absurd (omega arith)
members-next g zero (a ∷ b ∷ ws) h = members-front g 0 a b ws ∙ ap (λ (n : ℕ). n + cond (eq_z a g) 1 0) (members-zero g ws ∙ sym (members-zero g (a ∷ b ∷ ws)))
members-next g (suc k) (a ∷ b ∷ ws) h =
    rw (group_at-suc k a b ws) (omega (arith, members-front g (suc k) a b ws, members-next g k ws (omega arith), members-front g k a b ws))

pub members-within : (g : ℤ) (k : ℕ) (ws : List ℤ) → members g k ws ≤ k
unfolding members
members-within g zero ws = omega arith
members-within g (suc k) [] = omega arith
members-within g (suc k) (a ∷ []) = omega arith
members-within g (suc k) (a ∷ b ∷ ws) = rw (members-front g k a b ws) (go (eq_z a g) (members-within g k ws))
  where
    go : (t : Bool) {n : ℕ} → n ≤ k → n + cond t 1 0 ≤ suc k
    go true h = omega arith
    go false h = omega arith

-- ---- take_out

pub take_out-length : (i k : ℕ) (ws : List ℤ) → length (take_out i k ws) ≡ length ws
unfolding take_out
take_out-length i zero ws = refl
take_out-length i (suc k) [] = refl
take_out-length i (suc k) (a ∷ []) = refl
take_out-length zero (suc k) (a ∷ b ∷ ws) = simp (length-append, length-take, length-drop) (omega arith)
take_out-length (suc i) (suc k) (a ∷ b ∷ ws) = ap (λ (n : ℕ). suc (suc n)) (take_out-length i k ws)

-- ---- add

pub full-room : (t : Table) → full t ≡ false → 2 * suc t.used ≤ length t.words
unfolding full
full-room t e = ltb-false (length t.words) (2 * suc t.used) e

pub add-length : (g m : ℤ) (t : Table) → length (add g m t).words ≡ length t.words
unfolding add
add-length g m t = length-set (set t.words (2 * t.used) g) (suc (2 * t.used)) m ∙ length-set t.words (2 * t.used) g

pub add-used : (g m : ℤ) (t : Table) → (add g m t).used ≡ suc t.used
unfolding add
add-used g m t = refl
