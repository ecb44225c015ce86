-- Laws of finding a pair and of counting a group's members, for any number k of pairs that the words hold.
-- Read `At i ws g m` as: place i of the words ws, from 0, holds the pair (g, m). `find-place` says what `find` gives, `find-is` that
-- nothing else meets it; `find-next` and `members-next` of laws say what one place more gives.
use Rattle.std.specs.Prelude.{ℕ, zero, suc, ◌+◌, ◌*◌, ◌≤◌, ◌<◌, ◌≢◌, ◌⊎◌, ◌≡◌, refl, Bool, true, false, ◌&&◌, cond, List, [], ◌∷◌, leb, ℤ, length}
use Rattle.std.proofs.Common.{not-suc-le-zero, le_of_suc-le-suc, arith, inl, inr, sym, ap, ap₂, ◌∙◌, subst, true≢false, leb-true, leb-false}
use Rattle.std.proofs.Math.Bool.{and-eq-true_iff}
use Rattle.std.proofs.Math.Option.{Option, none, some}
use Rattle.language.specs.Basics.{eq_z}
use Rattle.language.specs.Table.{find, is_some, members}
use Rattle.laws.specs.Tests.{by-lookup, eq_z-refl, eq_z-true, ne-eq_z}
use Rattle.laws.specs.Tables.{group_at, member_at, group_at-suc, member_at-suc, front, counts, members-zero, members-next}

abbrev pub At : ℕ → List ℤ → ℤ → ℤ → Type 0
At i ws g m = (group_at i ws ≡ g) × (member_at i ws ≡ m)

at_up : (i : ℕ) (a b : ℤ) (ws : List ℤ) (g m : ℤ) → At i ws g m → At (suc i) (a ∷ b ∷ ws) g m
at_up i a b ws g m p = (group_at-suc i a b ws ∙ p.0, member_at-suc i a b ws ∙ p.1)

at-down : (i : ℕ) (a b : ℤ) (ws : List ℤ) (g m : ℤ) → At (suc i) (a ∷ b ∷ ws) g m → At i ws g m
at-down i a b ws g m p = (sym (group_at-suc i a b ws) ∙ p.0, sym (member_at-suc i a b ws) ∙ p.1)

-- the test of a place
pub at_true : (a b g m : ℤ) → eq_z a g && eq_z b m ≡ true → (a ≡ g) × (b ≡ m)
at_true a b g m e = let q = (and-eq-true_iff (eq_z a g) (eq_z b m)).0 e in (eq_z-true a g q.0, eq_z-true b m q.1)

pub at-false : (a b g m : ℤ) → eq_z a g && eq_z b m ≡ false → a ≡ g → b ≡ m → ⊥
at-false a b g m e p q = true≢false (sym ((and-eq-true_iff (eq_z a g) (eq_z b m)).1 (ap (λ x. eq_z x g) p ∙ eq_z-refl g, ap (λ x. eq_z x m) q ∙ eq_z-refl m)) ∙ e)

-- `FirstPlace g m k ws o`: o is the first place of (g, m) among the first k, or none where there is none
abbrev pub FirstPlace : ℤ → ℤ → ℕ → List ℤ → Option ℕ → Type 0
FirstPlace g m k ws none = (i : ℕ) → i < k → At i ws g m → ⊥
FirstPlace g m k ws (some i) = (i < k) × At i ws g m × ((j : ℕ) → j < i → At j ws g m → ⊥)

absent-up : (k : ℕ) (a b : ℤ) (ws : List ℤ) (g m : ℤ) → eq_z a g && eq_z b m ≡ false → ((i : ℕ) → i < k → At i ws g m → ⊥) → (i : ℕ) → i < suc k → At i (a ∷ b ∷ ws) g m → ⊥
absent-up k a b ws g m e h zero l p = at-false a b g m e p.0 p.1
absent-up k a b ws g m e h (suc i) l p = h i (le_of_suc-le-suc l) (at-down i a b ws g m p)

place_up : (g m : ℤ) (k : ℕ) (a b : ℤ) (ws : List ℤ) (t : Bool) → eq_z a g && eq_z b m ≡ t → (o : Option ℕ) → FirstPlace g m k ws o → FirstPlace g m (suc k) (a ∷ b ∷ ws) (front t o)
place_up g m k a b ws true e o p = (omega arith, at_true a b g m e, λ j h. absurd (not-suc-le-zero h))
place_up g m k a b ws false e none p = absent-up k a b ws g m e p
place_up g m k a b ws false e (some i) p = (omega (arith, p.0), at_up i a b ws g m p.1, absent-up i a b ws g m e p.2)

pub find-place : (g m : ℤ) (k : ℕ) (ws : List ℤ) → 2 * k ≤ length ws → FirstPlace g m k ws (find g m k ws)
unfolding find
find-place g m zero ws h = λ i l. absurd (not-suc-le-zero l)
find-place g m (suc k) [] h = absurd (omega arith)
find-place g m (suc k) (a ∷ []) h = absurd (omega arith)
find-place g m (suc k) (a ∷ b ∷ ws) h = place_up g m k a b ws (eq_z a g && eq_z b m) refl (find g m k ws) (find-place g m k ws (omega arith))

-- two numbers are one, or one is below the other
pub below_or : (i j : ℕ) → (i ≡ j) ⊎ ((i < j) ⊎ (j < i))
below_or i j = go (leb i j) refl (leb j i) refl
  where
    go : (t : Bool) → leb i j ≡ t → (u : Bool) → leb j i ≡ u → (i ≡ j) ⊎ ((i < j) ⊎ (j < i))
    go true e true f = inl (omega (arith, leb-true i j e, leb-true j i f))
    go true e false f = inr (inl (leb-false j i f))
    go false e u f = inr (inr (leb-false i j e))

-- there is one first place at most
place_same : (g m : ℤ) (k : ℕ) (ws : List ℤ) (o p : Option ℕ) → FirstPlace g m k ws o → FirstPlace g m k ws p → o ≡ p
place_same g m k ws none none a b = refl
place_same g m k ws none (some j) a b = absurd (a j b.0 b.1)
place_same g m k ws (some i) none a b = absurd (b i a.0 a.1)
place_same g m k ws (some i) (some j) a b = go (below_or i j)
  where
    go : (i ≡ j) ⊎ ((i < j) ⊎ (j < i)) → some i ≡ some j
    go (inl e) = ap {B = Option ℕ} some e
    go (inr (inl h)) = absurd (b.2 i h a.1)
    go (inr (inr h)) = absurd (a.2 j h b.1)

pub find-is : (g m : ℤ) (k : ℕ) (ws : List ℤ) (o : Option ℕ) → 2 * k ≤ length ws → FirstPlace g m k ws o → find g m k ws ≡ o
find-is g m k ws o h p = place_same g m k ws (find g m k ws) o (find-place g m k ws h) p

pub find_none : (g m : ℤ) (k : ℕ) (ws : List ℤ) → 2 * k ≤ length ws → find g m k ws ≡ none → (i : ℕ) → i < k → At i ws g m → ⊥
find_none g m k ws h e = subst (FirstPlace g m k ws) e (find-place g m k ws h)

pub find-some : (g m : ℤ) (k : ℕ) (ws : List ℤ) (i : ℕ) → 2 * k ≤ length ws → find g m k ws ≡ some i → FirstPlace g m k ws (some i)
find-some g m k ws i h e = subst (FirstPlace g m k ws) e (find-place g m k ws h)

-- absent and present, as the test of a find
pub absent : (g m : ℤ) (k : ℕ) (ws : List ℤ) → 2 * k ≤ length ws → is_some (find g m k ws) ≡ false → (i : ℕ) → i < k → At i ws g m → ⊥
unfolding is_some
absent g m k ws h = go (find g m k ws) (find-place g m k ws h)
  where
    go : (o : Option ℕ) → FirstPlace g m k ws o → is_some o ≡ false → (i : ℕ) → i < k → At i ws g m → ⊥
    go none p e = p
    go (some i) p e = absurd (true≢false e)

pub find_absent : (g m : ℤ) (k : ℕ) (ws : List ℤ) → 2 * k ≤ length ws → ((i : ℕ) → i < k → At i ws g m → ⊥) → is_some (find g m k ws) ≡ false
unfolding is_some
find_absent g m k ws h p = ap is_some (find-is g m k ws none h p)

pub find-present : (g m : ℤ) (k : ℕ) (ws : List ℤ) (i : ℕ) → 2 * k ≤ length ws → i < k → At i ws g m → is_some (find g m k ws) ≡ true
unfolding is_some
find-present g m k ws i h l p = go (find g m k ws) (find-place g m k ws h)
  where
    go : (o : Option ℕ) → FirstPlace g m k ws o → is_some o ≡ true
    go none q = absurd (q i l p)
    go (some j) q = refl

-- a place of the group counts
pub counts-one : (g : ℤ) (i : ℕ) (ws : List ℤ) → group_at i ws ≡ g → counts g i ws ≡ 1
counts-one g i ws e = ap (λ t. cond t 1 0) (ap (λ a. eq_z a g) e ∙ eq_z-refl g)

pub counts-none : (g : ℤ) (i : ℕ) (ws : List ℤ) → group_at i ws ≢ g → counts g i ws ≡ 0
counts-none g i ws e = ap (λ t. cond t 1 0) (ne-eq_z (group_at i ws) g e)

-- more places, no fewer members
pub members-more : (g : ℤ) (k : ℕ) (ws : List ℤ) → 2 * suc k ≤ length ws → members g k ws ≤ members g (suc k) ws
members-more g k ws h = omega (arith, members-next g k ws h)

-- a group with a place has a member, and one with a member has a place
pub members-at : (g : ℤ) (k : ℕ) (ws : List ℤ) (i : ℕ) → 2 * k ≤ length ws → i < k → group_at i ws ≡ g → 1 ≤ members g k ws
members-at g zero ws i h l e = absurd (not-suc-le-zero l)
members-at g (suc k) ws i h l e = go (λ b. members-at g k ws i (omega arith) b e) (below_or i k)
  where
    go : (i < k → 1 ≤ members g k ws) → (i ≡ k) ⊎ ((i < k) ⊎ (k < i)) → 1 ≤ members g (suc k) ws
    go f (inl q) = omega (arith, members-next g k ws h, counts-one g k ws (subst (λ j. group_at j ws ≡ g) q e))
    go f (inr (inl b)) = omega (arith, members-next g k ws h, f b)
    go f (inr (inr b)) = absurd (omega arith)

pub members-where : (g : ℤ) (k : ℕ) (ws : List ℤ) → 2 * k ≤ length ws → (members g k ws ≡ 0) ⊎ ((i : ℕ) × (i < k) × (group_at i ws ≡ g))
members-where g zero ws h = inl (members-zero g ws)
members-where g (suc k) ws h = go (members-where g k ws (omega arith)) (eq_z (group_at k ws) g) refl
  where
    go : (members g k ws ≡ 0) ⊎ ((i : ℕ) × (i < k) × (group_at i ws ≡ g)) → (t : Bool) → eq_z (group_at k ws) g ≡ t → (members g (suc k) ws ≡ 0) ⊎ ((i : ℕ) × (i < suc k) × (group_at i ws ≡ g))
    go (inr p) t e = inr (p.0, omega (arith, p.1), p.2)
    go (inl z) true e = inr (k, omega arith, eq_z-true (group_at k ws) g e)
    go (inl z) false e = inl (members-next g k ws h ∙ ap (λ n. n + counts g k ws) z ∙ ap (λ t. 0 + cond t 1 0) e)

-- a group with no members has no pair
pub group-none : (g m : ℤ) (k : ℕ) (ws : List ℤ) → 2 * k ≤ length ws → members g k ws ≡ 0 → find g m k ws ≡ none
group-none g m k ws h e = by-lookup (find g m k ws) (λ q. q) (λ i q. let f = find-some g m k ws i h q in absurd (omega (arith, members-at g k ws i h f.0 f.1.0)))

-- words that agree at the first k places have the same members there, and the same finds
pub members-same : (g : ℤ) (k : ℕ) (ws vs : List ℤ) → 2 * k ≤ length ws → 2 * k ≤ length vs → ((i : ℕ) → i < k → group_at i ws ≡ group_at i vs) → members g k ws ≡ members g k vs
members-same g zero ws vs h h' e = members-zero g ws ∙ sym (members-zero g vs)
members-same g (suc k) ws vs h h' e =
    members-next g k ws h ∙ ap₂ ◌+◌ (members-same g k ws vs (omega arith) (omega arith) (λ i l. e i (omega arith))) (ap (λ a. cond (eq_z a g) 1 0) (e k (omega arith))) ∙ sym (members-next g k vs h')

pub find-same : (g m : ℤ) (k : ℕ) (ws vs : List ℤ) → 2 * k ≤ length ws → 2 * k ≤ length vs → ((i : ℕ) → i < k → At i ws (group_at i vs) (member_at i vs)) → find g m k ws ≡ find g m k vs
find-same g m k ws vs h h' e = find-is g m k ws (find g m k vs) h (go (find g m k vs) (find-place g m k vs h'))
  where
    over : (i : ℕ) → i < k → At i ws g m → At i vs g m
    over i l p = (sym (e i l).0 ∙ p.0, sym (e i l).1 ∙ p.1)

    back : (i : ℕ) → i < k → At i vs g m → At i ws g m
    back i l p = ((e i l).0 ∙ p.0, (e i l).1 ∙ p.1)

    go : (o : Option ℕ) → FirstPlace g m k vs o → FirstPlace g m k ws o
    go none p = λ i l a. p i l (over i l a)
    go (some i) p = (p.0, back i p.0 p.1, λ j l a. p.2 j l (over j (omega (arith, p.0)) a))
