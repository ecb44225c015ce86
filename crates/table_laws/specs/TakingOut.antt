-- Laws of `take_out i k ws`, the pair at place i of the first k taken out: which word stands where afterwards, and how many members
-- are left. `take_out-before`, `-after`, `-freed` and `-beyond` cover every word.
use Rattle.std.specs.Prelude.{ℕ, zero, suc, ◌+◌, ◌-◌, ◌*◌, ◌≤◌, ◌<◌, ◌≡◌, refl, Bool, true, false, cond, List, [], ◌∷◌, ◌++◌, ℤ, pos, length, get_or, take, drop}
use Rattle.std.proofs.Common.{zero-le, arith, sym, ap, ◌∙◌, length-take, get_or-append-add, get_or-take, get_or-drop}
use Rattle.std.proofs.Math.ListN.{get_or-append}
use Rattle.language.specs.Basics.{eq_z}
use Rattle.language.specs.Table.{members, take_out, fewer}
use Rattle.laws.specs.Lists.{twice-suc, twice-suc-one}
use Rattle.laws.specs.Tables.{group_at, member_at, group_at-suc, counts, take_out-length}
use Rattle.table_laws.specs.Pairs.{At, members-same}

-- the words before the place stay
pub take_out-before : (i k : ℕ) (ws : List ℤ) (n : ℕ) (d : ℤ) → n < 2 * i → get_or (take_out i k ws) n d ≡ get_or ws n d
unfolding take_out
take_out-before i zero ws n d h = refl
take_out-before i (suc k) [] n d h = refl
take_out-before i (suc k) (a ∷ []) n d h = refl
take_out-before zero (suc k) (a ∷ b ∷ ws) n d h = absurd (omega arith)
take_out-before (suc i) (suc k) (a ∷ b ∷ ws) zero d h = refl
take_out-before (suc i) (suc k) (a ∷ b ∷ ws) (suc zero) d h = refl
take_out-before (suc i) (suc k) (a ∷ b ∷ ws) (suc (suc n)) d h = take_out-before i k ws n d (omega arith)

-- later words move down by one place
pub take_out-after : (i k : ℕ) (ws : List ℤ) (n : ℕ) (d : ℤ) → 2 * k ≤ length ws → 2 * i ≤ n → suc (suc n) < 2 * k → get_or (take_out i k ws) n d ≡ get_or ws (suc (suc n)) d
unfolding take_out
take_out-after i zero ws n d f h l = absurd (omega arith)
take_out-after i (suc k) [] n d f h l = absurd (omega arith)
take_out-after i (suc k) (a ∷ []) n d f h l = absurd (omega arith)
take_out-after zero (suc k) (a ∷ b ∷ ws) n d f h l =
    get_or-append (take (2 * k) ws) (pos 0 ∷ pos 0 ∷ drop (2 * k) ws) d n (simp length-take (omega arith)) ∙ get_or-take (2 * k) ws n d (omega arith)
take_out-after (suc i) (suc k) (a ∷ b ∷ ws) zero d f h l = absurd (omega arith)
take_out-after (suc i) (suc k) (a ∷ b ∷ ws) (suc zero) d f h l = absurd (omega arith)
take_out-after (suc i) (suc k) (a ∷ b ∷ ws) (suc (suc n)) d f h l = take_out-after i k ws n d (omega arith) (omega arith) (omega arith)

-- zeros stand at the last place that was in use
pub take_out-freed : (i k : ℕ) (ws : List ℤ) (n : ℕ) (d : ℤ) → 2 * k ≤ length ws → i < k → 2 * k ≤ suc (suc n) → n < 2 * k → get_or (take_out i k ws) n d ≡ pos 0
unfolding take_out
take_out-freed i zero ws n d f q h l = absurd (omega arith)
take_out-freed i (suc k) [] n d f q h l = absurd (omega arith)
take_out-freed i (suc k) (a ∷ []) n d f q h l = absurd (omega arith)
take_out-freed zero (suc k) (a ∷ b ∷ ws) n d f q h l =
    let e : length (take (2 * k) ws) ≡ 2 * k = length-take (2 * k) ws ∙ omega arith in
    let j : n ≡ length (take (2 * k) ws) + (n - 2 * k) = omega arith in
    ap (λ x. get_or (take (2 * k) ws ++ (pos 0 ∷ pos 0 ∷ drop (2 * k) ws)) x d) j ∙ get_or-append-add (take (2 * k) ws) (pos 0 ∷ pos 0 ∷ drop (2 * k) ws) (n - 2 * k) d ∙ go (n - 2 * k) (omega arith)
  where
    go : (x : ℕ) → x < 2 → get_or (pos 0 ∷ pos 0 ∷ drop (2 * k) ws) x d ≡ pos 0
    go zero o = refl
    go (suc zero) o = refl
    go (suc (suc x)) o = absurd (omega arith)
take_out-freed (suc i) (suc k) (a ∷ b ∷ ws) zero d f q h l = absurd (omega arith)
take_out-freed (suc i) (suc k) (a ∷ b ∷ ws) (suc zero) d f q h l = absurd (omega arith)
take_out-freed (suc i) (suc k) (a ∷ b ∷ ws) (suc (suc n)) d f q h l = take_out-freed i k ws n d (omega arith) (omega arith) (omega arith) (omega arith)

-- words past those in use stay
pub take_out-beyond : (i k : ℕ) (ws : List ℤ) (n : ℕ) (d : ℤ) → 2 * k ≤ length ws → 2 * k ≤ n → get_or (take_out i k ws) n d ≡ get_or ws n d
unfolding take_out
take_out-beyond i zero ws n d f h = refl
take_out-beyond i (suc k) [] n d f h = refl
take_out-beyond i (suc k) (a ∷ []) n d f h = refl
take_out-beyond zero (suc k) (a ∷ b ∷ ws) zero d f h = absurd (omega arith)
take_out-beyond zero (suc k) (a ∷ b ∷ ws) (suc zero) d f h = absurd (omega arith)
take_out-beyond zero (suc k) (a ∷ b ∷ ws) (suc (suc n)) d f h =
    let e : length (take (2 * k) ws) ≡ 2 * k = length-take (2 * k) ws ∙ omega arith in
    let j : suc (suc n) ≡ length (take (2 * k) ws) + suc (suc (n - 2 * k)) = omega arith in
    let i : 2 * k + (n - 2 * k) ≡ n = omega arith in
    ap (λ x. get_or (take (2 * k) ws ++ (pos 0 ∷ pos 0 ∷ drop (2 * k) ws)) x d) j ∙ get_or-append-add (take (2 * k) ws) (pos 0 ∷ pos 0 ∷ drop (2 * k) ws) (suc (suc (n - 2 * k))) d ∙ get_or-drop (2 * k) ws (n - 2 * k) d ∙ ap (λ x. get_or ws x d) i
take_out-beyond (suc i) (suc k) (a ∷ b ∷ ws) zero d f h = absurd (omega arith)
take_out-beyond (suc i) (suc k) (a ∷ b ∷ ws) (suc zero) d f h = absurd (omega arith)
take_out-beyond (suc i) (suc k) (a ∷ b ∷ ws) (suc (suc n)) d f h = take_out-beyond i k ws n d (omega arith) (omega arith)

-- the same, place by place
pub take_out-place-before : (i k : ℕ) (ws : List ℤ) (j : ℕ) → j < i → At j (take_out i k ws) (group_at j ws) (member_at j ws)
take_out-place-before i k ws j h = (take_out-before i k ws (2 * j) (pos 0) (omega arith), take_out-before i k ws (2 * j + 1) (pos 0) (omega arith))

pub take_out-place-after : (i k : ℕ) (ws : List ℤ) (j : ℕ) → 2 * k ≤ length ws → i ≤ j → suc j < k → At j (take_out i k ws) (group_at (suc j) ws) (member_at (suc j) ws)
take_out-place-after i k ws j f h l =
    (take_out-after i k ws (2 * j) (pos 0) f (omega arith) (omega arith) ∙ ap (λ n. get_or ws n (pos 0)) (sym (twice-suc j)), take_out-after i k ws (2 * j + 1) (pos 0) f (omega arith) (omega arith) ∙ ap (λ n. get_or ws n (pos 0)) (sym (twice-suc-one j)))

-- the group of the pair taken out has one member fewer, the others as many as before
pub take_out-members : (g : ℤ) (i k : ℕ) (ws : List ℤ) → 2 * k ≤ length ws → i < k → members g k ws ≡ members g (fewer k) (take_out i k ws) + counts g i ws
unfolding members fewer take_out
take_out-members g i zero ws f h = absurd (omega arith)
take_out-members g i (suc k) [] f h = absurd (omega arith)
take_out-members g i (suc k) (a ∷ []) f h = absurd (omega arith)
take_out-members g zero (suc k) (a ∷ b ∷ ws) f h = go (members-same g k ws (take_out 0 (suc k) (a ∷ b ∷ ws)) (omega arith) (simp take_out-length (omega arith)) same) (eq_z a g)
  where
    same : (i : ℕ) → i < k → group_at i ws ≡ group_at i (take_out 0 (suc k) (a ∷ b ∷ ws))
    same i l = sym (group_at-suc i a b ws) ∙ sym (take_out-place-after 0 (suc k) (a ∷ b ∷ ws) i f zero-le (omega arith)).0

    go : members g k ws ≡ members g k (take_out 0 (suc k) (a ∷ b ∷ ws)) → (t : Bool) → elim t as (λ x. ℕ) [ true ↦ suc (members g k ws) | false ↦ members g k ws ] ≡ members g k (take_out 0 (suc k) (a ∷ b ∷ ws)) + cond t 1 0
    go e true = omega arith
    go e false = omega arith
take_out-members g (suc i) (suc zero) (a ∷ b ∷ ws) f h = absurd (omega arith)
take_out-members g (suc i) (suc (suc k)) (a ∷ b ∷ ws) f h = rw (group_at-suc i a b ws) (go (take_out-members g i (suc k) ws (omega arith) (omega arith)) (eq_z a g))
  where
    go : members g (suc k) ws ≡ members g k (take_out i (suc k) ws) + counts g i ws → (t : Bool) → elim t as (λ x. ℕ) [ true ↦ suc (members g (suc k) ws) | false ↦ members g (suc k) ws ] ≡ elim t as (λ x. ℕ) [ true ↦ suc (members g k (take_out i (suc k) ws)) | false ↦ members g k (take_out i (suc k) ws) ] + counts g i ws
    go e true = omega arith
    go e false = e
