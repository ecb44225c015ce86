-- A stack of activations whose new names rise: where each name is declared.
use Rattle.std.specs.Prelude.{ℕ, zero, suc, ◌+◌, ◌≤◌, ◌<◌, ◌≡◌, refl, length}
use Rattle.std.proofs.Common.{arith, add-zero, add-suc, suc-add, sym, ap, ◌∙◌, eq-eqb, ne_eqb}
use mathlib.Core.List.{List, [], ◌∷◌, ◌++◌, map, head-eq_of_cons-eq, tail-eq_of_cons-eq}
use Rattle.std.proofs.Math.Option.{none, some}
use Rattle.std.proofs.Math.ListN.{get_elem?}
use Rattle.language.specs.Basics.{up_from}
use Rattle.language.specs.Text.{Decl, block_decls, decl_name, declared_names}
use Rattle.language.specs.Machine.{Activation, Instance, declared_at, instance_from, resume}
use Rattle.laws.specs.Tests.{none≢some, some_inj}
use Rattle.laws.specs.Lists.{get_elem-bound}
use Rattle.laws.specs.Instances.{instance_in, instance-here, instance-there}

-- New names rise with the activations: each one's declared names are consecutive, above those of the activations below it.
unfoldable pub Rising : ℕ → List Activation → ℕ → Type 0
Rising low [] fresh = low ≤ fresh
Rising low (a ∷ l) fresh =
    (base : ℕ) × (low ≤ base) × (declared_names a.text ≡ up_from base (length (block_decls a.text))) ×
    Rising (base + length (block_decls a.text)) l fresh

-- declarations whose names go on from a base
pub name-at : (j base : ℕ) (ds : List Decl) (d : Decl) → map decl_name ds ≡ up_from base (length ds) → get_elem? ds j ≡ some d → decl_name d ≡ base + j
unfolding up_from
name-at j base [] d e g = none≢some g
name-at zero base (c ∷ ds) d e g = let h : decl_name c ≡ base = head-eq_of_cons-eq e in let r : decl_name c ≡ decl_name d = ap decl_name (some_inj g) in omega arith
name-at (suc j) base (c ∷ ds) d e g = let h = name-at j (suc base) ds d (tail-eq_of_cons-eq e) g in omega arith

-- a name above them is not declared
declared_at-above : (x i base : ℕ) (ds : List Decl) → map decl_name ds ≡ up_from base (length ds) → base + length ds ≤ x → declared_at x i ds ≡ none
unfolding declared_at up_from
declared_at-above x i base [] e h = refl
declared_at-above x i base (d ∷ ds) e h =
    let h₀ : decl_name d ≡ base = head-eq_of_cons-eq e in
    rw (ne_eqb (decl_name d) x (λ q. let z = q in omega arith), declared_at) (declared_at-above x (suc i) (suc base) ds (tail-eq_of_cons-eq e) (omega arith))

-- nor is one below them
declared_at-below : (x i base : ℕ) (ds : List Decl) → map decl_name ds ≡ up_from base (length ds) → x < base → declared_at x i ds ≡ none
unfolding declared_at up_from
declared_at-below x i base [] e h = refl
declared_at-below x i base (d ∷ ds) e h =
    let h₀ : decl_name d ≡ base = head-eq_of_cons-eq e in
    rw (ne_eqb (decl_name d) x (λ q. let z = q in omega arith), declared_at) (declared_at-below x (suc i) (suc base) ds (tail-eq_of_cons-eq e) (omega arith))

-- the declaration at an index is the one found under its name
declared_at-in : (j i base : ℕ) (ds : List Decl) (d : Decl) → map decl_name ds ≡ up_from base (length ds) → get_elem? ds j ≡ some d → declared_at (decl_name d) i ds ≡ some (i + j, d)
unfolding declared_at up_from
declared_at-in j i base [] d e g = none≢some g
declared_at-in zero i base (c ∷ ds) d e g =
    let q : c ≡ d = some_inj g in
    rw (q, eq-eqb (decl_name d) (decl_name d) refl, declared_at, add-zero) (λ t. some (i, q t))
declared_at-in (suc j) i base (c ∷ ds) d e g =
    let h₀ : decl_name c ≡ base = head-eq_of_cons-eq e in
    let h₁ = name-at j (suc base) ds d (tail-eq_of_cons-eq e) g in
    rw (ne_eqb (decl_name c) (decl_name d) (λ q. let z = q in omega arith), declared_at) (rw (add-suc i j, ← suc-add i j) (declared_at-in j (suc i) (suc base) ds d (tail-eq_of_cons-eq e) g))

-- the names of a rising stack lie between its bounds
pub rising-within : (low : ℕ) (l : List Activation) (fresh : ℕ) → Rising low l fresh → low ≤ fresh
unfolding Rising
rising-within low [] fresh r = r
rising-within low (a ∷ l) fresh r = let h = rising-within (r.0 + length (block_decls a.text)) l fresh r.3 in let h₁ = r.1 in omega arith

pub rising-name : (low : ℕ) (l : List Activation) (fresh k j : ℕ) (a : Activation) (d : Decl) → Rising low l fresh → get_elem? l k ≡ some a → get_elem? (block_decls a.text) j ≡ some d → (low ≤ decl_name d) × (decl_name d < fresh)
unfolding Rising declared_names
rising-name low [] fresh k j a d r g g' = none≢some g
rising-name low (b ∷ l) fresh zero j a d r g g' =
    let q : b ≡ a = some_inj g in
    let e = name-at j r.0 (block_decls b.text) d r.2 (rw q g') in
    let h = rising-within (r.0 + length (block_decls b.text)) l fresh r.3 in
    let h₁ = r.1 in
    let h₂ = get_elem-bound (block_decls b.text) j d (rw q g') in
    omega arith
rising-name low (b ∷ l) fresh (suc k) j a d r g g' =
    let h = rising-name (r.0 + length (block_decls b.text)) l fresh k j a d r.3 g g' in
    let h₁ = r.1 in
    omega arith

-- each declaration of a rising stack is the instance of its name
pub rising-instance : (low : ℕ) (l : List Activation) (fresh n k j : ℕ) (a : Activation) (d : Decl) → Rising low l fresh → get_elem? l k ≡ some a → get_elem? (block_decls a.text) j ≡ some d → instance_from (decl_name d) n l ≡ some (instance_in (n + k) a (suc (length a.arguments) + j, d))
unfolding Rising declared_names
rising-instance low [] fresh n k j a d r g g' = none≢some g
rising-instance low (b ∷ l) fresh n zero j a d r g g' =
    let q : b ≡ a = some_inj g in
    rw (q, add-zero) (instance-here (decl_name d) n a l (suc (length a.arguments) + j, d) (declared_at-in j (suc (length a.arguments)) r.0 (block_decls a.text) d (rw q at r.2) g'))
rising-instance low (b ∷ l) fresh n (suc k) j a d r g g' =
    let h = rising-name (r.0 + length (block_decls b.text)) l fresh k j a d r.3 g g' in
    instance-there (decl_name d) n b l (declared_at-above (decl_name d) (suc (length b.arguments)) r.0 (block_decls b.text) r.2 h.0) ∙
    rw (add-suc n k, ← suc-add n k) (rising-instance (r.0 + length (block_decls b.text)) l fresh (suc n) k j a d r.3 g g')

-- a name below a rising stack has no instance
pub rising_none : (low : ℕ) (l : List Activation) (fresh n x : ℕ) → Rising low l fresh → x < low → instance_from x n l ≡ none
unfolding Rising declared_names instance_from
rising_none low [] fresh n x r h = refl
rising_none low (b ∷ l) fresh n x r h =
    let h₁ = r.1 in
    instance-there x n b l (declared_at-below x (suc (length b.arguments)) r.0 (block_decls b.text) r.2 (omega arith)) ∙
    rising_none (r.0 + length (block_decls b.text)) l fresh (suc n) x r.3 (omega arith)

-- so two declarations of a rising stack with one name are one
pub same-declaration : (low : ℕ) (l : List Activation) (fresh k j k' j' : ℕ) (a a' : Activation) (d d' : Decl) → Rising low l fresh → get_elem? l k ≡ some a → get_elem? (block_decls a.text) j ≡ some d → get_elem? l k' ≡ some a' → get_elem? (block_decls a'.text) j' ≡ some d' → decl_name d ≡ decl_name d' → (k ≡ k') × (j ≡ j')
same-declaration low l fresh k j k' j' a a' d d' r e g e' g' n =
    let p = rising-instance low l fresh 1 k j a d r e g in
    let p' = rising-instance low l fresh 1 k' j' a' d' r e' g' in
    let q : instance_in (1 + k) a (suc (length a.arguments) + j, d) ≡ instance_in (1 + k') a' (suc (length a'.arguments) + j', d') = some_inj (sym p ∙ (ap (λ (x : ℕ). instance_from x 1 l) n ∙ p')) in
    let h₀ : 1 + k ≡ 1 + k' = ap (λ (i : Instance). i.number) q in
    let h₁ : suc (length a.arguments) + j ≡ suc (length a'.arguments) + j' = ap (λ (i : Instance). i.position) q in
    let h₂ : length a.arguments ≡ length a'.arguments = ap (λ (i : Instance). length i.home.arguments) q in
    (omega arith, omega arith)

-- Rising stacks cut, and with one more on top

pub rising-before : (low : ℕ) (before rest : List Activation) (fresh : ℕ) → Rising low (before ++ rest) fresh → Rising low before fresh
unfolding Rising
rising-before low [] rest fresh r = rising-within low rest fresh r
rising-before low (a ∷ before) rest fresh r = (r.0, r.1, r.2, rising-before (r.0 + length (block_decls a.text)) before rest fresh r.3)

-- what is above an activation is dropped, and it goes on at another statement
pub rising-resumed : (low : ℕ) (before : List Activation) (a : Activation) (rest : List Activation) (fresh n : ℕ) → Rising low (before ++ (a ∷ rest)) fresh → Rising low (before ++ (resume a n ∷ [])) fresh
unfolding Rising resume
rising-resumed low [] a rest fresh n r = (r.0, r.1, r.2, rising-within (r.0 + length (block_decls a.text)) rest fresh r.3)
rising-resumed low (b ∷ before) a rest fresh n r = (r.0, r.1, r.2, rising-resumed (r.0 + length (block_decls b.text)) before a rest fresh n r.3)

pub rising-more : (low : ℕ) (l : List Activation) (fresh : ℕ) (a : Activation) → Rising low l fresh → declared_names a.text ≡ up_from fresh (length (block_decls a.text)) → Rising low (l ++ (a ∷ [])) (fresh + length (block_decls a.text))
unfolding Rising
rising-more low [] fresh a r e = (fresh, r, e, omega arith)
rising-more low (b ∷ l) fresh a r e = (r.0, r.1, r.2, rising-more (r.0 + length (block_decls b.text)) l fresh a r.3 e)
