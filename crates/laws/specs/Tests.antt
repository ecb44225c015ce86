-- What a test or an option is and cannot be.
use Rattle.std.specs.Prelude.{ℕ, Bool, true, false, ◌&&◌, ◌≢◌, ◌≡◌, refl, eqb, ℤ, pos, negsuc}
use Rattle.std.proofs.Common.{arith, true≢false, sym, ap, ◌∙◌, eqb-true, eq-eqb, ne_eqb}
use Rattle.std.proofs.lemmas.Bool.{false≢true, eqb-false}
use Rattle.std.proofs.Math.Bool.{and-eq-true_iff}
use Rattle.std.proofs.Math.Option.{Option, none, some}
use Rattle.language.specs.Basics.{eq_z}

-- a test and its value
pub split {ℓ} : {X : Type ℓ} (t : Bool) → (t ≡ true → X) → (t ≡ false → X) → X
split true f g = f refl
split false f g = g refl

-- two tests that hold together
pub both : (s t : Bool) → s && t ≡ true → (s ≡ true) × (t ≡ true)
both s t = (and-eq-true_iff s t).0

-- an option and its value
pub by-lookup {ℓ ℓ'} : {A : Type ℓ} {X : Type ℓ'} (o : Option A) → (o ≡ none → X) → ((a : A) → o ≡ some a → X) → X
by-lookup none f g = f refl
by-lookup (some a) f g = g a refl

pub never {ℓ} : {X : Type ℓ} {t : Bool} → t ≡ true → t ≡ false → X
never e f = let z : ◌≡◌ {A = ℕ} 0 1 = cc in absurd (omega arith)

pub none≢some {ℓ ℓ'} : {A : Type ℓ} {X : Type ℓ'} {a : A} → Path (Option A) none (some a) → X
none≢some e = let z : ◌≡◌ {A = ℕ} 0 1 = cc in absurd (omega arith)

pub some_inj {ℓ} : {A : Type ℓ} {a b : A} → Path (Option A) (some a) (some b) → a ≡ b
some_inj e = cc

pub eqb_swap : (a b : ℕ) (t : Bool) → eqb a b ≡ t → eqb b a ≡ t
eqb_swap a b true e = eq-eqb b a (sym (eqb-true a b e))
eqb_swap a b false e = ne_eqb b a (λ q. eqb-false a b e (sym q))

-- equality of signed numbers, as a test
pub eq_z-true : (a b : ℤ) → eq_z a b ≡ true → a ≡ b
unfolding eq_z
eq_z-true (pos a) (pos b) e = ap pos (eqb-true a b e)
eq_z-true (pos a) (negsuc b) e = absurd (false≢true e)
eq_z-true (negsuc a) (pos b) e = absurd (false≢true e)
eq_z-true (negsuc a) (negsuc b) e = ap negsuc (eqb-true a b e)

pub eq_z-refl : (a : ℤ) → eq_z a a ≡ true
unfolding eq_z
eq_z-refl (pos a) = eq-eqb a a refl
eq_z-refl (negsuc a) = eq-eqb a a refl

pub eq_z-false : (a b : ℤ) → eq_z a b ≡ false → a ≢ b
eq_z-false a b e q = true≢false (sym (eq_z-refl a) ∙ ap (eq_z a) q ∙ e)

pub ne-eq_z : (a b : ℤ) → a ≢ b → eq_z a b ≡ false
ne-eq_z a b h = go (eq_z a b) refl
  where
    go : (t : Bool) → eq_z a b ≡ t → t ≡ false
    go true e = absurd (h (eq_z-true a b e))
    go false e = refl
