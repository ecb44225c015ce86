-- Laws of kinds: two of them compared, and arguments that agree with formals.
use Prim.Native.Nat.{ℕ, zero, suc, ◌<◌}
use Rattle.std.proofs.Common.{not-suc-le-zero, le_of_suc-le-suc, arith, inl, inr, ap, ◌∙◌}
use Rattle.std.specs.Prelude.{true, false, ◌⊎◌, ◌≢◌, ◌≡◌, refl, length, get_or}
use Rattle.std.proofs.Math.Bool.{and-eq-true_iff}
use Rattle.std.proofs.lemmas.Bool.{false≢true}
use mathlib.Core.List.{List, [], ◌∷◌, map}
use Rattle.std.proofs.Math.Option.{Option, none, some}
use Rattle.std.proofs.Math.Path.{sym}
use Rattle.std.proofs.Math.ListN.{get_elem?, length-map}
use Rattle.language.specs.Text.{Kind, variable, label, procedure, Formal, formal_kinds, same_kind}
use Rattle.language.specs.Scope.{agree}
use Rattle.laws.specs.Tests.{split, none≢some, some_inj}

pub same_kind_lem : (k l : Kind) → same_kind k l ≡ true → k ≡ l
unfolding same_kind
same_kind_lem variable variable e = refl
same_kind_lem variable label e = cc
same_kind_lem variable procedure e = cc
same_kind_lem label variable e = cc
same_kind_lem label label e = refl
same_kind_lem label procedure e = cc
same_kind_lem procedure variable e = cc
same_kind_lem procedure label e = cc
same_kind_lem procedure procedure e = refl

-- arguments that agree have the formals' kinds, and are as many
pub agree-first : (k : Kind) (ks : List Kind) (o : Option Kind) (os : List (Option Kind)) → agree (k ∷ ks) (o ∷ os) ≡ true → (o ≡ some k) × (agree ks os ≡ true)
unfolding agree
agree-first k ks none os e = absurd (false≢true e)
agree-first k ks (some j) os e =
    let both = (and-eq-true_iff (same_kind k j) (agree ks os)).0 e in
    (ap {B = Option Kind} some (sym (same_kind_lem k j both.0)), both.1)

pub agree-length : (ks : List Kind) (os : List (Option Kind)) → agree ks os ≡ true → length os ≡ length ks
unfolding agree
agree-length [] [] e = refl
agree-length [] (o ∷ os) e = absurd (false≢true e)
agree-length (k ∷ ks) [] e = absurd (false≢true e)
agree-length (k ∷ ks) (o ∷ os) e = ap suc (agree-length ks os (agree-first k ks o os e).1)

pub agree_at : (ks : List Kind) (os : List (Option Kind)) → agree ks os ≡ true → (i : ℕ) (k : Kind) → get_elem? ks i ≡ some k → get_elem? os i ≡ some (some k)
unfolding agree
agree_at [] os e i k q = none≢some q
agree_at (x ∷ ks) [] e i k q = absurd (false≢true e)
agree_at (x ∷ ks) (o ∷ os) e zero k q = ap {B = Option (Option Kind)} some ((agree-first x ks o os e).0 ∙ q)
agree_at (x ∷ ks) (o ∷ os) e (suc i) k q = agree_at ks os (agree-first x ks o os e).1 i k q

-- Arguments that differ from the formals in number or kind: not as many, or one of another kind than the formal at its place. `agree` is false exactly there.
abbrev pub OtherAt : List Kind → List (Option Kind) → Type 0
OtherAt ks os = (i : ℕ) × (k : Kind) × (o : Option Kind) × (get_elem? ks i ≡ some k) × (get_elem? os i ≡ some o) × (o ≢ some k)

abbrev pub Differs : List Kind → List (Option Kind) → Type 0
Differs ks os = (length os ≢ length ks) ⊎ OtherAt ks os

differs-later : (k : Kind) (ks : List Kind) (o : Option Kind) (os : List (Option Kind)) → Differs ks os → Differs (k ∷ ks) (o ∷ os)
differs-later k ks o os (inl h) = inl (λ q. h (omega (arith, q)))
differs-later k ks o os (inr (i, l, p, a, b, c)) = inr (suc i, l, p, a, b, c)

same-itself : (k : Kind) → same_kind k k ≡ true
unfolding same_kind
same-itself variable = refl
same-itself label = refl
same-itself procedure = refl

agree-both : (k j : Kind) (ks : List Kind) (os : List (Option Kind)) → j ≡ k → agree (k ∷ ks) (some j ∷ os) ≡ agree ks os
unfolding agree
agree-both k j ks os e = rw (e, same-itself k)

pub agree-false : (ks : List Kind) (os : List (Option Kind)) → agree ks os ≡ false → Differs ks os
unfolding agree
agree-false [] [] e = absurd (false≢true (sym e))
agree-false [] (o ∷ os) e = inl (λ q. omega (arith, q))
agree-false (k ∷ ks) [] e = inl (λ q. omega (arith, q))
agree-false (k ∷ ks) (none ∷ os) e = inr (0, k, none, refl, refl, λ q. none≢some q)
agree-false (k ∷ ks) (some j ∷ os) e =
    split (same_kind k j) (λ t. differs-later k ks (some j) os (agree-false ks os (sym (agree-both k j ks os (sym (same_kind_lem k j t))) ∙ e)))
    (λ t. inr (0, k, some j, refl, refl, λ q. false≢true (sym t ∙ ap (same_kind k) (some_inj q) ∙ same-itself k)))

pub differs_false : (ks : List Kind) (os : List (Option Kind)) → Differs ks os → agree ks os ≡ false
differs_false ks os (inl h) = split (agree ks os) (λ t. absurd (h (agree-length ks os t))) (λ t. t)
differs_false ks os (inr (i, k, o, a, b, c)) = split (agree ks os) (λ t. absurd (c (some_inj (sym b ∙ agree_at ks os t i k a)))) (λ t. t)

-- arguments whose kinds are looked up
module _ {A : Type 0} (r : A → Option Kind) where
  pub agree-many : (fs : List Formal) (xs : List A) → agree (formal_kinds fs) (map r xs) ≡ true → length xs ≡ length fs
  unfolding formal_kinds
  agree-many fs xs e = sym (length-map xs r) ∙ agree-length (formal_kinds fs) (map r xs) e ∙ length-map fs (λ (f : Formal). f.kind)

  pub agree-known : (d : A) (ks : List Kind) (xs : List A) → agree ks (map r xs) ≡ true → (i : ℕ) → i < length xs → (k : Kind) × (r (get_or xs i d) ≡ some k)
  unfolding agree
  agree-known d ks [] e i l = absurd (not-suc-le-zero l)
  agree-known d [] (x ∷ xs) e i l = absurd (false≢true e)
  agree-known d (k ∷ ks) (x ∷ xs) e zero l = (k, (agree-first k ks (r x) (map r xs) e).0)
  agree-known d (k ∷ ks) (x ∷ xs) e (suc i) l = agree-known d ks xs (agree-first k ks (r x) (map r xs) e).1 i (le_of_suc-le-suc l)
