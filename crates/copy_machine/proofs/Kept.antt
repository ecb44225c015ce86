-- Activations that stay live through a step: each keeps its text, its arguments and what names read as in it, and may go on at another statement.
use Rattle.std.specs.Prelude.{ℕ, zero, suc, ◌≤◌, List, [], ◌∷◌, ◌++◌, ◌≡◌, refl, length}
use Rattle.std.proofs.Common.{arith, ◌∙◌}
use Rattle.std.proofs.Math.Option.{some}
use Rattle.std.proofs.Math.ListN.{get_elem?}
use Rattle.language.specs.Machine.{Activation, resume}
use Rattle.laws.specs.Tests.{none≢some, some_inj}
use Rattle.laws.specs.Lists.{get_elem-in, get_elem-bound}

abbrev pub Same : Activation → Activation → Type 0
Same a b = (a.text ≡ b.text) × (a.arguments ≡ b.arguments) × (a.reads ≡ b.reads)

-- each of the activations m stands at its place in l
abbrev pub Kept : List Activation → List Activation → Type 0
Kept l m = (k : ℕ) (a : Activation) → get_elem? m k ≡ some a → (b : Activation) × (get_elem? l k ≡ some b) × Same b a

pub kept-all : (l : List Activation) → Kept l l
kept-all l k a e = (a, e, (refl, refl, refl))

pub kept-first : (before rest : List Activation) → Kept (before ++ rest) before
kept-first [] rest k c e = none≢some e
kept-first (b ∷ before) rest zero c e = (c, e, (refl, refl, refl))
kept-first (b ∷ before) rest (suc k) c e = kept-first before rest k c e

-- those above a are dropped, and it goes on elsewhere
pub kept-resumed : (before : List Activation) (a : Activation) (rest : List Activation) (n : ℕ) → Kept (before ++ (a ∷ rest)) (before ++ (resume a n ∷ []))
unfolding resume
kept-resumed [] a rest n zero c e = let q = some_inj e in (a, refl, (λ i. (q i).text, λ i. (q i).arguments, λ i. (q i).reads))
kept-resumed [] a rest n (suc k) c e = none≢some e
kept-resumed (b ∷ before) a rest n zero c e = (c, e, (refl, refl, refl))
kept-resumed (b ∷ before) a rest n (suc k) c e = kept-resumed before a rest n k c e

pub kept_then : (l m n : List Activation) → Kept l m → Kept m n → Kept l n
kept_then l m n p q k a e =
    let y = q k a e in
    let x = p k y.0 y.1 in
    (x.0, x.1, (x.2.0 ∙ y.2.0, x.2.1 ∙ y.2.1, x.2.2 ∙ y.2.2))

-- no more are live than before
pub kept-few : (l m : List Activation) → Kept l m → length m ≤ length l
kept-few l m h = go (length m) refl
  where
    go : (n : ℕ) → length m ≡ n → n ≤ length l
    go zero e = omega arith
    go (suc n) e =
        let c = get_elem-in m n (omega arith) in
        let b = h n c.0 c.1 in
        get_elem-bound l n b.0 b.1
