-- A declaration's own record, read and judged: the cases of `headed`. Assumes nothing.
use Rattle.std.specs.Prelude.{Ok, Err}
use mathlib.Core.Path.{◌≡◌, refl, sym, ◌∙◌, ap, ap₂, subst}
use mathlib.Core.Bool.{Bool, true, false, ◌&&◌}
use mathlib.Core.List.{List}
use Prim.Native.Nat.{ℕ, ◌≤◌}
use native.Mathlib.Omega.{arith}
use lib.Dec.{leb, T}
use borrow.Author.Tests.{leb-true, leb-false}
use Rattle.language.specs.Basics.{among}
use Rattle.language.specs.Structure.{DeclMark, is_vR, is_lB, is_pR}
use Rattle.language.specs.declared.Refusal.{Refusal}
use Rattle.language.specs.declared.Refusal.TheVariants.{NameTwice}
use Rattle.check_marks.specs.declared.Mark.{Mark}
use Rattle.language.specs.Faults.{fault, Progress}
use Rattle.check_records.specs.declared.Reading.{Reading}
use Rattle.check_records.specs.declared.Reading.TheVariants.{Taken, Refused as Untaken}
use Rattle.check_records.specs.Taking.{progress_of}
use Rattle.check_bounds.specs.Marks.{decl_mark_of}
use Rattle.check_bounds.specs.Judging.{ranged_of, once_at, judged, headed, FewFormals}
use Rattle.check_bounds.proofs.Marks.{ranged-label, ranged-no-label, ranged-few, ranged-many}

once-at : (p : Progress) (b : Bool) (at from : ℕ) → once_at p b at ≡ Ok from → p ≡ Ok from
unfolding once_at
once-at (Ok next) true at from e = let z : ◌≡◌ {A = ℕ} 0 1 = cc in absurd (omega arith)
once-at (Ok next) false at from e = e
once-at (Err x) b at from e = let z : ◌≡◌ {A = ℕ} 0 1 = cc in absurd (omega arith)

module _ (at next f1 s from : ℕ) where
  at-LB : (a : Bool) → leb 1 f1 && leb f1 s ≡ a → ranged_of is_lB at next f1 s ≡ Ok from → from ≡ next
  at-LB true q e = let i = ranged-label at next f1 s q in cc
  at-LB false q e = let i = ranged-no-label at next f1 s q in cc

  at-PR : (a : Bool) → leb f1 32 ≡ a → ranged_of is_pR at next f1 s ≡ Ok from → (from ≡ next) × (f1 ≤ 32)
  at-PR true q e = let h : f1 ≤ 32 = leb-true f1 32 q in let i = ranged-few at next f1 s h in (cc, h)
  at-PR false q e =
      let i = ranged-many at next f1 s (leb-false f1 32 q) in let z : ◌≡◌ {A = ℕ} 0 1 = cc in absurd (omega arith)

  ranged-at : (m : DeclMark) → ranged_of m at next f1 s ≡ Ok from → (from ≡ next) × FewFormals m f1
  unfolding ranged_of
  ranged-at is_vR e = let i : from ≡ next = cc in (i, tt)
  ranged-at is_lB e = (at-LB (leb 1 f1 && leb f1 s) refl e, tt)
  ranged-at is_pR e = at-PR (leb f1 32) refl e

-- a declaration's own record that passes ends where its fields do
pub own_at : (m : DeclMark) (at next f1 s from : ℕ) (b : Bool) → once_at (ranged_of m at next f1 s) b at ≡ Ok from → (from ≡ next) × FewFormals m f1
own_at m at next f1 s from b e = ranged-at at next f1 s from m (once-at (ranged_of m at next f1 s) b at from e)

-- as the code finds them, at a record x
module _ (at s : ℕ) (ns : List ℕ) {x : Reading} where
  pub headed-none : {c : Refusal} {o : ℕ} → x ≡ Untaken c o → headed x at s ns ≡ Untaken c o
  unfolding headed
  headed-none e = ap (λ y. headed y at s ns) e

  pub fit-untaken : {y : Progress} {c : Refusal} {o : ℕ} → x ≡ Untaken c o → y ≡ progress_of x → y ≡ progress_of (headed x at s ns)
  fit-untaken e f = f ∙ ap progress_of (e ∙ sym (headed-none e))

  module _ {m : Mark} {next f0 f1 f2 f3 : ℕ} {p : Progress} (e : x ≡ Taken m next f0 f1 f2 f3) (q : p ≡ ranged_of (decl_mark_of m) at next f1 s) where
    tested : (y : Progress) (b : Bool) → p ≡ y → among f0 ns ≡ b → headed x at s ns ≡ judged (once_at y b at) (Taken m next f0 f1 f2 f3)
    unfolding headed
    tested y b w v = ap (λ z. headed z at s ns) e ∙ ap₂ (λ y z. judged (once_at y z at) (Taken m next f0 f1 f2 f3)) (sym q ∙ w) v

    pub fit-unfit : {c : Refusal} {o : ℕ} → p ≡ Err (fault c o) → p ≡ progress_of (headed x at s ns)
    unfolding judged once_at
    fit-unfit {c} {o} w = w ∙ sym (ap progress_of (tested (Err (fault c o)) (among f0 ns) w refl))

    module _ {from : ℕ} {b : Bool} (w : p ≡ Ok from) (v : b ≡ among f0 ns) where
      pub fit-twice : b ≡ true → Err (fault NameTwice at) ≡ progress_of (headed x at s ns)
      unfolding judged once_at
      fit-twice t = sym (ap progress_of (tested (Ok from) true w (sym v ∙ t)))

      pub fit-new : b ≡ false → p ≡ progress_of (headed x at s ns)
      unfolding judged once_at
      fit-new t = w ∙ ap (λ n. Ok n) (ranged-at at next f1 s from (decl_mark_of m) (sym q ∙ w)).0 ∙ sym (ap progress_of (tested (Ok from) false w (sym v ∙ t)))

-- what they say of the record and of its tests
pub judged-refused : (p : Progress) (m : Mark) (next f0 f1 f2 f3 : ℕ) {c : Refusal} {o : ℕ} → judged p (Taken m next f0 f1 f2 f3) ≡ Untaken c o → p ≡ Err (fault c o)
unfolding judged
judged-refused (Ok from) m next f0 f1 f2 f3 e = let z : ◌≡◌ {A = ℕ} 0 1 = cc in absurd (omega arith)
judged-refused (Err x) m next f0 f1 f2 f3 {c = c} {o = o} e =
    let p : x.cause ≡ c = cc in
    let q : x.offset ≡ o = cc in
    ap₂ (λ (a : Refusal) (b : ℕ). Err (fault a b)) p q

module _ (at s : ℕ) (ns : List ℕ) {m : Mark} {next f0 f1 f2 f3 : ℕ} where
  judged-taken : (p : Progress) (m' : Mark) (n' a b c d : ℕ) → once_at (ranged_of (decl_mark_of m') at n' b s) (among a ns) at ≡ p → judged p (Taken m' n' a b c d) ≡ Taken m next f0 f1 f2 f3 → (Taken m' n' a b c d ≡ Taken m next f0 f1 f2 f3) × (once_at (ranged_of (decl_mark_of m) at next f1 s) (among f0 ns) at ≡ Ok next)
  unfolding judged
  judged-taken (Ok from) m' n' a b c d e q = let i = (own_at (decl_mark_of m') at n' b s from (among a ns) e).0 in (q, cc)
  judged-taken (Err x) m' n' a b c d e q = let z : ◌≡◌ {A = ℕ} 0 1 = cc in absurd (omega arith)

  pub head-taken : (r : Reading) → headed r at s ns ≡ Taken m next f0 f1 f2 f3 → (r ≡ Taken m next f0 f1 f2 f3) × (once_at (ranged_of (decl_mark_of m) at next f1 s) (among f0 ns) at ≡ Ok next)
  unfolding headed
  head-taken (Taken m' n' a b c d) q = judged-taken _ m' n' a b c d refl q
  head-taken (Untaken c o) q = let z : ◌≡◌ {A = ℕ} 0 1 = cc in absurd (omega arith)

-- what it comes to says of the record
abbrev next_of : Reading → ℕ
next_of (Taken m next f0 f1 f2 f3) = next
next_of (Untaken c o) = 0

abbrev untaken_of : Progress → Reading
untaken_of (Err e) = Untaken e.cause e.offset
untaken_of (Ok n) = Untaken NameTwice n

abbrev place_of : Progress → ℕ
place_of (Ok n) = n
place_of (Err e) = 0

abbrev goes_on : Progress → Bool
goes_on (Ok n) = true
goes_on (Err e) = false

module _ (at s : ℕ) (ns : List ℕ) (x : Reading) {r : Progress} (e : r ≡ progress_of (headed x at s ns)) where
  pub fit-stops : {k : Refusal} {o : ℕ} → r ≡ Err (fault k o) → headed x at s ns ≡ Untaken k o
  fit-stops {k} {o} q = go (headed x at s ns) refl
    where
      go : (y : Reading) → headed x at s ns ≡ y → headed x at s ns ≡ Untaken k o
      go (Taken m next f0 f1 f2 f3) h = absurd (subst T (ap goes_on (sym (e ∙ ap progress_of h) ∙ q)) tt)
      go (Untaken c p) h = h ∙ ap untaken_of (sym (e ∙ ap progress_of h) ∙ q)

  pub fit-goes : {m : Mark} {next f0 f1 f2 f3 from : ℕ} → x ≡ Taken m next f0 f1 f2 f3 → r ≡ Ok from → (next ≡ from) × (headed x at s ns ≡ Taken m next f0 f1 f2 f3)
  fit-goes {m} {next} {f0} {f1} {f2} {f3} {from} g q = go (headed x at s ns) refl
    where
      go : (y : Reading) → headed x at s ns ≡ y → (next ≡ from) × (headed x at s ns ≡ Taken m next f0 f1 f2 f3)
      go (Taken m' n' a b c d) h =
          let same = sym g ∙ (head-taken at s ns x h).0 in
          (ap next_of same ∙ ap place_of (sym (e ∙ ap progress_of h) ∙ q), h ∙ sym same)
      go (Untaken c o) h = absurd (subst T (ap goes_on (sym q ∙ (e ∙ ap progress_of h))) tt)
