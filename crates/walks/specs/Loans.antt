-- A borrow that a proof by hand has in hand, with the token of its lifetime, as one formula, for all four kinds: `&mut T`, `&T`, `&mut [T]`, `&[T]`.
--     Loan             what tells one borrow from another: its lifetime, the share of that lifetime's token, its place, its ghost name, its machine value. A `&` has no
--         ghost name: there the name says nothing
--     loan_ref, loan_slice, loan_shr_ref, loan_shr_slice       the borrow that a parameter is
--     Kind             which of the four it is, with the type behind it, and of a `&` that type's laws (`RowLaws`), by which it is copied.        Value k      what lies
--         behind it
--     row k ℓ κ        the kind as a parameter's type.        ref      the reference's denotation at a value
--     In k h y         the borrow h in hand, at the value y.        Out k h z      what is left of it once it was passed on for good: of a `&` itself, of a
--         `&mut` what says its last value z, and the borrow, closed
--     enters           a borrow in hand gives the token, what a callee's parameter owns, and what is kept meanwhile (`Kept`: of a `&` a copy, of a `&mut [T]`
--         that its machine value says how many there are).        leaves
--              and the way back, with the last value
--     gives_up, gives  In becomes Out, at the same value
-- Assumes `Logic`.
use Rattle.std.specs.Prelude.{◌≡◌, refl, ℕ, List, [], ◌∷◌, length}
use Rattle.std.proofs.Common.{sym, ap}
use seplogic.Ra.Ura.{Ura}
use mir.Syntax.{Lifetime, named}
use mir.Val.{Val, vunit, vbool, vint, vfloat, vptr, vcode, vstruct, as_int}
use mir.Fields.{get_v}
use base.Logic.{ent, sep, guard}
use base.Fml.{Lft, GName, Share, Fml, ftrue, fsep, feq, flft, fres, fbor}
use types.Logic.{Logic, sem}
use types.Kit.{Item, Goal, Step, ‵, ◌⊛◌, ◌$◌, ◌∵◌, !, qed, move, keep, split, use1, rewrite, fsplit, fsplit3, fjoin, drop, feq_i, feq_l, check, done}
use types.SemTy.{Arr, Body}
use types.Hole.{Holey}
use denote.RattleType.{RattleType, RowLaws}
use denote.Memory.{mem}
use denote.Ref.{Bor, MutBor, MutRef, ShrRef, shr_copy}
use denote.Slice.{slice_val, MutSlice, ShrSlice, finally, heres, coded_holeys, res-finally, shr_slice_copy}
use denote.Exit.{yes, Last, left}
use denote.Laws.{Is, shows}
use denote.Steps.{nothing, only, peeks}

pub record Loan : Type 0 where
  pub lft : Lft
  pub share : Share
  pub block : ℕ
  pub off : ℕ
  pub name : GName
  pub val : Val

-- the borrow that a parameter x is, at its signature's lifetime κ and share q
abbrev pub loan_of : {X : Type 0} → Lft → Share → Val → MutBor X → Loan
loan_of κ q v x = record { lft = κ; share = q; block = x.ref_ptr.0; off = x.ref_ptr.1; name = x.ghost_name; val = v }

abbrev pub loan_ref : {X : Type 0} → Lft → Share → MutBor X → Loan
loan_ref κ q x = loan_of κ q (vptr x.ref_ptr.0 x.ref_ptr.1) x

abbrev pub loan_slice : {X : Type 0} → Lft → Share → MutBor (List X) → Loan
loan_slice κ q x = loan_of κ q (slice_val x.ref_ptr (length x.now)) x

-- the same of a `&`, under a name that says nothing
abbrev nameless : {X : Type 0} → Bor X → MutBor X
nameless x = record { ref_ptr = x.ref_ptr; ghost_name = 0; now = x.now }

abbrev pub loan_shr_ref : {X : Type 0} → Lft → Share → Bor X → Loan
loan_shr_ref κ q x = loan_ref κ q (nameless x)

abbrev pub loan_shr_slice : {X : Type 0} → Lft → Share → Bor (List X) → Loan
loan_shr_slice κ q x = loan_slice κ q (nameless x)

pub data Kind : Type 2 where
  mut_ref mut_slice : RattleType → Kind
  shr_ref shr_slice : (R : RattleType) → RowLaws R → Kind

abbrev pub Value : Kind → Type 0
Value (mut_ref R) = R.Denot
Value (shr_ref R L) = R.Denot
Value (mut_slice R) = List R.Denot
Value (shr_slice R L) = List R.Denot

abbrev pub row : Kind → Lifetime → Lft → RattleType
row (mut_ref R) ℓ κ = MutRef ℓ κ R
row (shr_ref R L) ℓ κ = ShrRef ℓ κ R
row (mut_slice R) ℓ κ = MutSlice ℓ κ R
row (shr_slice R L) ℓ κ = ShrSlice ℓ κ R

abbrev pub mut_at : {X : Type 0} → Loan → X → MutBor X
mut_at h y = record { ref_ptr = (h.block, h.off); ghost_name = h.name; now = y }

abbrev pub shr_at : {X : Type 0} → Loan → X → Bor X
shr_at h y = record { ref_ptr = (h.block, h.off); now = y }

module _ (ℓ : Lifetime) (κ : Lft) (h : Loan) where
  abbrev pub ref : (k : Kind) → Value k → (row k ℓ κ).Denot
  ref (mut_ref R) y = mut_at h y
  ref (shr_ref R L) y = shr_at h y
  ref (mut_slice R) y = mut_at h y
  ref (shr_slice R L) y = shr_at h y

abbrev pub token : Loan → Fml
token h = flft h.lft h.share

-- what a parameter of the kind owns, whatever number its lifetime has
abbrev pub owned : (k : Kind) → Lifetime → Loan → Value k → Fml
owned k ℓ h y = (row k ℓ h.lft).own_val (ref ℓ h.lft h k y) (h.val ∷ [])

abbrev pub In : (k : Kind) → Loan → Value k → Fml
In k h y = fsep (owned k (named 0) h y) (token h)

-- how many elements a slice's machine value says
abbrev pub count_of : Val → ℕ
count_of vunit = 0
count_of (vbool t) = 0
count_of (vint w n) = 0
count_of (vfloat f x) = 0
count_of (vptr b o) = 0
count_of (vcode c) = 0
count_of (vstruct vs) = as_int 0 (get_v vs 1) (λ _ n. n)

-- the borrow of a slice, closed
abbrev pub slice_closed : RattleType → Loan → Fml
slice_closed R h = fbor h.lft (Body (Arr (Holey (mem R)) (count_of h.val)) h.block h.off h.name)

abbrev pub Said : (k : Kind) → Loan → Value k → Fml
Said (mut_ref R) h z = fsep (fres h.name (R.coded.code z)) (fbor h.lft (Body (mem R) h.block h.off h.name))
Said (shr_ref R L) h z = owned (shr_ref R L) (named 0) h z
Said (mut_slice R) h z = fsep (finally R h.name z) (slice_closed R h)
Said (shr_slice R L) h z = owned (shr_slice R L) (named 0) h z

abbrev pub Out : (k : Kind) → Loan → Value k → Fml
Out k h z = fsep (Said k h z) (token h)

-- what is kept while a callee has the borrow
abbrev pub Kept : (k : Kind) → Loan → Value k → Fml
Kept (mut_ref R) h y = ftrue
Kept (shr_ref R L) h y = owned (shr_ref R L) (named 0) h y
Kept (mut_slice R) h y = feq ℕ (count_of h.val) (length y)
Kept (shr_slice R L) h y = owned (shr_slice R L) (named 0) h y

module _ (ℓ : Lifetime) (h : Loan) where
  -- what a contract binds of the parameter, and the last value
  abbrev pub Bound : (k : Kind) → Value k → Type 0
  Bound k y = Last ((row k ℓ h.lft).exit yes) (ref ℓ h.lft h k y)

  abbrev pub left-of : (k : Kind) (y : Value k) → Bound k y → Fml
  left-of k y w = left ((row k ℓ h.lft).exit yes) (ref ℓ h.lft h k y) w

  abbrev pub last_of : (k : Kind) (y : Value k) → Bound k y → Value k
  last_of (mut_ref R) y w = w
  last_of (shr_ref R L) y w = y
  last_of (mut_slice R) y w = w
  last_of (shr_slice R L) y w = y

  -- a slice keeps its length
  abbrev pub Same : (k : Kind) (y : Value k) → Bound k y → Type 0
  Same (mut_ref R) y w = Unit {0}
  Same (shr_ref R L) y w = Unit {0}
  Same (mut_slice R) y w = length w ≡ length y
  Same (shr_slice R L) y w = Unit {0}

module _ {M : Type 1} {𝓤 : Ura M} (𝓛 : Logic 𝓤) (ℓ : Lifetime) (h : Loan) where
  abbrev slice_body : RattleType → ℕ → Fml
  slice_body R m = fbor h.lft (Body (Arr (Holey (mem R)) m) h.block h.off h.name)

  counts : {p : ℕ × ℕ} {m : ℕ} → h.val ∷ [] ≡ slice_val p m ∷ [] → count_of h.val ≡ m
  counts e = ap (λ (vs : List Val). count_of (only vs)) e

  pub enters : (k : Kind) (y : Value k) → ent 𝓤 (sem 𝓛 (In k h y)) (sep 𝓤 (sem 𝓛 (token h)) (sep 𝓤 (sem 𝓛 (owned k ℓ h y))
      (sem 𝓛 (Kept k h y))))
  enters (mut_ref R) y = qed 𝓛 (‵ (In (mut_ref R) h y) ∷ []) ∵ fsplit ! $ nothing ! $ move ! (2 ∷ 1 ∷ 0 ∷ []) $ done !
  enters (shr_ref R L) y = qed 𝓛 (‵ (In (shr_ref R L) h y) ∷ []) ∵ fsplit ! $
      use1 𝓛 (‵ (owned (shr_ref R L) ℓ h y) ⊛ ‵ (owned (shr_ref R L) (named 0) h y)) ((shr_copy 𝓛 (named 0) h.lft R L).twice (shr_at h y) (h.val ∷ [])) $
      split ! $ move ! (2 ∷ 0 ∷ 1 ∷ []) $ done !
  enters (mut_slice R) y = qed 𝓛 (‵ (In (mut_slice R) h y) ∷ []) ∵ fsplit ! $
      peeks ! (MutSlice ℓ h.lft R) (Is (MutSlice ℓ h.lft R)) (shows 𝓛 (MutSlice ℓ h.lft R)) (mut_at h y) (h.val ∷ []) (λ is.
      feq_i ! ℕ (count_of h.val) (length y) (counts is.0.0) $ move ! (2 ∷ 1 ∷ 0 ∷ []) $ done !)
  enters (shr_slice R L) y = qed 𝓛 (‵ (In (shr_slice R L) h y) ∷ []) ∵ fsplit ! $
      use1 𝓛 (‵ (owned (shr_slice R L) ℓ h y) ⊛ ‵ (owned (shr_slice R L) (named 0) h y)) ((shr_slice_copy 𝓛 (named 0) h.lft R L).twice (shr_at h y)
      (h.val ∷ [])) $ split ! $ move ! (2 ∷ 0 ∷ 1 ∷ []) $ done !

  -- the way back is a guarded item: the last list is as long
  pub leaves : (k : Kind) (y : Value k) (w : Bound ℓ h k y)
      → ent 𝓤 (sep 𝓤 (sem 𝓛 (token h)) (sep 𝓤 (sem 𝓛 (left-of ℓ h k y w)) (sem 𝓛 (Kept k h y)))) (guard 𝓤 (Same ℓ h k y w)
      (sem 𝓛 (Out k h (last_of ℓ h k y w))))
  leaves (mut_ref R) y w = qed 𝓛 (‵ (token h) ∷ ‵ (Said (mut_ref R) h w) ∷ ‵ ftrue ∷ []) ∵ check ! tt $ move ! (1 ∷ 0 ∷ []) $ fjoin ! $
      keep ! (0 ∷ []) $ done !
  leaves (shr_ref R L) y w = qed 𝓛 (‵ (token h) ∷ ‵ ftrue ∷ ‵ (owned (shr_ref R L) (named 0) h y) ∷ []) ∵ check ! tt $ move ! (2 ∷ 0 ∷ []) $ fjoin ! $
      keep ! (0 ∷ []) $ done !
  leaves (mut_slice R) y w = qed 𝓛 (‵ (token h) ∷ ‵ (left-of ℓ h (mut_slice R) y w) ∷ ‵ (Kept (mut_slice R) h y) ∷ []) ∵ move ! (2 ∷ []) $
      feq_l ! (λ c. move ! (1 ∷ []) $ fsplit ! $ fsplit ! $ move ! (1 ∷ []) $
      feq_l ! (λ e. rewrite ! 1 (λ (m : ℕ). ‵ (slice_body R m)) (sym c) refl $
      fjoin ! $ check ! e $ fjoin ! $ keep ! (0 ∷ []) $ done !))
  leaves (shr_slice R L) y w = qed 𝓛 (‵ (token h) ∷ ‵ ftrue ∷ ‵ (owned (shr_slice R L) (named 0) h y) ∷ []) ∵ check ! tt $ move ! (2 ∷ 0 ∷ []) $ fjoin ! $
      keep ! (0 ∷ []) $ done !

  pub gives_up : (k : Kind) (y : Value k) → ent 𝓤 (sem 𝓛 (In k h y)) (sem 𝓛 (Out k h y))
  gives_up (mut_ref R) y = qed 𝓛 (‵ (In (mut_ref R) h y) ∷ []) ∵ fsplit ! $ fsplit3 ! $ move ! (1 ∷ []) $
      use1 𝓛 (‵ (fres h.name (R.coded.code y))) (𝓛.names.obs-res h.name (R.coded.code y)) $ move ! (0 ∷ 2 ∷ []) $ fjoin ! $ move ! (0 ∷ 2 ∷ []) $ fjoin ! $ keep ! (0 ∷ []) $
      done !
  gives_up (shr_ref R L) y = qed 𝓛 (‵ (In (shr_ref R L) h y) ∷ []) ∵ done !
  gives_up (mut_slice R) y = qed 𝓛 (‵ (In (mut_slice R) h y) ∷ []) ∵ fsplit ! $ fsplit3 ! $ fsplit ! $
      feq_l ! (λ e. rewrite ! 2 (λ (m : ℕ). ‵ (slice_body R m)) (sym (counts e)) refl $ drop ! $
      use1 𝓛 (‵ (fres h.name ((coded_holeys R).code (heres R y)))) (𝓛.names.obs-res h.name ((coded_holeys R).code (heres R y))) $
      use1 𝓛 (‵ (finally R h.name y)) (res-finally 𝓛 (named 0) h.lft R h.name y) $ fjoin ! $ fjoin ! $ done !)
  gives_up (shr_slice R L) y = qed 𝓛 (‵ (In (shr_slice R L) h y) ∷ []) ∵ done !

-- as a step, for the first entry
module _ {M : Type 1} {𝓤 : Ura M} {𝓛 : Logic 𝓤} {K : Type 0} {Γ : List (Item 𝓤)} {G : Goal 𝓤 𝓛.H} where
  pub gives : K → (k : Kind) (h : Loan) (y : Value k) → Step K 𝓛 (‵ (Out k h y) ∷ Γ) G (‵ (In k h y) ∷ Γ) G
  gives t k h y = use1 𝓛 (‵ (Out k h y)) (gives_up 𝓛 (named 0) h k y)
