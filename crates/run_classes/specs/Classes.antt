-- What is left where a statement's operation is none of those that a match names: a test of all sixteen numbers.
use Rattle.std.specs.Prelude.{ℕ, zero, suc, ◌<◌, Bool, true, false, ◌&&◌, List, [], ◌∷◌, ◌≡◌, eqb, get_or}
use Rattle.std.proofs.Common.{arith, ap, ◌∙◌, subst}
use Rattle.std.proofs.Math.Path.{refl, sym}
use borrow.Author.Tests.{eqb-true, eqb-false, eq-eqb, ne_eqb}
use Rattle.language.specs.Basics.{among}
use Rattle.laws.specs.Tests.{split, both}
use Rattle.run_moves.specs.Acting.{Op, constant-op, unpair-op, branch-formal-op, call-formal-op, operations, op_of}
use Rattle.resolved.specs.Layout.{operation_in}
use Rattle.run_statements.specs.Numbers.{op-of}
use Rattle.run_classes.specs.declared.Class.{Class}
use Rattle.run_classes.specs.declared.Class.TheVariants.{One as OneName, Add, Subtract, Compare, ArithmeticFormal, Branch, Pair, Query, Constant}
use Rattle.run_classes.specs.Asking.{one_class, add_class, subtract_class, compare_class, arithmetic_formal_class, branch_class, pair_class, query_class, constant_class, class_of}

-- none of these numbers: those that a match names, its last one first
abbrev pub NoneOf : List ℕ → ℕ → Type 0
NoneOf [] n = Unit {0}
NoneOf (k ∷ ks) n = NoneOf ks n × (n ≡ k → ⊥)

none-among : (ks : List ℕ) (n : ℕ) → NoneOf ks n → among n ks ≡ false
unfolding among
none-among [] n h = refl
none-among (k ∷ ks) n h = rw (ne_eqb n k h.1, among) (none-among ks n h.0)

unfoldable all_below : (ℕ → Bool) → ℕ → Bool
all_below t zero = true
all_below t (suc n) = t n && all_below t n

below : (t : ℕ → Bool) (m n : ℕ) → all_below t m ≡ true → n < m → t n ≡ true
unfolding all_below
below t zero n a h = absurd (omega arith)
below t (suc m) n a h =
    let b = both (t m) (all_below t m) a in
    split (eqb n m) (λ e. ap t (eqb-true n m e) ∙ b.0) (λ e. below t m n b.1 (omega (arith, eqb-false n m e)))

abbrev pub numbered : ℕ → Op
numbered n = get_or operations n constant-op

unfoldable unless : List ℕ → (ℕ → Bool) → ℕ → Bool
unless ks t n = elim (among n ks) [ true ↦ true | false ↦ t n ]

module _ (ks : List ℕ) (t : ℕ → Bool) (a : all_below (unless ks t) 16 ≡ true) where
  rest-holds : (n : ℕ) → n < 16 → NoneOf ks n → t n ≡ true
  unfolding unless
  rest-holds n h r = let e = none-among ks n r in rw (e, unless) at (below (unless ks t) 16 n a h)

-- by which classes are compared
unfoldable class_number : Class → ℕ
class_number OneName = 0
class_number Add = 1
class_number Subtract = 2
class_number Compare = 3
class_number ArithmeticFormal = 4
class_number Branch = 5
class_number Pair = 6
class_number Query = 7
class_number Constant = 8

-- the operation of a class that is none of these
unfoldable is_last : Class → ℕ → ℕ → Bool
is_last class last n = elim (eqb (class_number (class_of (numbered n))) (class_number class)) [ true ↦ eqb n last | false ↦ true ]

module _ (class : Class) (last : ℕ) (ks : List ℕ) (a : all_below (unless ks (is_last class last)) 16 ≡ true) where
  last-left : (v : ℕ) → class_of (op_of v) ≡ class → NoneOf ks (operation_in v) → operation_in v ≡ last
  unfolding is_last
  last-left v e r =
      let same = ap class_number (sym (ap class_of (op-of v (operation_in v) refl)) ∙ e) in
      let q = eq-eqb (class_number (class_of (numbered (operation_in v)))) (class_number class) same in
      eqb-true (operation_in v) last (rw (q, is_last) at (rest-holds ks (is_last class last) a (operation_in v) (omega arith) r))

pub add-only : (v : ℕ) → class_of (op_of v) ≡ add_class → operation_in v ≡ 1
unfolding all_below unless among is_last operations class_of class_number
add-only v e = last-left add_class 1 [] refl v e tt

pub subtract-only : (v : ℕ) → class_of (op_of v) ≡ subtract_class → operation_in v ≡ 2
unfolding all_below unless among is_last operations class_of class_number
subtract-only v e = last-left subtract_class 2 [] refl v e tt

pub compare-only : (v : ℕ) → class_of (op_of v) ≡ compare_class → operation_in v ≡ 3
unfolding all_below unless among is_last operations class_of class_number
compare-only v e = last-left compare_class 3 [] refl v e tt

pub arithmetic-only : (v : ℕ) → class_of (op_of v) ≡ arithmetic_formal_class → operation_in v ≡ 12
unfolding all_below unless among is_last operations class_of class_number
arithmetic-only v e = last-left arithmetic_formal_class 12 [] refl v e tt

pub query-only : (v : ℕ) → class_of (op_of v) ≡ query_class → operation_in v ≡ 10
unfolding all_below unless among is_last operations class_of class_number
query-only v e = last-left query_class 10 [] refl v e tt

pub constant-only : (v : ℕ) → class_of (op_of v) ≡ constant_class → operation_in v ≡ 0
unfolding all_below unless among is_last operations class_of class_number
constant-only v e = last-left constant_class 0 [] refl v e tt

-- A match on the operation at a place, from what the code has read there: the word, and its operation.

module _ {v w o : ℕ} (p : v ≡ w) (q : o ≡ operation_in v) where
  -- an arm's operation
  pub op-at : (n : ℕ) → o ≡ n → op_of w ≡ numbered n
  op-at n e = ap op_of (sym p) ∙ op-of v n (sym q ∙ e)

  pub class-at : (n : ℕ) → o ≡ n → class_of (numbered n) ≡ class_of (op_of w)
  class-at n e = ap class_of (sym (op-at n e))

  -- and what is left for the last arm
  module _ (class : Class) (last : ℕ) (ks : List ℕ) (a : all_below (unless ks (is_last class last)) 16 ≡ true) where
    rest-is : class_of (op_of w) ≡ class → NoneOf ks o → op_of w ≡ numbered last
    rest-is e r = op-at last (q ∙ last-left class last ks a v (ap class_of (ap op_of p) ∙ e) (subst (NoneOf ks) q r))

  pub one_left : NoneOf (14 ∷ 13 ∷ 12 ∷ 11 ∷ 10 ∷ 9 ∷ 8 ∷ 7 ∷ 6 ∷ 5 ∷ 4 ∷ 3 ∷ 2 ∷ 1 ∷ 0 ∷ []) o → one_class ≡ class_of (op_of w)
  unfolding all_below unless among operations class_of
  one_left r =
      let e = rest-holds (14 ∷ 13 ∷ 12 ∷ 11 ∷ 10 ∷ 9 ∷ 8 ∷ 7 ∷ 6 ∷ 5 ∷ 4 ∷ 3 ∷ 2 ∷ 1 ∷ 0 ∷ []) (λ n. eqb n 15) refl o (omega arith) r in
      class-at 15 (eqb-true o 15 e)

  pub call-left : class_of (op_of w) ≡ one_class → NoneOf (14 ∷ 11 ∷ 7 ∷ 6 ∷ 5 ∷ []) o → op_of w ≡ call-formal-op
  unfolding all_below unless among is_last operations class_of class_number
  call-left = rest-is one_class 15 (14 ∷ 11 ∷ 7 ∷ 6 ∷ 5 ∷ []) refl

  pub branch-left : class_of (op_of w) ≡ branch_class → NoneOf (4 ∷ []) o → op_of w ≡ branch-formal-op
  unfolding all_below unless among is_last operations class_of class_number
  branch-left = rest-is branch_class 13 (4 ∷ []) refl

  pub unpair-left : class_of (op_of w) ≡ pair_class → NoneOf (8 ∷ []) o → op_of w ≡ unpair-op
  unfolding all_below unless among is_last operations class_of class_number
  unpair-left = rest-is pair_class 9 (8 ∷ []) refl
