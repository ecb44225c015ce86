-- How many words a statement takes in the resolved script, by its operation, and that this is how many fields it has: `size-read`.
use Rattle.std.specs.Prelude.{ℕ, ◌+◌, ◌-◌, ◌*◌, ◌/◌, ◌%◌, ◌^◌, ◌≤◌, ◌<◌, Bool, ◌≡◌, eqb}
use native.Mathlib.Omega.{arith}
use Rattle.std.proofs.Math.Bool.{true, false}
use mathlib.Core.List.{List, [], ◌∷◌}
use Rattle.std.proofs.Math.Option.{some}
use Rattle.std.proofs.Math.Path.{refl, ap}
use Rattle.std.proofs.Common.{sym, ◌∙◌}
use Rattle.std.proofs.Math.ListN.{length, get_or, get_elem?}
use borrow.Author.Tests.{eq-eqb, ne_eqb}
use Rattle.language.specs.Text.{plus, minus, less, Action, CL, GO, IF, KN, AR, AD, RM, QY, Block, Stmt, BK, DO, block_at, block_stmts, stmt_at}
use Rattle.language.specs.Encoding.{operation_field, action_fields, block_fields, stmt_fields}
use Rattle.grammar.specs.Rules.{Keeps}
use Rattle.coordinates.specs.Enclosure.{Enclosing, enclosed, Enclosure, as-block, Encloses}
use Rattle.resolved.specs.Resolved.{place_of, end_place, chosen, resolved_action, resolved_of, Covers}
use Rattle.resolved.proofs.Places.{block-fields}
use Rattle.resolved.proofs.Standing.{action-covered, head-stands, bounds-stands}
use Rattle.resolved.proofs.Words.{head-operation, bounds-end}
use Rattle.resolved.specs.Layout.{operation_in, end_in}

-- four bits for each operation but the one that enters a block; a call's arguments come on top
abbrev pub sizes : ℕ
sizes = 3617872862303704404

unfoldable pub plain_size : ℕ → ℕ
plain_size operation = sizes / 2 ^ (4 * operation) % 16

-- a block goes on to where its text ends
unfoldable pub size_at : List ℕ → ℕ → ℕ
size_at code p =
    elim (eqb (operation_in (get_or code p 0)) 6) [
      | true ↦ end_in (get_or code (p + 1) 0) - p
      | false ↦ elim (eqb (get_or code p 0 % 8) 7) [ true ↦ 3 + get_or code (p + 2) 0 | false ↦ plain_size (operation_in (get_or code p 0)) ]
    ]

-- what is read of a statement at p stands in the array
pub record Readable (code : List ℕ) (p : ℕ) : Type 0 where
  pub here : p < 4096
  pub block : operation_in (get_or code p 0) ≡ 6 → (p + 1 < 4096) × (p ≤ end_in (get_or code (p + 1) 0))
  pub call : get_or code p 0 % 8 ≡ 7 → p + 2 < 4096

module _ (code : List ℕ) (p : ℕ) where
  pub size-block : operation_in (get_or code p 0) ≡ 6 → size_at code p ≡ end_in (get_or code (p + 1) 0) - p
  unfolding size_at
  size-block e = rw (size_at, eq-eqb (operation_in (get_or code p 0)) 6 e)

  pub size-call : (operation_in (get_or code p 0) ≡ 6 → ⊥) → get_or code p 0 % 8 ≡ 7 → size_at code p ≡ 3 + get_or code (p + 2) 0
  unfolding size_at
  size-call d e = rw (size_at, ne_eqb (operation_in (get_or code p 0)) 6 d, eq-eqb (get_or code p 0 % 8) 7 e)

  pub size-plain : (operation_in (get_or code p 0) ≡ 6 → ⊥) → (get_or code p 0 % 8 ≡ 7 → ⊥) → size_at code p ≡ plain_size (operation_in (get_or code p 0))
  unfolding size_at
  size-plain d e = rw (size_at, ne_eqb (operation_in (get_or code p 0)) 6 d, ne_eqb (get_or code p 0 % 8) 7 e)

  -- an operation that is neither
  plain : (w n : ℕ) → get_or code p 0 ≡ w → (operation_in w ≡ 6 → ⊥) → (w % 8 ≡ 7 → ⊥) → plain_size (operation_in w) ≡ n → size_at code p ≡ n
  plain w n e d f q = size-plain (λ h. d (ap operation_in (sym e) ∙ h)) (λ h. f (ap (λ x. x % 8) (sym e) ∙ h)) ∙ ap (λ x. plain_size (operation_in x)) e ∙ q

  called : (w n : ℕ) → get_or code p 0 ≡ w → (operation_in w ≡ 6 → ⊥) → w % 8 ≡ 7 → get_or code (p + 2) 0 ≡ n → size_at code p ≡ 3 + n
  called w n e d f q = size-call (λ h. d (ap operation_in (sym e) ∙ h)) (ap (λ x. x % 8) e ∙ f) ∙ ap (λ x. 3 + x) q

  either : (b : Bool) (v w n : ℕ) → get_or code p 0 ≡ chosen b v w → (get_or code p 0 ≡ v → size_at code p ≡ n) → (get_or code p 0 ≡ w → size_at code p ≡ n) → size_at code p ≡ n
  unfolding chosen
  either true v w n e f g = f e
  either false v w n e f g = g e

  pub size-action : (es : Enclosure) (a : Action) → Covers code p (resolved_action es a) → size_at code p ≡ length (action_fields a)
  unfolding resolved_action action_fields plain_size operation_field
  size-action es (KN t z) h = either _ 0 11 4 h.0 (λ e. plain 0 4 e (λ q. omega arith) (λ q. omega arith) refl) (λ e. plain 11 4 e (λ q. omega arith) (λ q. omega arith) refl)
  size-action es (AR t plus l r) h = either _ 1 12 5 h.0 (λ e. plain 1 5 e (λ q. omega arith) (λ q. omega arith) refl) (λ e. plain 12 5 e (λ q. omega arith) (λ q. omega arith) refl)
  size-action es (AR t minus l r) h = either _ 2 12 5 h.0 (λ e. plain 2 5 e (λ q. omega arith) (λ q. omega arith) refl) (λ e. plain 12 5 e (λ q. omega arith) (λ q. omega arith) refl)
  size-action es (AR t less l r) h = either _ 3 12 5 h.0 (λ e. plain 3 5 e (λ q. omega arith) (λ q. omega arith) refl) (λ e. plain 12 5 e (λ q. omega arith) (λ q. omega arith) refl)
  size-action es (IF v l) h = either _ 4 13 3 h.0 (λ e. plain 4 3 e (λ q. omega arith) (λ q. omega arith) refl) (λ e. plain 13 3 e (λ q. omega arith) (λ q. omega arith) refl)
  size-action es (GO l) h = either _ 5 14 2 h.0 (λ e. plain 5 2 e (λ q. omega arith) (λ q. omega arith) refl) (λ e. plain 14 2 e (λ q. omega arith) (λ q. omega arith) refl)
  size-action es (CL q xs) h =
      let z : p + 2 ≡ p + 1 + 1 = omega arith in
      let k : get_or code (p + 2) 0 ≡ length xs = ap (λ x. get_or code x 0) z ∙ h.1.1.0 in
      let m : 3 + length xs ≡ length (action_fields (CL q xs)) = omega arith in
      either _ 7 15 (3 + length xs) h.0 (λ e. called 7 (length xs) e (λ q. omega arith) refl k) (λ e. called 15 (length xs) e (λ q. omega arith) refl k) ∙ m
  size-action es (AD g m) h = plain 8 3 h.0 (λ q. omega arith) (λ q. omega arith) refl
  size-action es (RM g m) h = plain 9 3 h.0 (λ q. omega arith) (λ q. omega arith) refl
  size-action es (QY t g m) h = plain 10 4 h.0 (λ q. omega arith) (λ q. omega arith) refl

two_fields : (a : Action) → 2 ≤ length (action_fields a)
unfolding action_fields
two_fields (CL p xs) = omega arith
two_fields (GO l) = omega arith
two_fields (IF v l) = omega arith
two_fields (KN t z) = omega arith
two_fields (AR t o x y) = omega arith
two_fields (AD g m) = omega arith
two_fields (RM g m) = omega arith
two_fields (QY t g m) = omega arith

-- what takes two words or more within the script can be read
pub readable : (code : List ℕ) (p n : ℕ) → size_at code p ≡ n → 2 ≤ n → p + n ≤ 4096 → Readable code p
readable code p n e l h =
    record {
      here = omega arith;
      block = λ q. (omega arith, omega (arith, size-block code p q));
      call = λ q. omega (arith, size-call code p (λ d. omega arith) q);
    }

pub end-sum : (b : Block) → end_place b ≡ place_of (block_at b) + length (block_fields b)
unfolding end_place
end-sum b = refl

-- a statement of an enclosed block
module _ (code : List ℕ) (name : ℕ) (t : Block) (keeps : Keeps t) (covered : Covers code 0 (resolved_of name t)) (e : Enclosing) (es : Enclosure) (within : Encloses t (e ∷ es)) where
  pub size-read : (i : ℕ) (x : Stmt) → get_elem? (block_stmts e.text) i ≡ some x → (size_at code (place_of (stmt_at x)) ≡ length (stmt_fields x)) × (2 ≤ length (stmt_fields x))
  unfolding stmt_at block_fields
  size-read i (DO at a) q = (size-action code (place_of at) (e ∷ es) a (action-covered code name t keeps covered e es within i at a q), two_fields a)
  size-read i (BK b) q =
      let w : Encloses t (enclosed [] b ∷ e ∷ es) = (as-block i q refl, within) in
      let p = place_of (block_at b) in
      let head : get_or code p 0 % 256 ≡ 6 = ap (λ v. v % 256) (head-stands code name t keeps covered (enclosed [] b) (e ∷ es) w) ∙ head-operation t keeps (enclosed [] b) (e ∷ es) w in
      let bounds : end_in (get_or code (p + 1) 0) ≡ end_place b = ap end_in (bounds-stands code name t keeps covered (enclosed [] b) (e ∷ es) w) ∙ bounds-end t keeps (enclosed [] b) (e ∷ es) w in
      (omega (arith, size-block code p (omega arith), end-sum b), omega (arith, block-fields b))
