-- Cells of declared instances. `Celled x` says that the designator x is one of 256 activations with 32 names each. `points-celled`: so is
-- the designator of a declared name in bounded frames; `name-points`: what a name designates is one of those. Its cell is one of 8,192
-- (`cell-bound`) and gives the designator back (`designator-of-cell`), so that no two have the same (`cell-injective`); activation and
-- position are the quotient and the remainder by 32. A formal's word is taken apart so too: `word_cell`, `word-target`. What a name leads
-- to depends on blocks and links alone: `target-alike`, `word-alike`.
use Prim.Native.Nat.{ℕ, pred, ◌+◌, ◌*◌, ◌%◌, ◌/◌, ◌≤◌, ◌<◌}
use Rattle.std.proofs.Common.{arith, inl, inr, ◌∙◌}
use Rattle.std.specs.Prelude.{List, ◌≡◌, length}
use Rattle.std.proofs.Math.Option.{none, some}
use Rattle.std.proofs.Math.Path.{sym, ap}
use Rattle.language.specs.Text.{Kind, Decl, block_decls}
use Rattle.laws.specs.Tests.{by-lookup, none≢some}
use Rattle.frames.specs.Frame.{Frame, numbered, designates, frame_number, place, decl_of}
use Rattle.frames.specs.Numbered.{numbered-zero, numbered-high}
use Rattle.frame_laws.specs.Bounds.{Points, BoundedFrames, Target}
use Rattle.frame_laws.specs.Names.{numbered-bounded, designates-target}
use Rattle.coordinates.specs.Enclosure.{Enclosing}
use Rattle.coordinates.specs.Chain.{enclosing, outline, SameOutlines}
use Rattle.coordinates.proofs.Along.{alike-none, alike-some}
use Rattle.coordinates.proofs.Statements.{declared-alike}
use Rattle.coordinates.proofs.Designated.{Designated}
use Rattle.resolved.specs.Resolved.{decl_target, position_in}
use Rattle.resolved.specs.Layout.{activation_in, held_from, cell_in, lead_in}
use Rattle.arrays.specs.Holds.{cell_of, designator_of, target_of, formal_word}

pub record Celled (x : ℕ) : Type 0 where
  pub number-low : 1 ≤ x / 64
  pub number-high : x / 64 ≤ 256
  pub place-low : 1 ≤ x % 64
  pub place-high : x % 64 ≤ 32

pub points-celled : (fs : List Frame) (k x : ℕ) → BoundedFrames fs → length fs ≤ 256 → Points fs k x → Celled x
points-celled fs k x bounded h p =
    let s = numbered-bounded fs (x / 64) p.home bounded p.stands in
    record {
      number-low = p.first;
      number-high = omega (arith, numbered-high fs (x / 64) p.home p.stands);
      place-low = omega (arith, p.past);
      place-high = omega (arith, p.within, s.count, s.few);
    }

-- what a name that stands for an instance designates is such a one
pub name-points : (fs : List Frame) (n : ℕ) (k : Kind) → BoundedFrames fs → Designated fs (designates fs n) k → Points fs (length fs) (designates fs n)
unfolding frame_number
name-points fs n k bounded d = go (designates-target fs n bounded)
  where
    go : Target fs (designates fs n) → Points fs (length fs) (designates fs n)
    go (inl e) = none≢some (sym (numbered-zero fs (designates fs n / 64) (omega arith)) ∙ d.stands)
    go (inr p) = p

-- in frames with the same blocks it is one too
pub points-over : (fs gs : List Frame) (b k x : ℕ) → SameOutlines b fs gs → x / 64 ≤ b → Points fs k x → Points gs k x
unfolding outline enclosing
points-over fs gs b k x a h p =
    let g = alike-some fs gs b a (x / 64) p.home h p.stands in
    let m : length g.0.formals ≡ length p.home.formals = ap (λ (o : Enclosing × ℕ). length o.0.formals) g.2 in
    let d : length (block_decls g.0.text) ≡ length (block_decls p.home.text) = ap (λ (o : Enclosing × ℕ). length (block_decls o.0.text)) g.2 in
    record { home = g.0; stands = g.1; first = p.first; last = p.last; past = omega (arith, p.past); within = omega (arith, p.within) }

-- the cell as a sum, with nothing taken away
pub cell-sum : (x : ℕ) → Celled x → cell_of x + 33 ≡ 32 * (x / 64) + x % 64
unfolding cell_of frame_number place
cell-sum x c =
    let e : 32 * pred (x / 64) + pred (x % 64) + 33 ≡ 32 * (x / 64) + x % 64 = omega arith in
    e

module _ (x : ℕ) (c : Celled x) where
  pub cell-bound : cell_of x < 8192
  cell-bound = omega (arith, cell-sum x c)

  pub designator-of-cell : designator_of (cell_of x) ≡ x
  unfolding designator_of
  designator-of-cell = omega (arith, cell-sum x c)

  pub cell-activation : activation_in (cell_of x) ≡ pred (frame_number x)
  unfolding frame_number
  cell-activation =
      let e : cell_of x / 32 ≡ pred (x / 64) = omega (arith, cell-sum x c) in
      e

  pub cell-place : position_in (cell_of x) ≡ place x
  unfolding place
  cell-place =
      let e : cell_of x % 32 ≡ pred (x % 64) = omega (arith, cell-sum x c) in
      e

pub cell-injective : (x y : ℕ) → Celled x → Celled y → cell_of x ≡ cell_of y → x ≡ y
cell-injective x y p q e = sym (designator-of-cell x p) ∙ ap designator_of e ∙ designator-of-cell y q

-- a formal's word

module _ (fs : List Frame) (x : ℕ) (c : Celled x) where
  pub word_cell : cell_in (formal_word fs x) ≡ cell_of x
  unfolding formal_word
  word_cell = omega (arith, cell-bound x c)

  pub word-target : lead_in (formal_word fs x) ≡ target_of fs x
  unfolding formal_word
  word-target = omega (arith, cell-bound x c)

  pub word_bound : target_of fs x ≤ 4096 → formal_word fs x < 2147483648
  unfolding formal_word
  word_bound h = omega (arith, cell-bound x c)

-- what a declared name leads to

pub target_found : (fs : List Frame) (x : ℕ) (f : Frame) (d : Decl) → numbered fs (frame_number x) ≡ some f → decl_of fs x ≡ some d → target_of fs x ≡ decl_target f.text d
unfolding target_of
target_found fs x f d e q = rw (e, target_of, q)

pub target-no-frame : (fs : List Frame) (x : ℕ) → numbered fs (frame_number x) ≡ none → target_of fs x ≡ 0
unfolding target_of
target-no-frame fs x e = rw (e, target_of)

pub target-no-decl : (fs : List Frame) (x : ℕ) (f : Frame) → numbered fs (frame_number x) ≡ some f → decl_of fs x ≡ none → target_of fs x ≡ 0
unfolding target_of
target-no-decl fs x f e q = rw (e, target_of, q)

module _ (fs gs : List Frame) (b : ℕ) (a : SameOutlines b fs gs) (x : ℕ) (h : frame_number x ≤ b) where
  pub target-alike : target_of gs x ≡ target_of fs x
  unfolding outline enclosing
  target-alike =
      let same : decl_of gs x ≡ decl_of fs x = declared-alike fs gs b a x h in
      by-lookup (numbered fs (frame_number x)) (λ e. target-no-frame gs x (alike-none fs gs b a (frame_number x) h e) ∙ sym (target-no-frame fs x e))
      (λ f e. let g = alike-some fs gs b a (frame_number x) f h e in
      by-lookup (decl_of fs x) (λ q. target-no-decl gs x g.0 g.1 (same ∙ q) ∙ sym (target-no-decl fs x f e q))
      (λ d q. target_found gs x g.0 d g.1 (same ∙ q) ∙ ap (λ (o : Enclosing × ℕ). decl_target o.0.text d) g.2 ∙ sym (target_found fs x f d e q)))

  pub word-alike : formal_word gs x ≡ formal_word fs x
  unfolding formal_word
  word-alike = ap (held_from (cell_of x)) target-alike
