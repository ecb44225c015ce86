-- What a name designates in bounded frames: nothing, or a declared name of a live frame (`designates-target`).
use Rattle.std.specs.Prelude.{ℕ, zero, suc, pred, ◌+◌, ◌*◌, ◌/◌, ◌%◌, ◌≤◌, ◌<◌, true, false, ◌≡◌, List, leb, length}
use Rattle.std.proofs.Common.{arith, sym, ◌∙◌, inl, inr}
use Rattle.std.proofs.Math.Path.{ap, subst}
use Rattle.std.proofs.Math.Option.{some, none-ne-some}
use borrow.Author.Tests.{leb-true, leb-false}
use Rattle.language.specs.Text.{block_decls}
use Rattle.laws.specs.Tests.{split, by-lookup, none≢some, some_inj}
use Rattle.frames.specs.Frame.{Frame, NamePlace, numbered, frame_names, position_from, seek_from, seek_name, designator_in, finally, designates}
use Rattle.frames.specs.Numbered.{numbered-bounds}
use Rattle.frames.specs.Positions.{position-range}
use Rattle.frame_laws.specs.Parts.{frame_names-length}
use Rattle.frame_laws.specs.Finding.{seek-spent, seek-none, seek-here, seek-on, designates-found, designates-none, finally-formal, finally-declared}
use Rattle.frame_laws.specs.Formed.{names-few}
use Rattle.frame_laws.specs.Bounds.{Points, FrameBounded, BoundedFrames, Target}
use Rattle.frame_laws.specs.BoundedFrames.{points-weaker}

-- A name is found at a position of the frame found

pub record NameFound (fs : List Frame) (n : ℕ) (p : NamePlace) : Type 0 where
  pub frame : Frame
  pub stands : numbered fs p.number ≡ some frame
  pub named : position_from n 1 (frame_names frame) ≡ some p.position

seek_found : (m : ℕ) (fs : List Frame) (k n j : ℕ) (p : NamePlace) → seek_from m fs k n j ≡ some p → NameFound fs n p
seek_found zero fs k n j p e = none≢some (sym (seek-spent fs k n j) ∙ e)
seek_found (suc m) fs k n j p e =
    by-lookup (numbered fs k) (λ c. none≢some (sym (seek-none (suc m) fs k n j c) ∙ e))
    (λ f c. by-lookup (position_from n 1 (frame_names f)) (λ d. seek_found m fs f.link n (suc j) p (sym (seek-on m fs k n j f c d) ∙ e))
    (λ i d. subst (NameFound fs n) (some_inj (sym (seek-here m fs k n j f i c d) ∙ e)) (record { frame = f; stands = c; named = d })))

pub seek_name-found : (fs : List Frame) (n : ℕ) (p : NamePlace) → seek_name fs n ≡ some p → NameFound fs n p
unfolding seek_name
seek_name-found fs n p e = seek_found (length fs) fs (length fs) n 0 p e

-- In bounded frames it designates a declared name

pub numbered-bounded : (fs : List Frame) (k : ℕ) (f : Frame) → BoundedFrames fs → numbered fs k ≡ some f → FrameBounded fs (pred k) f
unfolding numbered
numbered-bounded fs zero f h e = absurd (none-ne-some f e)
numbered-bounded fs (suc k) f h e = h k f e

pub points-declared : (fs : List Frame) (k p : ℕ) (f : Frame) → numbered fs k ≡ some f → length f.formals < p → p ≤ length f.formals + length (block_decls f.text) → p < 64 → Points fs (length fs) (k * 64 + p)
points-declared fs k p f e a b c =
    let d : (k * 64 + p) / 64 ≡ k = omega arith in
    let m : (k * 64 + p) % 64 ≡ p = omega arith in
    let q = numbered-bounds fs k f e in
    record { home = f; stands = ap (numbered fs) d ∙ e; first = omega (arith, q.0); last = omega (arith, q.1); past = omega arith; within = omega arith }

module _ (fs : List Frame) (n : ℕ) (p : NamePlace) (h : BoundedFrames fs) (q : NameFound fs n p) where
  at-formal : leb p.position (length q.frame.formals) ≡ true → Points fs (length fs) (finally fs p)
  unfolding designator_in
  at-formal t =
      let f = q.frame in
      let s = numbered-bounded fs p.number f h q.stands in
      let b = position-range n 1 p.position (frame_names f) q.named in
      let c = numbered-bounds fs p.number f q.stands in
      let w = s.handed (pred p.position) (omega (arith, b.0, leb-true p.position (length f.formals) t)) in
      subst (Points fs (length fs)) (sym (finally-formal fs p f q.stands t ∙ ap designator_in w.1)) (points-weaker fs (pred p.number) (length fs) w.0 (omega (arith, c.1)) w.2)

  at-declared : leb p.position (length q.frame.formals) ≡ false → Points fs (length fs) (finally fs p)
  at-declared t =
      let f = q.frame in
      let s = numbered-bounded fs p.number f h q.stands in
      let b = position-range n 1 p.position (frame_names f) q.named in
      let few = names-few f.text f.formals s.in-form in
      let len = frame_names-length f in
      subst (Points fs (length fs)) (sym (finally-declared fs p f q.stands t)) (points-declared fs p.number p.position f q.stands (leb-false _ _ t) (omega (arith, b.1)) (omega (arith, b.1)))

  found_target : Points fs (length fs) (finally fs p)
  found_target = split (leb p.position (length q.frame.formals)) at-formal at-declared

pub designates-target : (fs : List Frame) (n : ℕ) → BoundedFrames fs → Target fs (designates fs n)
designates-target fs n h = by-lookup (seek_name fs n) (λ e. inl (designates-none fs n e)) (λ p e. inr (subst (Points fs (length fs)) (sym (designates-found fs n p e)) (found_target fs n p h (seek_name-found fs n p e))))
