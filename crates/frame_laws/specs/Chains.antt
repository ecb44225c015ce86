-- What frames above do not change: a chain of links from a frame, and a designator of a frame, look at no frame above it. So a name in
-- a frame just entered is one of its own, or is looked up from its link in the frames below (`entered-own`, `entered-around`).
use Rattle.std.specs.Prelude.{ℕ, zero, suc, ◌+◌, ◌≤◌, ◌<◌, ◌≡◌, refl, List, [], ◌∷◌, ◌++◌, length}
use Rattle.std.proofs.Common.{arith, sym, ap, ◌∙◌}
use Rattle.std.proofs.Math.Option.{none, some, none-ne-some, some-injective}
use Rattle.laws.specs.Tests.{by-lookup}
use Rattle.frames.specs.Frame.{Frame, NamePlace, numbered, frame_names, position_from, seek_from, seek_name, links_followed, frame_number, decl_of, kind_of, word_at}
use Rattle.laws.specs.Lists.{snoc-length}
use Rattle.frame_laws.specs.Finding.{decl_of-found, decl_of-none, kind_of-found, kind_of-none, word_at-found, word_at-none, seek_name-starts, seek-spent, seek-none, seek-here, seek-on, seek-same, links-found, links-none}
use Rattle.frames.specs.Numbered.{numbered-append, numbered-seam}
use Rattle.frame_laws.specs.Bounds.{BoundedFrames}
use Rattle.frame_laws.specs.Names.{numbered-bounded}

module _ (pre rest : List Frame) where
  pub decl_of-below : (x : ℕ) → frame_number x ≤ length pre → decl_of (pre ++ rest) x ≡ decl_of pre x
  decl_of-below x h =
      let b = numbered-append pre rest (frame_number x) h in
      by-lookup (numbered pre (frame_number x)) (λ e. decl_of-none (pre ++ rest) x (b ∙ e) ∙ sym (decl_of-none pre x e)) (λ f e. decl_of-found (pre ++ rest) x f (b ∙ e) ∙ sym (decl_of-found pre x f e))

  pub kind_of-below : (x : ℕ) → frame_number x ≤ length pre → kind_of (pre ++ rest) x ≡ kind_of pre x
  kind_of-below x h =
      let b = decl_of-below x h in
      by-lookup (decl_of pre x) (λ e. kind_of-none (pre ++ rest) x (b ∙ e) ∙ sym (kind_of-none pre x e)) (λ d e. kind_of-found (pre ++ rest) x d (b ∙ e) ∙ sym (kind_of-found pre x d e))

  pub word_at-below : (x : ℕ) → frame_number x ≤ length pre → word_at (pre ++ rest) x ≡ word_at pre x
  word_at-below x h =
      let b = numbered-append pre rest (frame_number x) h in
      by-lookup (numbered pre (frame_number x)) (λ e. word_at-none (pre ++ rest) x (b ∙ e) ∙ sym (word_at-none pre x e)) (λ f e. word_at-found (pre ++ rest) x f (b ∙ e) ∙ sym (word_at-found pre x f e))

  pub seek-below : BoundedFrames pre → (m k n j : ℕ) → k ≤ length pre → seek_from m (pre ++ rest) k n j ≡ seek_from m pre k n j
  seek-below h =
      seek-same (λ i. i ≤ length pre) pre (pre ++ rest)
      (record {
        absent = λ i l e. numbered-append pre rest i l ∙ e;
        present = λ i f l e. (f, numbered-append pre rest i l ∙ e, refl, refl, omega (arith, (numbered-bounded pre i f h e).link-last));
      })

-- a name in the frame g, innermost above fs
module _ (fs : List Frame) (g : Frame) (n : ℕ) where
  innermost-first : seek_name (fs ++ (g ∷ [])) n ≡ seek_from (suc (length fs)) (fs ++ (g ∷ [])) (suc (length fs)) n 0
  innermost-first = seek_name-starts (fs ++ (g ∷ [])) n ∙ ap (λ m. seek_from m (fs ++ (g ∷ [])) m n 0) (snoc-length fs g)

  pub entered-own : (p : ℕ) → position_from n 1 (frame_names g) ≡ some p → seek_name (fs ++ (g ∷ [])) n ≡ some (record { number = suc (length fs); position = p; followed = 0 })
  entered-own p e = innermost-first ∙ seek-here (length fs) (fs ++ (g ∷ [])) (suc (length fs)) n 0 g p (numbered-seam fs g) e

  pub entered-around : BoundedFrames fs → g.link ≤ length fs → position_from n 1 (frame_names g) ≡ none → seek_name (fs ++ (g ∷ [])) n ≡ seek_from (length fs) fs g.link n 1
  entered-around h l e =
      innermost-first ∙ seek-on (length fs) (fs ++ (g ∷ [])) (suc (length fs)) n 0 g (numbered-seam fs g) e ∙ seek-below fs (g ∷ []) h (length fs) g.link n 1 l

-- fewer links are followed than there are frames
followed-most : (m : ℕ) (fs : List Frame) (k n j : ℕ) (p : NamePlace) → seek_from m fs k n j ≡ some p → p.followed < j + m
followed-most zero fs k n j p e = absurd (none-ne-some p (sym (seek-spent fs k n j) ∙ e))
followed-most (suc m) fs k n j p e =
    by-lookup (numbered fs k) (λ q. absurd (none-ne-some p (sym (seek-none (suc m) fs k n j q) ∙ e)))
    (λ f q. by-lookup (position_from n 1 (frame_names f)) (λ r. omega (arith, followed-most m fs f.link n (suc j) p (sym (seek-on m fs k n j f q r) ∙ e)))
    (λ i r. let c = ap (λ (x : NamePlace). x.followed) (some-injective _ p (sym (seek-here m fs k n j f i q r) ∙ e)) in omega (arith, c)))

pub links_followed-most : (fs : List Frame) (n : ℕ) → links_followed fs n ≤ length fs
links_followed-most fs n =
    by-lookup (seek_name fs n) (λ e. omega (arith, links-none fs n e)) (λ p e. omega (arith, links-found fs n p e, followed-most (length fs) fs (length fs) n 0 p (sym (seek_name-starts fs n) ∙ e)))
