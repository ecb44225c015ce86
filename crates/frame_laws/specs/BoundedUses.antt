-- What bounded frames give an engine: bounds of words and designators, the sheet's length, that a next statement number past the last
-- leaves, and that looking a name up follows links downwards, so that the frames' number bounds it.
use Rattle.std.specs.Prelude.{ℕ, zero, suc, pred, ◌+◌, ◌*◌, ◌/◌, ◌≤◌, ◌<◌, ◌≡◌, refl, List, [], ◌∷◌, ℤ, length}
use Rattle.std.proofs.Common.{zero-add, suc-add, arith, sym, ap, ◌∙◌, subst, inl, inr, length-append}
use Rattle.std.proofs.Math.Option.{none, some}
use Rattle.std.proofs.Math.ListN.{get_elem?}
use Rattle.std.specs.Int.Signed.{mag}
use Rattle.language.specs.Sheet.{sheet_share}
use Rattle.language.specs.Text.{Stmt, block_stmts}
use Rattle.laws.specs.Tests.{by-lookup}
use Rattle.frames.specs.Frame.{Frame, numbered, frame_names, position_from, seek_from, designates, frame_number, place, word_at, frame_stmt, frame_words, frame_sheet}
use Rattle.laws.specs.Lists.{get_elem-bound, get_elem-in}
use Rattle.frame_laws.specs.Finding.{word_at-found, word_at-none, seek-spent, seek-none, seek-here, seek-on}
use Rattle.frames.specs.Numbered.{numbered-zero, numbered-bounds}
use Rattle.frame_laws.specs.Innermost.{frame_words-length}
use Rattle.frame_laws.specs.Formed.{names-few}
use Rattle.frame_laws.specs.Bounds.{Points, FrameBounded, BoundedFrames, Target}
use Rattle.frame_laws.specs.Names.{numbered-bounded, designates-target}

-- every word read is within signed 32 bits
pub word_at-small : (fs : List Frame) (x : ℕ) → BoundedFrames fs → mag (word_at fs x) < 2147483648
word_at-small fs x h =
    by-lookup (numbered fs (frame_number x)) (λ e. subst (λ (z : ℤ). mag z < 2147483648) (sym (word_at-none fs x e)) (omega arith))
    (λ f e. subst (λ (z : ℤ). mag z < 2147483648) (sym (word_at-found fs x f e)) ((numbered-bounded fs (frame_number x) f h e).small (place x)))

-- a designator is at most that of the last name of the last frame
pub points-most : (fs : List Frame) (k x : ℕ) → BoundedFrames fs → Points fs k x → x ≤ k * 64 + 32
points-most fs k x h p =
    let few = names-few p.home.text p.home.formals (numbered-bounded fs (x / 64) p.home h p.stands).in-form in
    omega (arith, p.last, p.within)

pub designates-most : (fs : List Frame) (n : ℕ) → BoundedFrames fs → designates fs n ≤ length fs * 64 + 32
designates-most fs n h = go (designates fs n) (designates-target fs n h)
  where
    go : (x : ℕ) → Target fs x → x ≤ length fs * 64 + 32
    go x (inl e) = omega arith
    go x (inr p) = points-most fs (length fs) x h p

-- at most `sheet_share` words for each frame
sheet-words : (fs : List Frame) → ((k : ℕ) (f : Frame) → get_elem? fs k ≡ some f → length f.words ≤ 32) → length (frame_sheet fs) ≤ length fs * sheet_share
unfolding frame_sheet
sheet-words [] h = omega arith
sheet-words (f ∷ fs) h =
    omega (arith, length-append (frame_words f) (frame_sheet fs), frame_words-length f, h 0 f refl, sheet-words fs (λ k g e. h (suc k) g e))

pub sheet-most : (fs : List Frame) → BoundedFrames fs → length (frame_sheet fs) ≤ length fs * sheet_share
sheet-most fs h = sheet-words fs (λ k f e. (h k f e).few)

-- the next statement number names a statement, or is one past the last and the frame is left
pub next-some : (fs : List Frame) (k : ℕ) (f : Frame) → FrameBounded fs k f → f.next ≤ length (block_stmts f.text) → (x : Stmt) × (frame_stmt f ≡ some x)
unfolding frame_stmt
next-some fs k f h n = get_elem-in (block_stmts f.text) (pred f.next) (omega (arith, h.next-first))

pub next-none : (fs : List Frame) (k : ℕ) (f : Frame) → FrameBounded fs k f → length (block_stmts f.text) < f.next → frame_stmt f ≡ none
unfolding frame_stmt
next-none fs k f h n = by-lookup (frame_stmt f) (λ e. e) (λ x e. absurd (omega (arith, get_elem-bound (block_stmts f.text) (pred f.next) x e)))

-- A chain of links goes down: from frame k it has at most k frames

pub seek-enough : (fs : List Frame) → BoundedFrames fs → (m k n j : ℕ) → k ≤ m → seek_from (suc m) fs k n j ≡ seek_from m fs k n j
seek-enough fs h zero k n j l = seek-none 1 fs k n j (numbered-zero fs k l) ∙ sym (seek-spent fs k n j)
seek-enough fs h (suc m) k n j l =
    by-lookup (numbered fs k) (λ e. seek-none (suc (suc m)) fs k n j e ∙ sym (seek-none (suc m) fs k n j e))
    (λ f e. by-lookup (position_from n 1 (frame_names f))
    (λ p. let b = (numbered-bounded fs k f h e).link-last in
    let c = (numbered-bounds fs k f e).0 in
    seek-on (suc m) fs k n j f e p ∙ seek-enough fs h m f.link n (suc j) (omega arith) ∙ sym (seek-on m fs k n j f e p))
    (λ i p. seek-here (suc m) fs k n j f i e p ∙ sym (seek-here m fs k n j f i e p)))

-- so fuel above k counts for nothing
pub seek-fuel : (fs : List Frame) → BoundedFrames fs → (d k n j : ℕ) → seek_from (d + k) fs k n j ≡ seek_from k fs k n j
seek-fuel fs h zero k n j = ap (λ m. seek_from m fs k n j) (zero-add k)
seek-fuel fs h (suc d) k n j = ap (λ m. seek_from m fs k n j) (suc-add d k) ∙ seek-enough fs h (d + k) k n j (omega arith) ∙ seek-fuel fs h d k n j
