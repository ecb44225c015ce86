-- Finding: what a designator gives, its frame's number and its name's place there; and what a name designates, looked up along the
-- links. Read each law as: where the frame or the name is found so, the lookup comes out so.
use Rattle.std.specs.Prelude.{ℕ, zero, suc, pred, ◌+◌, ◌-◌, ◌*◌, ◌≡◌, refl, true, false, List, leb, ℤ, pos, length, get_or, set}
use Rattle.std.proofs.Common.{sym, ap, ◌∙◌}
use Rattle.std.proofs.Math.Option.{Option, none, some, none-ne-some}
use Rattle.std.proofs.Math.ListN.{get_elem?}
use Rattle.language.specs.Text.{Decl, block_decls, decl_kind}
use Rattle.laws.specs.Tests.{by-lookup}
use Rattle.frames.specs.Frame.{Frame, NamePlace, rewritten, numbered, frame_names, position_from, seek_from, seek_name, designator_in, finally, designates, links_followed, frame_number, place, decl_of, kind_of, word_at, put_word}

pub decl_of-found : (fs : List Frame) (x : ℕ) (f : Frame) → numbered fs (frame_number x) ≡ some f → decl_of fs x ≡ get_elem? (block_decls f.text) (place x - length f.formals)
unfolding decl_of
decl_of-found fs x f e = rw (e, decl_of)

pub decl_of-none : (fs : List Frame) (x : ℕ) → numbered fs (frame_number x) ≡ none → decl_of fs x ≡ none
unfolding decl_of
decl_of-none fs x e = rw (e, decl_of)

pub decl_of-frame : (fs : List Frame) (x : ℕ) (d : Decl) → decl_of fs x ≡ some d → (f : Frame) × (numbered fs (frame_number x) ≡ some f)
decl_of-frame fs x d e = go (numbered fs (frame_number x)) refl
  where
    go : (o : Option Frame) → numbered fs (frame_number x) ≡ o → (f : Frame) × (numbered fs (frame_number x) ≡ some f)
    go none n = absurd (none-ne-some d (sym (decl_of-none fs x n) ∙ e))
    go (some f) n = (f, n)

pub kind_of-found : (fs : List Frame) (x : ℕ) (d : Decl) → decl_of fs x ≡ some d → kind_of fs x ≡ some (decl_kind d)
unfolding kind_of
kind_of-found fs x d e = rw (e, kind_of)

pub kind_of-none : (fs : List Frame) (x : ℕ) → decl_of fs x ≡ none → kind_of fs x ≡ none
unfolding kind_of
kind_of-none fs x e = rw (e, kind_of)

pub word_at-found : (fs : List Frame) (x : ℕ) (f : Frame) → numbered fs (frame_number x) ≡ some f → word_at fs x ≡ get_or f.words (place x) (pos 0)
unfolding word_at
word_at-found fs x f e = rw (e, word_at)

pub word_at-none : (fs : List Frame) (x : ℕ) → numbered fs (frame_number x) ≡ none → word_at fs x ≡ pos 0
unfolding word_at
word_at-none fs x e = rw (e, word_at)

pub put_word-found : (fs : List Frame) (x : ℕ) (z : ℤ) (f : Frame) → numbered fs (frame_number x) ≡ some f → put_word fs x z ≡ set fs (pred (frame_number x)) (rewritten f (set f.words (place x) z))
unfolding put_word
put_word-found fs x z f e = rw (e, put_word)

pub put_word-none : (fs : List Frame) (x : ℕ) (z : ℤ) → numbered fs (frame_number x) ≡ none → put_word fs x z ≡ fs
unfolding put_word
put_word-none fs x z e = rw (e, put_word)

-- a name along the links from frame k, j links having been followed
pub seek_name-starts : (fs : List Frame) (n : ℕ) → seek_name fs n ≡ seek_from (length fs) fs (length fs) n 0
unfolding seek_name
seek_name-starts fs n = refl

pub seek-spent : (fs : List Frame) (k n j : ℕ) → seek_from 0 fs k n j ≡ none
unfolding seek_from
seek-spent fs k n j = refl

pub seek-none : (m : ℕ) (fs : List Frame) (k n j : ℕ) → numbered fs k ≡ none → seek_from m fs k n j ≡ none
unfolding seek_from
seek-none zero fs k n j e = refl
seek-none (suc m) fs k n j e = rw (seek_from, e)

module _ (m : ℕ) (fs : List Frame) (k n j : ℕ) where
  pub seek-here : (f : Frame) (p : ℕ) → numbered fs k ≡ some f → position_from n 1 (frame_names f) ≡ some p → seek_from (suc m) fs k n j ≡ some (record { number = k; position = p; followed = j })
  unfolding seek_from
  seek-here f p e q = rw (seek_from, e, q)

  pub seek-on : (f : Frame) → numbered fs k ≡ some f → position_from n 1 (frame_names f) ≡ none → seek_from (suc m) fs k n j ≡ seek_from m fs f.link n (suc j)
  unfolding seek_from
  seek-on f e q = rw (seek_from, e, q)

-- Stacks whose frames have the same names and links, so far as the chain of links goes: P holds of a frame's link where it holds of the frame.
pub record SameNames (P : ℕ → Type 0) (fs gs : List Frame) : Type 0 where
  pub absent : (k : ℕ) → P k → numbered fs k ≡ none → numbered gs k ≡ none
  pub present : (k : ℕ) (f : Frame) → P k → numbered fs k ≡ some f → (g : Frame) × (numbered gs k ≡ some g) × (frame_names g ≡ frame_names f) × (g.link ≡ f.link) × P f.link

pub seek-same : (P : ℕ → Type 0) (fs gs : List Frame) → SameNames P fs gs → (m k n j : ℕ) → P k → seek_from m gs k n j ≡ seek_from m fs k n j
seek-same P fs gs same zero k n j h = seek-spent gs k n j ∙ sym (seek-spent fs k n j)
seek-same P fs gs same (suc m) k n j h =
    by-lookup (numbered fs k) (λ e. seek-none (suc m) gs k n j (same.absent k h e) ∙ sym (seek-none (suc m) fs k n j e))
    (λ f e. let q = same.present k f h e in
    let names = ap (position_from n 1) q.2 in
    by-lookup (position_from n 1 (frame_names f))
    (λ p. seek-on m gs k n j q.0 q.1 (names ∙ p) ∙ ap (λ x. seek_from m gs x n (suc j)) q.3 ∙ seek-same P fs gs same m f.link n (suc j) q.4 ∙ sym (seek-on m fs k n j f e p))
    (λ i p. seek-here m gs k n j q.0 i q.1 (names ∙ p) ∙ sym (seek-here m fs k n j f i e p)))

-- a name of the text: what it designates, and the links followed to it
pub designates-found : (fs : List Frame) (n : ℕ) (p : NamePlace) → seek_name fs n ≡ some p → designates fs n ≡ finally fs p
unfolding designates
designates-found fs n p e = rw (e, designates)

pub designates-none : (fs : List Frame) (n : ℕ) → seek_name fs n ≡ none → designates fs n ≡ 0
unfolding designates
designates-none fs n e = rw (e, designates)

pub links-found : (fs : List Frame) (n : ℕ) (p : NamePlace) → seek_name fs n ≡ some p → links_followed fs n ≡ p.followed
unfolding links_followed
links-found fs n p e = rw (e, links_followed)

pub links-none : (fs : List Frame) (n : ℕ) → seek_name fs n ≡ none → links_followed fs n ≡ 0
unfolding links_followed
links-none fs n e = rw (e, links_followed)

pub finally-none : (fs : List Frame) (p : NamePlace) → numbered fs p.number ≡ none → finally fs p ≡ 0
unfolding finally
finally-none fs p e = rw (e, finally)

pub finally-formal : (fs : List Frame) (p : NamePlace) (f : Frame) → numbered fs p.number ≡ some f → leb p.position (length f.formals) ≡ true → finally fs p ≡ designator_in (get_or f.words (pred p.position) (pos 0))
unfolding finally
finally-formal fs p f e t = rw (e, finally, t)

pub finally-declared : (fs : List Frame) (p : NamePlace) (f : Frame) → numbered fs p.number ≡ some f → leb p.position (length f.formals) ≡ false → finally fs p ≡ p.number * 64 + p.position
unfolding finally
finally-declared fs p f e t = rw (e, finally, t)
