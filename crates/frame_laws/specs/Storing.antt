-- A store through what a name designates: it changes the word there and no other, and nothing that a name designates.
-- Read `Target fs x` as "a name of the text designates x"; a store to 0 does nothing.
use Rattle.std.specs.Prelude.{ℕ, zero, suc, pred, ◌/◌, ◌%◌, ◌≤◌, ◌≡◌, refl, List, eqb, ℤ, pos, length, set}
use Rattle.std.proofs.Common.{arith, sym, ap, ◌∙◌, subst, inl, inr, length-set, get_or-set_same, get_or-set_other, eqb-true}
use Rattle.std.proofs.Math.Option.{some, some-injective, none-ne-some}
use Rattle.std.proofs.Math.ListN.{get_elem?}
use Rattle.std.proofs.lemmas.Bool.{eqb-false}
use Rattle.laws.specs.Tests.{split, by-lookup}
use Rattle.frames.specs.Frame.{Frame, rewritten, numbered, designates, links_followed, frame_number, place, decl_of, kind_of, word_at, put_word}
use Rattle.laws.specs.Lists.{get_elem-set-same, get_elem-set-other}
use Rattle.frame_laws.specs.Finding.{word_at-found, word_at-none, put_word-found, put_word-none}
use Rattle.frames.specs.Numbered.{numbered-zero, numbered-index}
use Rattle.frame_laws.specs.Bounds.{Points, BoundedFrames, Target}
use Rattle.frame_laws.specs.Names.{numbered-bounded}
use Rattle.frame_laws.specs.Likeness.{Like, LikeFrames, like-same, links_followed-like, designates-like, decl_of-like, kind_of-like}

like-all : (fs : List Frame) → LikeFrames fs fs
like-all fs = record { count = refl; each = λ k f e. (f, e, like-same f) }

like-rewritten : (f : Frame) (i : ℕ) (z : ℤ) → length f.formals ≤ i → Like f (rewritten f (set f.words i z))
unfolding rewritten
like-rewritten f i z h = record { formals = refl; text = refl; link = refl; handed = λ j l. get_or-set_other f.words i j z (pos 0) (λ e. omega arith) }

like-set : (fs : List Frame) (m : ℕ) (f g : Frame) → get_elem? fs m ≡ some f → Like f g → LikeFrames fs (set fs m g)
like-set fs m f g e h = record { count = length-set fs m g; each = at }
  where
    at : (k : ℕ) (x : Frame) → get_elem? fs k ≡ some x → (y : Frame) × (get_elem? (set fs m g) k ≡ some y) × Like x y
    at k x d =
        split (eqb k m)
        (λ t. let c = eqb-true k m t in
        (g, ap (get_elem? (set fs m g)) c ∙ get_elem-set-same fs m f g e, subst (λ (y : Frame). Like y g) (some-injective f x (sym e ∙ ap (get_elem? fs) (sym c) ∙ d)) h))
        (λ t. (x, get_elem-set-other fs m k g (eqb-false k m t) ∙ d, like-same x))

pub like-put : (fs : List Frame) (x : ℕ) (z : ℤ) → Target fs x → LikeFrames fs (put_word fs x z)
unfolding frame_number place
like-put fs x z (inl e) = subst (LikeFrames fs) (sym (ap (λ y. put_word fs y z) e ∙ put_word-none fs 0 z (numbered-zero fs 0 (omega arith)))) (like-all fs)
like-put fs x z (inr p) =
    subst (LikeFrames fs) (sym (put_word-found fs x z p.home p.stands))
    (like-set fs (pred (x / 64)) p.home _ (numbered-index fs (x / 64) p.home p.stands) (like-rewritten p.home (pred (x % 64)) z (omega (arith, p.past))))

module _ (fs : List Frame) (x : ℕ) (z : ℤ) (t : Target fs x) where
  pub designates-put : (n : ℕ) → designates (put_word fs x z) n ≡ designates fs n
  designates-put = designates-like fs (put_word fs x z) (like-put fs x z t)

  pub decl_of-put : (y : ℕ) → decl_of (put_word fs x z) y ≡ decl_of fs y
  decl_of-put = decl_of-like fs (put_word fs x z) (like-put fs x z t)

  pub kind_of-put : (y : ℕ) → kind_of (put_word fs x z) y ≡ kind_of fs y
  kind_of-put = kind_of-like fs (put_word fs x z) (like-put fs x z t)

  pub links_followed-put : (n : ℕ) → links_followed (put_word fs x z) n ≡ links_followed fs n
  links_followed-put = links_followed-like fs (put_word fs x z) (like-put fs x z t)

-- The words

numbered-put : (fs : List Frame) (k : ℕ) (f g : Frame) → numbered fs k ≡ some f → numbered (set fs (pred k) g) k ≡ some g
unfolding numbered
numbered-put fs zero f g e = absurd (none-ne-some f e)
numbered-put fs (suc k) f g e = get_elem-set-same fs k f g e

numbered-put-other : (fs : List Frame) (m k : ℕ) (g : Frame) → 1 ≤ m → (k ≡ m → ⊥) → numbered (set fs (pred m) g) k ≡ numbered fs k
unfolding numbered
numbered-put-other fs m zero g h d = refl
numbered-put-other fs m (suc k) g h d = get_elem-set-other fs (pred m) k g (λ e. d (omega arith))

pub word_at-put-same : (fs : List Frame) (k x : ℕ) (z : ℤ) → BoundedFrames fs → Points fs k x → word_at (put_word fs x z) x ≡ z
unfolding frame_number place rewritten
word_at-put-same fs k x z h p =
    let f = p.home in
    let g = rewritten f (set f.words (pred (x % 64)) z) in
    let s = numbered-bounded fs (x / 64) f h p.stands in
    ap (λ gs. word_at gs x) (put_word-found fs x z f p.stands) ∙ word_at-found (set fs (pred (x / 64)) g) x g (numbered-put fs (x / 64) f g p.stands) ∙ get_or-set_same f.words (pred (x % 64)) z (pos 0) (omega (arith, s.count, p.past, p.within))

pub word_at-put-other : (fs : List Frame) (k x y : ℕ) (z : ℤ) → Points fs k x → 1 ≤ y % 64 → (x ≡ y → ⊥) → word_at (put_word fs x z) y ≡ word_at fs y
unfolding frame_number place rewritten
word_at-put-other fs k x y z p one differ =
    let f = p.home in
    let i = pred (x % 64) in
    let g = rewritten f (set f.words i z) in
    let gs = set fs (pred (x / 64)) g in
    ap (λ hs. word_at hs y) (put_word-found fs x z f p.stands)
    ∙ split (eqb (y / 64) (x / 64))
    (λ t. let c : y / 64 ≡ x / 64 = eqb-true (y / 64) (x / 64) t in
    word_at-found gs y g (ap (numbered gs) c ∙ numbered-put fs (x / 64) f g p.stands) ∙ get_or-set_other f.words i (pred (y % 64)) z (pos 0) (λ e. differ (omega (arith, p.past))) ∙ sym (word_at-found fs y f (ap (numbered fs) c ∙ p.stands)))
    (λ t. let same = numbered-put-other fs (x / 64) (y / 64) g p.first (eqb-false (y / 64) (x / 64) t) in
    by-lookup (numbered fs (y / 64)) (λ e. word_at-none gs y (same ∙ e) ∙ sym (word_at-none fs y e)) (λ h e. word_at-found gs y h (same ∙ e) ∙ sym (word_at-found fs y h e)))
