-- How frames that keep the bounds go on to: the first of them alone (`bounded-first`), one more on top (`bounded-more`), another next statement
-- number (`bounded-continued`), another word for a declared name (`bounded-put`), and a new frame (`bounded-new`).
use Rattle.std.specs.Prelude.{ℕ, zero, suc, ◌+◌, ◌/◌, ◌≤◌, ◌<◌, Bool, true, false, ◌≡◌, refl, List, [], ◌∷◌, ◌++◌, map, eqb, ltb, ℤ, pos, length, get_or, set}
use Rattle.std.proofs.Common.{not-suc-le-zero, arith, sym, ap, ◌∙◌, subst, length-set, get_or-set_other, eqb-true, ltb-true, ltb-false}
use Rattle.std.proofs.Math.Option.{some, some-injective}
use Rattle.std.proofs.Math.ListN.{get_elem?, get_or-append, get_or-map}
use Rattle.std.proofs.lemmas.List.{length-map}
use Rattle.std.specs.Int.Signed.{mag}
use Rattle.std.proofs.lemmas.Bool.{eqb-false}
use Rattle.language.specs.Text.{Formal, Block, Decl, block_decls, block_stmts}
use Rattle.laws.specs.Tests.{split}
use Rattle.frames.specs.Frame.{Frame, numbered, continue, rewritten, zero_words, new_frame}
use Rattle.laws.specs.Lists.{snoc-length, get_elem-bound, get_elem-append, get_elem-seam, get_elem-set-same, get_elem-set-other, get_d_set, get_d-both}
use Rattle.frame_laws.specs.Parts.{new_frame-length}
use Rattle.frames.specs.Numbered.{numbered-suc}
use Rattle.frame_laws.specs.Formed.{InForm, names-few}
use Rattle.frame_laws.specs.Bounds.{Points, FrameBounded, BoundedFrames}

-- the first k frames of gs have the formals and the text that those of fs have
abbrev pub SameText : List Frame → List Frame → ℕ → Type 0
SameText fs gs k = (j : ℕ) (f : Frame) → j < k → get_elem? fs j ≡ some f → (g : Frame) × (get_elem? gs j ≡ some g) × (g.formals ≡ f.formals) × (g.text ≡ f.text)

pub points-alike : (fs gs : List Frame) (k x : ℕ) → SameText fs gs k → Points fs k x → Points gs k x
points-alike fs gs k x a p = go (x / 64) refl p.first p.last p.stands
  where
    go : (n : ℕ) → x / 64 ≡ n → 1 ≤ n → n ≤ k → numbered fs n ≡ some p.home → Points gs k x
    go zero q l m e = absurd (not-suc-le-zero l)
    go (suc j) q l m e =
        let h = a j p.home m (sym (numbered-suc fs j) ∙ e) in
        record { home = h.0; stands = ap (numbered gs) q ∙ numbered-suc gs j ∙ h.1; first = p.first; last = p.last; past = omega (arith, p.past, ap length h.2); within = omega (arith, p.within, ap length h.2, ap (λ b. length (block_decls b)) h.3) }

pub points-weaker : (fs : List Frame) (j k x : ℕ) → j ≤ k → Points fs j x → Points fs k x
points-weaker fs j k x h p = record { home = p.home; stands = p.stands; first = p.first; last = omega (arith, p.last); past = p.past; within = p.within }

pub frame-alike : (fs gs : List Frame) (k : ℕ) (f : Frame) → SameText fs gs k → FrameBounded fs k f → FrameBounded gs k f
frame-alike fs gs k f a h =
    record { in-form = h.in-form; next-first = h.next-first; next_last = h.next_last; link-last = h.link-last; link-first = h.link-first; count = h.count; few = h.few; small = h.small; handed = λ i l. let q = h.handed i l in (q.0, q.1, points-alike fs gs k q.0 a q.2) }

-- lists that agree below k
alike_same : (fs gs : List Frame) (k : ℕ) → ((j : ℕ) → j < k → get_elem? gs j ≡ get_elem? fs j) → SameText fs gs k
alike_same fs gs k h j f l e = (f, h j l ∙ e, refl, refl)

pub bounded-first : (pre rest : List Frame) → BoundedFrames (pre ++ rest) → BoundedFrames pre
bounded-first pre rest h k f e =
    let l = get_elem-bound pre k f e in
    frame-alike (pre ++ rest) pre k f (alike_same (pre ++ rest) pre k (λ j m. sym (get_elem-append pre rest j (omega arith)))) (h k f (get_elem-append pre rest k l ∙ e))

-- the frame after the first ones, seen from below
pub bounded-after : (pre : List Frame) (f : Frame) (rest : List Frame) → BoundedFrames (pre ++ f ∷ rest) → FrameBounded pre (length pre) f
bounded-after pre f rest h =
    frame-alike (pre ++ f ∷ rest) pre (length pre) f (alike_same (pre ++ f ∷ rest) pre (length pre) (λ j m. sym (get_elem-append pre (f ∷ rest) j m))) (h (length pre) f (get_elem-seam pre f rest))

pub bounded-more : (pre : List Frame) (f : Frame) → BoundedFrames pre → FrameBounded pre (length pre) f → BoundedFrames (pre ++ (f ∷ []))
bounded-more pre f h g k x e = frame-alike pre (pre ++ (f ∷ [])) k x (alike_same pre (pre ++ (f ∷ [])) k (λ j m. get_elem-append pre (f ∷ []) j (omega (arith, l)))) (at (ltb k (length pre)) refl)
  where
    l : k ≤ length pre
    l = omega (arith, get_elem-bound (pre ++ (f ∷ [])) k x e, snoc-length pre f)

    at : (t : Bool) → ltb k (length pre) ≡ t → FrameBounded pre k x
    at true t = h k x (sym (get_elem-append pre (f ∷ []) k (ltb-true _ _ t)) ∙ e)
    at false t =
        let q : k ≡ length pre = omega (arith, l, ltb-false k (length pre) t) in
        let r : f ≡ x = some-injective f x (sym (get_elem-seam pre f []) ∙ ap (get_elem? (pre ++ (f ∷ []))) (sym q) ∙ e) in
        subst (λ y. FrameBounded pre k y) r (subst (λ n. FrameBounded pre n f) (sym q) g)

pub bounded-continued : (fs : List Frame) (k : ℕ) (f : Frame) (n : ℕ) → FrameBounded fs k f → 1 ≤ n → n ≤ suc (length (block_stmts f.text)) → FrameBounded fs k (continue f n)
unfolding continue
bounded-continued fs k f n h p q =
    record { in-form = h.in-form; next-first = p; next_last = q; link-last = h.link-last; link-first = h.link-first; count = h.count; few = h.few; small = h.small; handed = h.handed }

-- Words

-- a store past the formals, of a value within signed 32 bits
pub frame-put : (fs : List Frame) (k : ℕ) (f : Frame) (i : ℕ) (z : ℤ) → FrameBounded fs k f → length f.formals ≤ i → mag z < 2147483648 → FrameBounded fs k (rewritten f (set f.words i z))
unfolding rewritten
frame-put fs k f i z h p q =
    record { in-form = h.in-form; next-first = h.next-first; next_last = h.next_last; link-last = h.link-last; link-first = h.link-first; count = length-set f.words i z ∙ h.count; few = omega (arith, length-set f.words i z, h.few); small = λ j. get_d_set (λ w. mag w < 2147483648) f.words i j z (pos 0) q (h.small j); handed = λ j l. let r = h.handed j l in (r.0, get_or-set_other f.words i j z (pos 0) (λ e. omega arith) ∙ r.1, r.2) }

alike_set : (fs : List Frame) (i : ℕ) (f g : Frame) (k : ℕ) → get_elem? fs i ≡ some f → g.formals ≡ f.formals → g.text ≡ f.text → SameText fs (set fs i g) k
alike_set fs i f g k e p q j h l d =
    split (eqb j i)
    (λ t. let c : j ≡ i = eqb-true j i t in
    let r : f ≡ h = some-injective f h (sym e ∙ ap (get_elem? fs) (sym c) ∙ d) in
    (g, ap (get_elem? (set fs i g)) c ∙ get_elem-set-same fs i f g e, p ∙ ap (λ (y : Frame). y.formals) r, q ∙ ap (λ (y : Frame). y.text) r))
    (λ t. (h, get_elem-set-other fs i j g (eqb-false j i t) ∙ d, refl, refl))

pub bounded-put : (fs : List Frame) (m i : ℕ) (f : Frame) (z : ℤ) → BoundedFrames fs → get_elem? fs m ≡ some f → length f.formals ≤ i → mag z < 2147483648 → BoundedFrames (set fs m (rewritten f (set f.words i z)))
unfolding rewritten
bounded-put fs m i f z h e p q k x d =
    let g = rewritten f (set f.words i z) in
    frame-alike fs (set fs m g) k x (alike_set fs m f g k e refl refl)
    (split (eqb k m)
    (λ t. let c : k ≡ m = eqb-true k m t in
    let r : g ≡ x = some-injective g x (sym (get_elem-set-same fs m f g e) ∙ ap (get_elem? (set fs m g)) (sym c) ∙ d) in
    subst (λ y. FrameBounded fs k y) r (frame-put fs k f i z (h k f (ap (get_elem? fs) c ∙ e)) p q))
    (λ t. h k x (sym (get_elem-set-other fs m k g (eqb-false k m t)) ∙ d)))

-- A new frame, whose arguments point to declared names below

points-small : (fs : List Frame) (k x : ℕ) → k < 256 → Points fs k x → x < 2147483648
points-small fs k x h p = omega (arith, p.last)

zero-words : (ds : List Decl) (i : ℕ) → mag (get_or (zero_words ds) i (pos 0)) < 2147483648
unfolding zero_words
zero-words [] i = omega arith
zero-words (d ∷ ds) zero = omega arith
zero-words (d ∷ ds) (suc i) = zero-words ds i

argument-words : (xs : List ℕ) (i : ℕ) → ((j : ℕ) → j < length xs → get_or xs j 0 < 2147483648) → mag (get_or (map pos xs) i (pos 0)) < 2147483648
argument-words [] i h = omega arith
argument-words (x ∷ xs) zero h = h zero (omega arith)
argument-words (x ∷ xs) (suc i) h = argument-words xs i (λ j l. h (suc j) (omega arith))

pub bounded-new : (fs : List Frame) (formals : List Formal) (xs : List ℕ) (b : Block) (link : ℕ) → InForm b formals → length xs ≡ length formals
    → ((i : ℕ) → i < length xs → Points fs (length fs) (get_or xs i 0)) → link ≤ length fs → (1 ≤ length fs → 1 ≤ link) → length fs < 256
    → FrameBounded fs (length fs) (new_frame formals xs b link)
unfolding new_frame
bounded-new fs formals xs b link t n p l m s =
    let c = new_frame-length formals xs b link in
    record { in-form = t; next-first = omega arith; next_last = omega arith; link-last = l; link-first = m; count = c ∙ ap (λ k. k + length (block_decls b)) n; few = omega (arith, c, n, names-few b formals t); small = λ i. get_d-both (λ w. mag w < 2147483648) (map pos xs) (zero_words (block_decls b)) i (pos 0) (λ j. argument-words xs j (λ j r. points-small fs (length fs) (get_or xs j 0) s (p j r))) (zero-words (block_decls b)); handed = λ i r. (get_or xs i 0, get_or-append (map pos xs) (zero_words (block_decls b)) (pos 0) i (omega (arith, length-map xs pos)) ∙ get_or-map pos xs i 0, p i (omega arith)) }
