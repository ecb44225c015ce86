-- The moves of the frame machine on arrays. `holds-advanced`: the innermost frame goes on at another statement; `holds-left`: a frame is left, and
-- nothing is written; `holds-resumed`: a goto takes the frames up to the label's; `holds-entered`: a frame is entered, where the arrays have
-- the new activation after the old ones (`Enters`); `holds-started`: the program is entered first.
use Prim.Native.Nat.{ℕ, zero, suc, pred, ◌+◌, ◌-◌, ◌*◌, ◌≤◌, ◌<◌}
use native.Mathlib.Omega.{arith}
use Rattle.std.specs.Prelude.{List, [], ◌∷◌, ◌++◌, map, ◌≡◌, refl, ltb, ℤ, take, set}
use Rattle.std.proofs.Math.Option.{some}
use Rattle.std.proofs.Math.Path.{sym, ap}
use Rattle.std.proofs.Common.{◌∙◌, subst, subst₂, ltb-true, ltb-false}
use Rattle.std.proofs.Math.IntN.{pos}
use Rattle.std.proofs.Math.ListN.{length, get_or, get_elem?, length-append, length-map, get_or-append, get_or-map}
use Rattle.std.proofs.Math.Seq.{length-take-le, get_or-set_same, get_or-set_other, get_or-append-add}
use Rattle.language.specs.Basics.{last?, but_last}
use Rattle.language.specs.Text.{Formal, Block, Decl, block_at, block_decls}
use Rattle.laws.specs.Tests.{split, none≢some, some_inj}
use Rattle.laws.specs.Lists.{get_elem-bound, get_elem-in, get_d-elem, get_elem-append, get_elem-seam, get_elem_take, but_last-take}
use Rattle.frames.specs.Frame.{Frame, numbered, designator_in, frame_number, continue, new_frame, zero_words}
use Rattle.frames.specs.Numbered.{numbered-low, numbered-high, numbered-index, last-numbered}
use Rattle.frame_laws.specs.Bounds.{BoundedFrames}
use Rattle.coordinates.specs.Chain.{SameOutlines}
use Rattle.coordinates.proofs.Moves.{alike-append, alike-take, alike-cut, outline-continue}
use Rattle.resolved.specs.Resolved.{place_of, stmt_place}
use Rattle.arrays.specs.Holds.{formal_word, HoldsFrame, Holds}
use Rattle.arrays.proofs.Cells.{word-alike}
use Rattle.arrays.proofs.Storing.{Outer, bounded-outer, frame-over, frame-words}

-- the frames before a last one, and that one
snoc-frames : (gs : List Frame) (g : Frame) (P : ℕ → Frame → Type 0) → ((k : ℕ) (f : Frame) → k < length gs → get_elem? gs k ≡ some f → P k f) → P (length gs) g
    → (k : ℕ) (f : Frame) → get_elem? (gs ++ (g ∷ [])) k ≡ some f → P k f
snoc-frames gs g P old new k f e =
    let h = get_elem-bound (gs ++ (g ∷ [])) k f e in
    let l = length-append gs (g ∷ []) in
    split (ltb k (length gs))
    (λ t. let s : k < length gs = ltb-true k (length gs) t in
    old k f s (sym (get_elem-append gs (g ∷ []) k s) ∙ e))
    (λ t. let c : length gs ≡ k = omega (arith, ltb-false k (length gs) t) in
    subst₂ P c (some_inj (sym (get_elem-seam gs g []) ∙ ap (get_elem? (gs ++ (g ∷ []))) c ∙ e)) new)

module _ (fs : List Frame) (blocks nexts links : List ℕ) (cells : List ℤ) (bounded : BoundedFrames fs) (holds : Holds fs blocks nexts links cells) where
  -- Frames left

  pub holds-taken : (n : ℕ) → n ≤ length fs → Holds (take n fs) blocks nexts links cells
  holds-taken n h k f e =
      let l = length-take-le n fs h in
      let s : k < n = omega (arith, get_elem-bound (take n fs) k f e) in
      let q : get_elem? fs k ≡ some f = sym (get_elem_take fs n k s) ∙ e in
      frame-over fs (take n fs) n (alike-take n fs) cells (get_or blocks k 0) (get_or nexts k 0) (get_or links k 0) k f (omega arith) (bounded-outer fs k f (bounded k f q)) (holds k f q)

  pub holds-left : Holds (but_last fs) blocks nexts links cells
  holds-left = rw but_last-take (holds-taken (pred (length fs)) (omega arith))

  -- Going on at another statement

  module _ (n : ℕ) (f : Frame) (e : numbered fs n ≡ some f) (i : ℕ) (room : n ≤ length nexts) where
    resumed : List Frame
    resumed = take (pred n) fs ++ (continue f i ∷ [])

    nexts' : List ℕ
    nexts' = set nexts (pred n) (stmt_place f.text i)

    here : HoldsFrame fs cells (get_or blocks (pred n) 0) (get_or nexts' (pred n) 0) (get_or links (pred n) 0) (pred n) (continue f i)
    unfolding continue nexts'
    here =
        let h = holds (pred n) f (numbered-index fs n f e) in
        let low = numbered-low fs n f e in
        record { block-is = h.block-is; next-is = get_or-set_same nexts (pred n) (stmt_place f.text i) 0 (omega arith); link-is = h.link-is; formals-are = h.formals-are; others-are = h.others-are }

    below : (k : ℕ) (g : Frame) → k < pred n → get_elem? fs k ≡ some g → HoldsFrame fs cells (get_or blocks k 0) (get_or nexts' k 0) (get_or links k 0) k g
    unfolding nexts'
    below k g s q =
        let h = holds k g q in
        record { block-is = h.block-is; next-is = get_or-set_other nexts (pred n) k (stmt_place f.text i) 0 (λ c. omega arith) ∙ h.next-is; link-is = h.link-is; formals-are = h.formals-are; others-are = h.others-are }

    outer-here : Outer (pred n) (continue f i)
    unfolding continue
    outer-here = bounded-outer fs (pred n) f (bounded (pred n) f (numbered-index fs n f e))

    abbrev Kept : ℕ → Frame → Type 0
    Kept k g = (k ≤ n) × Outer k g × HoldsFrame fs cells (get_or blocks k 0) (get_or nexts' k 0) (get_or links k 0) k g

    frames-kept : (k : ℕ) (g : Frame) → get_elem? resumed k ≡ some g → Kept k g
    unfolding resumed
    frames-kept =
        let l : length (take (pred n) fs) ≡ pred n = length-take-le (pred n) fs (omega (arith, numbered-high fs n f e)) in
        snoc-frames (take (pred n) fs) (continue f i) Kept
        (λ k g s q. let r : get_elem? fs k ≡ some g = sym (get_elem_take fs (pred n) k (omega arith)) ∙ q in
        (omega arith, bounded-outer fs k g (bounded k g r), below k g (omega arith) r))
        (subst (λ j. Kept j (continue f i)) (sym l) (omega arith, outer-here, here))

    pub holds-resumed : Holds (take (pred n) fs ++ (continue f i ∷ [])) blocks (set nexts (pred n) (stmt_place f.text i)) links cells
    unfolding resumed nexts'
    holds-resumed k g q =
        let h = frames-kept k g q in
        frame-over fs resumed n (alike-cut fs n f (continue f i) e (outline-continue f i)) cells (get_or blocks k 0) (get_or nexts' k 0) (get_or links k 0) k g h.0 h.1 h.2

  pub holds-advanced : (f : Frame) → last? fs ≡ some f → (i : ℕ) → length fs ≤ length nexts → Holds (but_last fs ++ (continue f i ∷ [])) blocks (set nexts (pred (length fs)) (stmt_place f.text i)) links cells
  holds-advanced f e i room = rw but_last-take (holds-resumed (length fs) f (sym (last-numbered fs) ∙ e) i room)

-- what a formal's word is does not change as a frame goes on
pub word-advanced : (fs : List Frame) (f : Frame) → last? fs ≡ some f → (i x : ℕ) → frame_number x ≤ length fs → formal_word (but_last fs ++ (continue f i ∷ [])) x ≡ formal_word fs x
word-advanced fs f e i x h =
    rw but_last-take (word-alike fs (take (pred (length fs)) fs ++ (continue f i ∷ [])) (length fs) (alike-cut fs (length fs) f (continue f i) (sym (last-numbered fs) ∙ e) (outline-continue f i)) x h)

-- Entering

-- The arrays on the right have after the activations of the stack fs a new one, for the block b: its formals' words are the arguments' and
-- every other name's word is 0.
pub record Enters (fs : List Frame) (xs : List ℕ) (b : Block) (link : ℕ) (blocks nexts links : List ℕ) (cells : List ℤ) (blocks' nexts' links' : List ℕ) (cells' : List ℤ) : Type 0 where
  pub blocks-below : (k : ℕ) → k < length fs → get_or blocks' k 0 ≡ get_or blocks k 0
  pub nexts-below : (k : ℕ) → k < length fs → get_or nexts' k 0 ≡ get_or nexts k 0
  pub links-below : (k : ℕ) → k < length fs → get_or links' k 0 ≡ get_or links k 0
  pub cells-below : (c : ℕ) → c < 32 * length fs → get_or cells' c (pos 0) ≡ get_or cells c (pos 0)
  pub block_new : get_or blocks' (length fs) 0 ≡ place_of (block_at b)
  pub next-new : get_or nexts' (length fs) 0 ≡ stmt_place b 1
  pub link-new : get_or links' (length fs) 0 ≡ pred link
  pub arguments : (i x : ℕ) → get_elem? xs i ≡ some x → get_or cells' (32 * length fs + i) (pos 0) ≡ pos (formal_word fs x)
  pub others : (i : ℕ) → length xs ≤ i → i < length xs + length (block_decls b) → get_or cells' (32 * length fs + i) (pos 0) ≡ pos 0

zero-at : (ds : List Decl) (j : ℕ) → get_or (zero_words ds) j (pos 0) ≡ pos 0
unfolding zero_words
zero-at [] j = refl
zero-at (d ∷ ds) zero = refl
zero-at (d ∷ ds) (suc j) = zero-at ds j

module _ (formals : List Formal) (xs : List ℕ) (b : Block) (link : ℕ) where
  argument-word : (i x : ℕ) → get_elem? xs i ≡ some x → designator_in (get_or (new_frame formals xs b link).words i (pos 0)) ≡ x
  unfolding new_frame designator_in
  argument-word i x e =
      let l = length-map xs pos in
      ap designator_in (get_or-append (map pos xs) (zero_words (block_decls b)) (pos 0) i (omega (arith, get_elem-bound xs i x e)) ∙ get_or-map pos xs i 0) ∙ get_d-elem xs i x 0 e

  other_word : (i : ℕ) → length xs ≤ i → get_or (new_frame formals xs b link).words i (pos 0) ≡ pos 0
  unfolding new_frame
  other_word i h =
      let l = length-map xs pos in
      let e : i ≡ length (map pos xs) + (i - length xs) = omega arith in
      ap (λ j. get_or (map pos xs ++ zero_words (block_decls b)) j (pos 0)) e ∙ get_or-append-add (map pos xs) (zero_words (block_decls b)) (i - length xs) (pos 0) ∙ zero-at (block_decls b) (i - length xs)

  words-length : length (new_frame formals xs b link).words ≡ length xs + length (block_decls b)
  unfolding new_frame zero_words
  words-length = length-append (map pos xs) (zero_words (block_decls b)) ∙ omega (arith, length-map xs pos, length-map (block_decls b) (λ (d : Decl). pos 0))

module _ (fs : List Frame) (blocks nexts links : List ℕ) (cells : List ℤ) (bounded : BoundedFrames fs) (holds : Holds fs blocks nexts links cells)
    (formals : List Formal) (xs : List ℕ) (b : Block) (link : ℕ) (count : length xs ≡ length formals) (given : (i x : ℕ) → get_elem? xs i ≡ some x → frame_number x ≤ length fs)
    (blocks' nexts' links' : List ℕ) (cells' : List ℤ) (new : Enters fs xs b link blocks nexts links cells blocks' nexts' links' cells') where
  f : Frame
  f = new_frame formals xs b link

  gs : List Frame
  gs = fs ++ (f ∷ [])

  alike : SameOutlines (length fs) fs gs
  unfolding gs
  alike = alike-append fs (f ∷ [])

  entered : HoldsFrame gs cells' (get_or blocks' (length fs) 0) (get_or nexts' (length fs) 0) (get_or links' (length fs) 0) (length fs) f
  unfolding f new_frame
  entered =
      record {
        block-is = new.block_new;
        next-is = new.next-new;
        link-is = new.link-new;
        formals-are = λ i p.
            let x = get_elem-in xs i (omega arith) in
            new.arguments i x.0 x.1 ∙ ap pos (sym (word-alike fs gs (length fs) alike x.0 (given i x.0 x.1))) ∙ ap (λ y. pos (formal_word gs y)) (sym (argument-word formals xs b link i x.0 x.1));
        others-are = λ i p q. new.others i (omega arith) (omega (arith, words-length formals xs b link)) ∙ sym (other_word formals xs b link i (omega arith));
      }

  older : (k : ℕ) (g : Frame) → k < length fs → get_elem? fs k ≡ some g → HoldsFrame gs cells' (get_or blocks' k 0) (get_or nexts' k 0) (get_or links' k 0) k g
  older k g p e =
      let s = bounded k g e in
      let h = frame-words fs cells (get_or blocks k 0) (get_or nexts k 0) (get_or links k 0) k g s (holds k g e) cells' (λ i q. new.cells-below (32 * k + i) (omega arith)) in
      let o = frame-over fs gs (length fs) alike cells' (get_or blocks k 0) (get_or nexts k 0) (get_or links k 0) k g (omega arith) (bounded-outer fs k g s) h in
      record { block-is = new.blocks-below k p ∙ o.block-is; next-is = new.nexts-below k p ∙ o.next-is; link-is = new.links-below k p ∙ o.link-is; formals-are = o.formals-are; others-are = o.others-are }

  pub holds-entered : Holds (fs ++ (new_frame formals xs b link ∷ [])) blocks' nexts' links' cells'
  unfolding gs f
  holds-entered = snoc-frames fs f (λ k g. HoldsFrame gs cells' (get_or blocks' k 0) (get_or nexts' k 0) (get_or links' k 0) k g) older entered

-- the program's frame is entered on no frames
pub holds-started : (t : Block) (blocks nexts links : List ℕ) (cells : List ℤ) → get_or blocks 0 0 ≡ place_of (block_at t) → get_or nexts 0 0 ≡ stmt_place t 1 → get_or links 0 0 ≡ 0
    → ((i : ℕ) → i < length (block_decls t) → get_or cells i (pos 0) ≡ pos 0) → Holds (new_frame [] [] t 0 ∷ []) blocks nexts links cells
holds-started t blocks nexts links cells b n l w =
    holds-entered [] blocks nexts links cells (λ k f e. none≢some e) (λ k f e. none≢some e) [] [] t 0 refl (λ i x e. none≢some e) blocks nexts links cells
    (record {
      blocks-below = λ k h. refl;
      nexts-below = λ k h. refl;
      links-below = λ k h. refl;
      cells-below = λ c h. refl;
      block_new = b;
      next-new = n;
      link-new = l;
      arguments = λ i x e. none≢some e;
      others = λ i p q. let e : 32 * 0 + i ≡ i = omega arith in ap (λ j. get_or cells j (pos 0)) e ∙ w i (omega arith);
    })
