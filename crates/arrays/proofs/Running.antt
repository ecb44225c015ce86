-- The moves with the innermost activation's next statement kept apart: an engine has its place `at` in a local, and what `nexts` has there is
-- free. So the arrays hold the stack with `at` set in its place; live is the innermost activation. `holds_on`: it goes on elsewhere, and
-- `holds-on-stored`: a value is stored; `holds-back`: it is left, and the one below goes on where `nexts` says; `holds-jumped`: one further
-- out goes on; `holds_pushed`: it goes on after the statement and a new one is entered, which is three stores and the new words.
use Rattle.std.specs.Prelude.{ℕ, suc, pred, ◌+◌, ◌*◌, ◌/◌, ◌≤◌, ◌<◌, List, [], ◌∷◌, ◌++◌, ◌≡◌, eqb, ℤ, take, set}
use native.Mathlib.Omega.{arith}
use Rattle.std.proofs.Math.Option.{some}
use Rattle.std.proofs.Common.{sym, ◌∙◌, subst, eqb-true, length-take-le, set-set}
use Rattle.std.proofs.Math.Path.{ap}
use Rattle.std.proofs.lemmas.Bool.{eqb-false}
use Rattle.std.proofs.Math.IntN.{pos}
use Rattle.std.proofs.Math.ListN.{length, get_or, get_elem?, length-set}
use Rattle.std.proofs.Math.Seq.{get_or-set_same, get_or-set_other}
use Rattle.std.proofs.lemmas.List.{set-get_or}
use Rattle.language.specs.Basics.{last?, but_last}
use Rattle.language.specs.Text.{Formal, Block, block_at, block_decls}
use Rattle.laws.specs.Tests.{split}
use Rattle.laws.specs.Lists.{get_elem-bound, but_last-take, replaced-length}
use Rattle.frames.specs.Frame.{Frame, numbered, frame_number, continue, put_word, new_frame}
use Rattle.frames.specs.Numbered.{numbered-high, last-numbered}
use Rattle.frame_laws.specs.Bounds.{Points, BoundedFrames}
use Rattle.coordinates.specs.Chain.{SameOutlines}
use Rattle.coordinates.proofs.Moves.{alike-cut, outline-continue, cut-length}
use Rattle.resolved.specs.Resolved.{place_of, stmt_place}
use Rattle.arrays.specs.Holds.{cell_of, formal_word, Holds}
use Rattle.arrays.proofs.Cells.{points-over}
use Rattle.arrays.proofs.Storing.{holds-stored}
use Rattle.arrays.proofs.Moves.{holds-left, holds-resumed, holds-advanced, word-advanced, Enters, holds-entered}

-- what stands for no frame is free
pub holds-nexts : (fs : List Frame) (blocks nexts nexts' links : List ℕ) (cells : List ℤ) → ((k : ℕ) → k < length fs → get_or nexts' k 0 ≡ get_or nexts k 0) → Holds fs blocks nexts links cells → Holds fs blocks nexts' links cells
holds-nexts fs blocks nexts nexts' links cells same holds k f e =
    let h = holds k f e in
    record { block-is = h.block-is; next-is = same k (get_elem-bound fs k f e) ∙ h.next-is; link-is = h.link-is; formals-are = h.formals-are; others-are = h.others-are }

module _ (fs : List Frame) (blocks nexts links : List ℕ) (cells : List ℤ) (bounded : BoundedFrames fs) (live at : ℕ) (depth : length fs ≡ suc live) (room : live < length nexts)
    (holds : Holds fs blocks (set nexts live at) links cells) where
  long : length (set nexts live at) ≡ length nexts
  long = length-set nexts live at

  pub holds_on : (f : Frame) → last? fs ≡ some f → (i : ℕ) → Holds (but_last fs ++ (continue f i ∷ [])) blocks (set nexts live (stmt_place f.text i)) links cells
  holds_on f e i =
      let z : pred (length fs) ≡ live = omega arith in
      subst (λ (l : List ℕ). Holds (but_last fs ++ (continue f i ∷ [])) blocks l links cells)
      (ap (λ n. set (set nexts live at) n (stmt_place f.text i)) z ∙ set-set nexts live at (stmt_place f.text i))
      (holds-advanced fs blocks (set nexts live at) links cells bounded holds f e i (omega (arith, long)))

  -- and a value is stored
  pub holds-on-stored : (f : Frame) → last? fs ≡ some f → (i : ℕ) → BoundedFrames (but_last fs ++ (continue f i ∷ [])) → (m x : ℕ) → Points fs m x → (z : ℤ) → 32 * length fs ≤ length cells
      → Holds (put_word (but_last fs ++ (continue f i ∷ [])) x z) blocks (set nexts live (stmt_place f.text i)) links (set cells (cell_of x) z)
  holds-on-stored f e i bounded' m x p z fits =
      let gs = but_last fs ++ (continue f i ∷ []) in
      let n : length gs ≡ length fs = replaced-length fs f (continue f i) e in
      let a : SameOutlines (length fs) fs gs = rw but_last-take (alike-cut fs (length fs) f (continue f i) (sym (last-numbered fs) ∙ e) (outline-continue f i)) in
      holds-stored gs blocks (set nexts live (stmt_place f.text i)) links cells bounded' (holds_on f e i) m x (points-over fs gs (length fs) m x a (numbered-high fs (x / 64) p.home p.stands) p) z (omega arith)

  pub holds-back : Holds (but_last fs) blocks (set nexts (pred live) (get_or nexts (pred live) 0)) links cells
  holds-back =
      let l : length (but_last fs) ≡ live = ap length (but_last-take fs) ∙ length-take-le (pred (length fs)) fs (omega arith) ∙ omega arith in
      subst (λ (m : List ℕ). Holds (but_last fs) blocks m links cells) (sym (set-get_or nexts (pred live) 0))
      (holds-nexts (but_last fs) blocks (set nexts live at) nexts links cells (λ k h. sym (get_or-set_other nexts live k at 0 (λ c. omega arith))) (holds-left fs blocks (set nexts live at) links cells bounded holds))

  pub holds-jumped : (home : ℕ) (f : Frame) → numbered fs (suc home) ≡ some f → (i : ℕ) → Holds (take home fs ++ (continue f i ∷ [])) blocks (set nexts home (stmt_place f.text i)) links cells
  holds-jumped home f e i =
      let h : suc home ≤ length fs = numbered-high fs (suc home) f e in
      let gs = take home fs ++ (continue f i ∷ []) in
      let l : length gs ≡ suc home = cut-length fs (suc home) f (continue f i) e in
      let p = stmt_place f.text i in
      holds-nexts gs blocks (set (set nexts live at) home p) (set nexts home p) links cells
      (λ k q. same k home p (omega arith) (omega arith)) (holds-resumed fs blocks (set nexts live at) links cells bounded holds (suc home) f e i (omega (arith, long)))
    where
      same : (k home p : ℕ) → k ≤ home → home ≤ live → get_or (set nexts home p) k 0 ≡ get_or (set (set nexts live at) home p) k 0
      same k home p h l =
          split (eqb k home)
          (λ t. let c : k ≡ home = eqb-true k home t in
          ap (λ j. get_or (set nexts home p) j 0) c ∙ get_or-set_same nexts home p 0 (omega arith)
          ∙ sym (ap (λ j. get_or (set (set nexts live at) home p) j 0) c ∙ get_or-set_same (set nexts live at) home p 0 (omega (arith, long))))
          (λ t. let d = eqb-false k home t in
          get_or-set_other nexts home k p 0 d ∙ sym (get_or-set_other (set nexts live at) home k p 0 d ∙ get_or-set_other nexts live k at 0 (λ c. d (omega arith))))

  -- A new activation

  module _ (f : Frame) (e : last? fs ≡ some f) (i : ℕ) (bounded' : BoundedFrames (but_last fs ++ (continue f i ∷ []))) (formals : List Formal) (xs : List ℕ) (b : Block) (link : ℕ)
      (count : length xs ≡ length formals) (given : (j x : ℕ) → get_elem? xs j ≡ some x → frame_number x ≤ length fs) (cells' : List ℤ)
      (kept : (c : ℕ) → c < 32 * length fs → get_or cells' c (pos 0) ≡ get_or cells c (pos 0))
      (arguments : (j x : ℕ) → get_elem? xs j ≡ some x → get_or cells' (32 * length fs + j) (pos 0) ≡ pos (formal_word fs x))
      (others : (j : ℕ) → length xs ≤ j → j < length xs + length (block_decls b) → get_or cells' (32 * length fs + j) (pos 0) ≡ pos 0)
      (blocks-room : suc live < length blocks) (nexts-room : suc live < length nexts) (links-room : suc live < length links) where
    gs : List Frame
    gs = but_last fs ++ (continue f i ∷ [])

    gs-length : length gs ≡ suc live
    unfolding gs
    gs-length = replaced-length fs f (continue f i) e ∙ depth

    back : ℕ
    back = stmt_place f.text i

    enters : Enters gs xs b link blocks (set nexts live back) links cells (set blocks (suc live) (place_of (block_at b))) (set (set nexts live back) (suc live) (stmt_place b 1)) (set links (suc live) (pred link)) cells'
    unfolding gs
    enters =
        let n = gs-length in
        let z : 32 * length gs ≡ 32 * length fs = omega arith in
        record {
          blocks-below = λ k h. get_or-set_other blocks (suc live) k (place_of (block_at b)) 0 (λ c. omega arith);
          nexts-below = λ k h. get_or-set_other (set nexts live back) (suc live) k (stmt_place b 1) 0 (λ c. omega arith);
          links-below = λ k h. get_or-set_other links (suc live) k (pred link) 0 (λ c. omega arith);
          cells-below = λ c h. kept c (omega arith);
          block_new = ap (λ k. get_or (set blocks (suc live) (place_of (block_at b))) k 0) n ∙ get_or-set_same blocks (suc live) (place_of (block_at b)) 0 blocks-room;
          next-new = ap (λ k. get_or (set (set nexts live back) (suc live) (stmt_place b 1)) k 0) n ∙ get_or-set_same (set nexts live back) (suc live) (stmt_place b 1) 0 (omega (arith, length-set nexts live back));
          link-new = ap (λ k. get_or (set links (suc live) (pred link)) k 0) n ∙ get_or-set_same links (suc live) (pred link) 0 links-room;
          arguments = λ j x q. ap (λ c. get_or cells' (c + j) (pos 0)) z ∙ arguments j x q ∙ ap pos (sym (word-advanced fs f e i x (given j x q)));
          others = λ j p q. ap (λ c. get_or cells' (c + j) (pos 0)) z ∙ others j p q;
        }

    pub holds_pushed : Holds ((but_last fs ++ (continue f i ∷ [])) ++ (new_frame formals xs b link ∷ [])) (set blocks (suc live) (place_of (block_at b))) (set (set nexts live (stmt_place f.text i)) (suc live) (stmt_place b 1)) (set links (suc live) (pred link)) cells'
    unfolding gs back
    holds_pushed =
        let n = gs-length in
        holds-entered gs blocks (set nexts live back) links cells bounded' (holds_on f e i) formals xs b link count (λ j x q. omega (arith, given j x q)) _ _ _ cells' enters
