-- The links that are found in the engine's arrays are the stack's. `linkable`: they can be sought; `encloser-is-sought`: each one is the encloser that the
-- definitions seek on the frames; so the arrays hold the stack with them (`holds-found`). `end-linkable`, `end-linked`: this at the end of a program's run.
use Prim.Native.Nat.{ℕ, zero, suc, pred, ◌≤◌, ◌<◌}
use Rattle.std.proofs.Common.{arith, sym, ◌∙◌, subst, ltb-true, ltb-false, eqb-true}
use Rattle.std.specs.Prelude.{List, ◌≡◌, ltb, eqb, ℤ, length, get_or}
use Rattle.std.proofs.Math.Option.{some}
use Rattle.std.proofs.Math.Path.{ap}
use Rattle.std.proofs.lemmas.Bool.{eqb-false}
use Rattle.std.proofs.Math.ListN.{get_elem?}
use Rattle.language.specs.Text.{Block}
use Rattle.laws.specs.Tests.{split}
use Rattle.laws.specs.Lists.{get_elem-in, get_elem-bound}
use Rattle.grammar.specs.Rules.{Keeps}
use Rattle.frames.specs.Frame.{Frame, Result, numbered}
use Rattle.frames.specs.Numbered.{numbered-suc, numbered-zero}
use Rattle.coordinates.specs.Chain.{enclosing, enclosure_of, level_of, Downward, Chained}
use Rattle.coordinates.proofs.Search.{enclosure-none}
use Rattle.coordinates.proofs.Coordinates.{level-of-text}
use Rattle.coordinates.proofs.Kept.{chained-downward}
use Rattle.coordinates.proofs.Levels.{frame-encloses, level-bound}
use Rattle.coordinates.proofs.Designated.{Wired}
use Rattle.coordinates.specs.Made.{Made}
use Rattle.f_search.specs.Search.{onward, shallower, encloser_sought}
use Rattle.f_search.proofs.Theorem.{onward-below, onward-low}
use Rattle.f_search.proofs.Enclosers as frames
use Rattle.resolved.specs.Resolved.{end_place, resolved_of, Covers}
use Rattle.resolved.proofs.Places.{block-fields, end-bound}
use Rattle.arrays.specs.Holds.{Holds}
use Rattle.arrays.proofs.Reading.{level-read}
use Rattle.search_links.specs.Enclosing.{level_at, shallower_from, link_at, AllAskable, LinksFound, shallower-last, shallower-here, shallower-on}
use Rattle.search_moves.specs.Running.{Froms}
use Rattle.run_state.specs.declared.Halt.{Halt}
use Rattle.run_state.specs.Limits.{limits_by}
use Rattle.run_state.specs.Ended.{EndedFrom}
use Rattle.search_run.specs.Program.{Beginning, Ended}

-- what a run leaves: arrays that hold the frames of a script that keeps the rules, with links that are not kept
pub record Left (code : List ℕ) (cells : List ℤ) (blocks nexts froms : List ℕ) (fs : List Frame) : Type 0 where
  pub name : ℕ
  pub program : Block
  pub keeps : Keeps program
  pub covers : Covers code 0 (resolved_of name program)
  pub chained : Chained program fs
  pub wired : Wired fs
  pub made : Made fs
  pub most : length fs ≤ 256
  pub links : List ℕ
  pub holds : Holds fs blocks nexts links cells
  pub froms-are : Froms fs froms

module _ {code : List ℕ} {cells : List ℤ} {blocks nexts froms : List ℕ} {fs : List Frame} (w : Left code cells blocks nexts froms fs) where
  abbrev t : Block
  t = w.program

  abbrev down : Downward fs
  down = chained-downward t fs w.chained

  level-is : (k : ℕ) (f : Frame) → get_elem? fs k ≡ some f → level_at code blocks k ≡ level_of fs (suc k)
  level-is k f e = level-read code w.name t w.keeps w.covers fs w.chained blocks nexts w.links cells w.holds k f e

  head-within : (k : ℕ) (f : Frame) → get_elem? fs k ≡ some f → get_or blocks k 0 < 4096
  unfolding enclosing end_place
  head-within k f e =
      omega (arith, (w.holds k f e).block-is, block-fields f.text, end-bound t w.keeps (enclosing f) (enclosure_of fs f.link) (frame-encloses t fs w.chained (suc k) f (numbered-suc fs k ∙ e)))

  pub linkable : AllAskable blocks froms (length fs)
  linkable k h =
      record {
        few = omega (arith, w.most);
        falls = λ j low high. let f = get_elem-in fs j (omega arith) in omega (arith, w.froms-are j f.0 f.1, onward-below fs down (suc j) (omega arith));
        heads = λ j high. let f = get_elem-in fs j (omega arith) in head-within j f.0 f.1;
      }

  -- Both searches stop at the same activations

  none_out : (m v : ℕ) → 1 ≤ v → shallower (suc m) fs v (onward fs 1) ≡ 0
  none_out m v low =
      let z : onward fs 1 ≡ 0 = omega (arith, onward-below fs down 1 (omega arith)) in
      let l : level_of fs (onward fs 1) ≡ 0 = ap (level_of fs) z ∙ level-of-text fs 0 ∙ ap length (enclosure-none fs 0 (numbered-zero fs 0 (omega arith))) in
      frames.shallower-here m fs v (onward fs 1) (omega arith) ∙ z

  agree : (m v j : ℕ) → 1 ≤ v → suc j < m → j < length fs → shallower_from code blocks froms v j ≡ pred (shallower m fs v (suc j))
  agree zero v j low h there = absurd (omega arith)
  agree (suc zero) v j low h there = absurd (omega arith)
  agree (suc (suc m)) v zero low h there =
      shallower-last code blocks froms v
      ∙ split (ltb (level_of fs 1) v) (λ q. sym (ap pred (frames.shallower-here (suc m) fs v 1 (ltb-true (level_of fs 1) v q))))
      (λ q. sym (ap pred (frames.shallower-on (suc m) fs v 1 (ltb-false (level_of fs 1) v q) ∙ none_out m v low)))
  agree (suc (suc m)) v (suc j) low h there = go (agree (suc m) v)
    where
      go : ((i : ℕ) → 1 ≤ v → suc i < suc m → i < length fs → shallower_from code blocks froms v i ≡ pred (shallower (suc m) fs v (suc i)))
          → shallower_from code blocks froms v (suc j) ≡ pred (shallower (suc (suc m)) fs v (suc (suc j)))
      go further =
          let f = get_elem-in fs (suc j) there in
          let level = level-is (suc j) f.0 f.1 in
          let o = onward fs (suc (suc j)) in
          let below = onward-below fs down (suc (suc j)) (omega arith) in
          let one : suc (pred o) ≡ o = omega (arith, onward-low t w.keeps fs w.chained w.wired w.made (suc (suc j)) f.0 (omega arith) (numbered-suc fs (suc j) ∙ f.1)) in
          split (ltb (level_of fs (suc (suc j))) v)
          (λ q. let l = ltb-true (level_of fs (suc (suc j))) v q in
          shallower-here code blocks froms v (suc j) (omega arith) (omega arith) ∙ sym (ap pred (frames.shallower-here (suc m) fs v (suc (suc j)) l)))
          (λ q. let l = ltb-false (level_of fs (suc (suc j))) v q in
          shallower-on code blocks froms v (suc j) (linkable (suc j) there) (suc j) (omega arith) (omega arith) (omega arith) ∙ ap (shallower_from code blocks froms v) (w.froms-are (suc j) f.0 f.1)
          ∙ further (pred o) low (omega arith) (omega arith) ∙ ap (λ i. pred (shallower (suc m) fs v i)) one ∙ sym (ap pred (frames.shallower-on (suc m) fs v (suc (suc j)) l)))

  module _ (k : ℕ) (f : Frame) (stands : get_elem? fs k ≡ some f) where
    pub encloser-is-sought : 1 ≤ k → link_at code blocks froms k ≡ pred (encloser_sought fs (suc k))
    unfolding encloser_sought
    encloser-is-sought low =
        let n : numbered fs (suc k) ≡ some f = numbered-suc fs k ∙ stands in
        let o = onward fs (suc k) in
        let below = onward-below fs down (suc k) (omega arith) in
        let one : suc (pred o) ≡ o = omega (arith, onward-low t w.keeps fs w.chained w.wired w.made (suc k) f (omega arith) n) in
        let high = get_elem-bound fs k f stands in
        (λ i. shallower_from code blocks froms (level-is k f stands i) (w.froms-are k f stands i))
        ∙ agree (suc k) (level_of fs (suc k)) (pred o) (level-bound t w.keeps fs w.chained (suc k) f n).0 (omega arith) (omega arith) ∙ ap (λ i. pred (shallower (suc k) fs (level_of fs (suc k)) i)) one

    link-found : {zeros links' : List ℕ} → get_or zeros 0 0 ≡ 0 → LinksFound code blocks froms (length fs) zeros links' → get_or links' k 0 ≡ pred f.link
    link-found {zeros} {links'} none found =
        let n : numbered fs (suc k) ≡ some f = numbered-suc fs k ∙ stands in
        split (eqb k 0)
        (λ q. let z : k ≡ 0 = eqb-true k 0 q in
        let out = down (suc k) f n in
        let first : get_or links' k 0 ≡ 0 = ap (λ i. get_or links' i 0) z ∙ found.program ∙ none in
        omega arith)
        (λ q. let low : 1 ≤ k = omega (arith, eqb-false k 0 q) in
        found.links-are k low (get_elem-bound fs k f stands) ∙ encloser-is-sought low ∙ ap pred (frames.encloser-is-link t w.keeps fs w.chained w.wired w.made (suc k) f n))

  pub holds-found : {zeros links' : List ℕ} → get_or zeros 0 0 ≡ 0 → LinksFound code blocks froms (length fs) zeros links' → Holds fs blocks nexts links' cells
  holds-found none found k f e =
      let h = w.holds k f e in
      record { block-is = h.block-is; next-is = h.next-is; link-is = link-found k f e none found; formals-are = h.formals-are; others-are = h.others-are }

-- The end of a program's run

module _ {code numbers : List ℕ} {cells : List ℤ} {passers blocks nexts froms : List ℕ} {table : List ℤ} {pairs limit activations : ℕ}
    (b : Beginning code numbers cells passers blocks nexts froms table pairs limit activations) {result : Result} {r : Halt} {cells' : List ℤ} {blocks' nexts' froms' : List ℕ} {table' : List ℤ}
    (e : Ended b.begun.program b.begun.name activations limit result r cells' blocks' nexts' froms' table') where
  left : Left code cells' blocks' nexts' froms' result.final.frames
  left =
      let s = e.ended.sound in
      record {
        name = b.begun.name;
        program = b.begun.program;
        keeps = b.begun.keeps;
        covers = b.begun.covers;
        chained = s.chained;
        wired = s.wired;
        made = s.made;
        most = omega (arith, s.bounded.live, s.few);
        links = e.links;
        holds = e.ended.holds;
        froms-are = e.froms-are;
      }

  pub end-linkable : AllAskable blocks' froms' r.live
  end-linkable = subst (AllAskable blocks' froms') (sym e.ended.live-is) (linkable left)

  -- the run's end with the links that are found
  pub end-linked : {zeros links' : List ℕ} → get_or zeros 0 0 ≡ 0 → LinksFound code blocks' froms' r.live zeros links'
      → EndedFrom 0 b.begun.program b.begun.name (limits_by activations limit) result r cells' blocks' nexts' links' table'
  end-linked {zeros} {links'} none found =
      let d = e.ended in
      record {
        end_is = d.end_is;
        steps-are = d.steps-are;
        offset-is = d.offset-is;
        pairs-are = d.pairs-are;
        table_is = d.table_is;
        live-is = d.live-is;
        designator-is = d.designator-is;
        sound = d.sound;
        holds = holds-found left none (subst (λ n. LinksFound code blocks' froms' n zeros links') d.live-is found);
        cells-long = d.cells-long;
      }
