-- Frames of two stacks whose blocks stand at one place are alike: the place of a BK settles its block, its formals and what encloses it.
use Rattle.std.specs.Prelude.{ℕ, zero, suc, pred, ◌≤◌, ◌<◌, ◌≡◌, refl, eqb, length}
use Rattle.std.proofs.Common.{arith, sym, ◌∙◌, eqb-true}
use mathlib.Core.List.{List, ◌∷◌, head-eq_of_cons-eq}
use Rattle.std.proofs.Math.Option.{Option, some, map}
use Rattle.std.proofs.Math.Path.{ap}
use Rattle.std.proofs.lemmas.Bool.{eqb-false}
use Rattle.std.proofs.Math.ListN.{get_elem?}
use Rattle.language.specs.Text.{Block, block_at}
use Rattle.grammar.specs.Rules.{Keeps}
use Rattle.laws.specs.Tests.{split}
use Rattle.laws.specs.Lists.{get_elem-in}
use Rattle.frames.specs.Frame.{Frame, numbered}
use Rattle.frames.specs.Numbered.{numbered-suc, numbered-low}
use Rattle.coordinates.specs.Enclosure.{Enclosing, Enclosure, Encloses}
use Rattle.coordinates.specs.Chain.{enclosing, enclosure_of, Linked, outermost, within, Chained, outline, SameOutlines}
use Rattle.coordinates.proofs.Kept.{chained-downward}
use Rattle.coordinates.proofs.Search.{enclosure-step}
use Rattle.coordinates.proofs.Levels.{frame-encloses}
use Rattle.resolved.specs.Resolved.{place_of}
use Rattle.resolved.proofs.Places.{place-settled}

pub own-enclosure : (t : Block) (fs : List Frame) → Chained t fs → (k : ℕ) (f : Frame) → get_elem? fs k ≡ some f → enclosure_of fs (suc k) ≡ enclosing f ∷ enclosure_of fs f.link
own-enclosure t fs chain k f e = enclosure-step fs (chained-downward t fs chain) (suc k) f (numbered-suc fs k ∙ e)

pub encloses-at : (t : Block) (fs : List Frame) → Chained t fs → (k : ℕ) (f : Frame) → get_elem? fs k ≡ some f → Encloses t (enclosing f ∷ enclosure_of fs f.link)
encloses-at t fs chain k f e = frame-encloses t fs chain (suc k) f (numbered-suc fs k ∙ e)

module _ (t : Block) (keeps : Keeps t) (fs gs : List Frame) (chain : Chained t fs) (chain' : Chained t gs) (k : ℕ) (f g : Frame) (e : get_elem? fs k ≡ some f) (e' : get_elem? gs k ≡ some g)
    (same : place_of (block_at f.text) ≡ place_of (block_at g.text)) where
  both : ◌≡◌ {A = Enclosure} (enclosing f ∷ enclosure_of fs f.link) (enclosing g ∷ enclosure_of gs g.link)
  unfolding enclosing
  both = place-settled t keeps (enclosing f) (enclosure_of fs f.link) (encloses-at t fs chain k f e) (enclosing g) (enclosure_of gs g.link) (encloses-at t gs chain' k g e') same

  pub same-enclosure : enclosure_of fs (suc k) ≡ enclosure_of gs (suc k)
  same-enclosure = own-enclosure t fs chain k f e ∙ both ∙ sym (own-enclosure t gs chain' k g e')

  pub same_text : f.text ≡ g.text
  unfolding enclosing
  same_text = ap (λ (x : Enclosing). x.text) (head-eq_of_cons-eq both)

  pub same-formals : f.formals ≡ g.formals
  unfolding enclosing
  same-formals = ap (λ (x : Enclosing). x.formals) (head-eq_of_cons-eq both)

  -- a frame's link is one number more than the activation noted, or 0 for the program's
  link-low : (hs : List Frame) → Chained t hs → (h : Frame) → get_elem? hs k ≡ some h → 1 ≤ k → 1 ≤ h.link
  link-low hs c h q low = by (c (suc k) h (numbered-suc hs k ∙ q))
    where
      by : Linked t hs (suc k) h → 1 ≤ h.link
      by (outermost one z i) = absurd (omega arith)
      by (within o l s i) = numbered-low hs h.link o s

  pub same-link : pred f.link ≡ pred g.link → f.link ≡ g.link
  same-link q =
      split (eqb k 0)
      (λ z.
      let zero' = eqb-true k 0 z in
      omega (arith, chained-downward t fs chain (suc k) f (numbered-suc fs k ∙ e), chained-downward t gs chain' (suc k) g (numbered-suc gs k ∙ e')))
      (λ z.
      let low : 1 ≤ k = above k (eqb-false k 0 z) in
      omega (arith, link-low fs chain f e low, link-low gs chain' g e' low))
    where
      above : (n : ℕ) → (n ≡ 0 → ⊥) → 1 ≤ n
      above zero d = absurd (d refl)
      above (suc n) d = omega arith

  pub same-outline : pred f.link ≡ pred g.link → outline f ≡ outline g
  unfolding outline
  same-outline q = λ i. (head-eq_of_cons-eq both i, same-link q i)

-- stacks that are alike frame by frame
pub outlines : (n : ℕ) (fs gs : List Frame) → n ≤ length fs → n ≤ length gs → ((k : ℕ) (f g : Frame) → k < n → get_elem? fs k ≡ some f → get_elem? gs k ≡ some g → outline f ≡ outline g) → SameOutlines n fs gs
unfolding numbered
outlines n fs gs p q same zero h = refl
outlines n fs gs p q same (suc k) h =
    let f = get_elem-in fs k (omega arith) in
    let g = get_elem-in gs k (omega arith) in
    ap (map outline) f.1 ∙ ap {B = Option (Enclosing × ℕ)} some (same k f.0 g.0 h f.1 g.1) ∙ sym (ap (map outline) g.1)
