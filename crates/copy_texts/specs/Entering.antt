-- The texts in the area stay right: where activations are left, or go on elsewhere (`texts-kept`); where a block's text is copied for a new
-- activation (`texts-entered`; `TextsReady` is what that takes); and at the start (`texts-start`).
use Rattle.std.specs.Prelude.{ℕ, zero, suc, ◌+◌, ◌*◌, ◌-◌, ◌≤◌, ◌<◌, ◌≡◌, eqb, length, get_or}
use Rattle.std.proofs.Common.{arith, zero-add, mul-le-mul_right, ◌∙◌, subst₂, eqb-true}
use mathlib.Core.List.{List, [], ◌∷◌}
use Rattle.std.proofs.Math.Option.{some}
use Rattle.std.proofs.Math.Path.{sym, ap, subst}
use Rattle.std.proofs.lemmas.Bool.{eqb-false}
use Rattle.std.proofs.Math.ListN.{get_elem?}
use Rattle.language.specs.Text.{Block, block_at}
use Rattle.language.specs.Copy.{Replacement}
use Rattle.language.specs.Machine.{Activation}
use Rattle.laws.specs.Tests.{split, none≢some, some_inj}
use Rattle.laws.specs.Lists.{get_elem-bound}
use Rattle.frames.specs.Frame.{Frame}
use Rattle.coordinates.specs.Enclosure.{Enclosing, enclosed, Enclosure}
use Rattle.coordinates.specs.Chain.{enclosing, outline, SameOutlines}
use Rattle.resolved.specs.Resolved.{place_of, end_place, level_in}
use Rattle.copy_texts.specs.Texts.{reading, Texts, renewed, Copied}
use Rattle.copy_texts.specs.Renewing.{Inside, Enters, reading-plain, reading-above, field-read}
use Rattle.copy_texts.specs.Stacks.{SameActivations, OneMore, activation-before, frame-before, by_index}

-- the text of one activation, with the frame beside it
abbrev TextStands : List ℕ → ℕ → List ℕ → List ℕ → ℕ → Activation → Frame → Type 0
TextStands area width names fields k a f =
    (q : ℕ) → place_of (block_at f.text) ≤ q → q < end_place f.text → get_or area (k * width + q) 0 ≡ reading a.reads (get_or names q 0) (get_or fields q 0)

-- The words of a copy

words_copied : (area area' names fields : List ℕ) (from to given fresh : ℕ) (e : Enclosing) (es : Enclosure) (outer : List Replacement) (new : Activation)
    → Enters area given fresh e es outer new → Inside names fields e es
    → Copied area area' names from to given (suc (length es)) (fresh - length e.formals) (place_of (block_at e.text)) (end_place e.text)
    → ((q : ℕ) → place_of (block_at e.text) ≤ q → q < end_place e.text → get_or area (from + q) 0 ≡ reading outer (get_or names q 0) (get_or fields q 0))
    → (q : ℕ) → place_of (block_at e.text) ≤ q → q < end_place e.text → get_or area' (to + q) 0 ≡ reading new.reads (get_or names q 0) (get_or fields q 0)
words_copied area area' names fields from to given fresh e es outer new h inside copied source q l b =
    copied.copied q l b ∙ ap (renewed area given (suc (length es)) (fresh - length e.formals) (get_or names q 0)) (source q l b)
    ∙ field-read h (get_or names q 0) (get_or fields q 0) (inside q l b)

-- The activations that were there before

module _ {area : List ℕ} {width : ℕ} {names fields : List ℕ} {as' : List Activation} {fs : List Frame} (texts : Texts area width names fields as' fs)
    (as'' : List Activation) (fs'' : List Frame) where
  words-kept : (n : ℕ) → n ≤ length as' → SameActivations n as' as'' → SameOutlines n fs fs''
      → (k : ℕ) (a : Activation) (f : Frame) → k < n → get_elem? as'' k ≡ some a → get_elem? fs'' k ≡ some f
      → TextStands area width names fields k a f
  unfolding outline enclosing
  words-kept n h same-activations same-frames k a f l p r q low high =
      let b = activation-before n k l as' as'' same-activations h a p in
      let g = frame-before n k l fs fs'' same-frames f r in
      let text : f.text ≡ g.0.text = sym (ap (λ (x : Enclosing × ℕ). x.0.text) g.2) in
      let low' : place_of (block_at g.0.text) ≤ q = subst (λ (t : Block). place_of (block_at t) ≤ q) text low in
      let high' : q < end_place g.0.text = subst (λ (t : Block). q < end_place t) text high in
      texts.each k b.0 g.0 b.1 g.1 q low' high' ∙ ap (λ (σs : List Replacement). reading σs (get_or names q 0) (get_or fields q 0)) b.2

  pub texts-kept : length as'' ≤ length as' → SameActivations (length as'') as' as'' → SameOutlines (length as'') fs fs'' → Texts area width names fields as'' fs''
  texts-kept h same-activations same-frames =
      record { each = λ k a f p r. words-kept (length as'') h same-activations same-frames k a f (get_elem-bound as'' k a p) p r }

-- One activation more

pub record TextsReady (area area' names fields : List ℕ) (width live link given fresh : ℕ) (as' as'' : List Activation) (fs fs'' : List Frame)
    (es : Enclosure) (f g : Frame) (new source : Activation) : Type 0 where
  pub texts : Texts area width names fields as' fs
  pub more : OneMore live as' as'' fs fs'' new f
  pub source_is : get_elem? as' link ≡ some source
  pub source-frame : get_elem? fs link ≡ some g
  pub begins-within : place_of (block_at g.text) ≤ place_of (block_at f.text)
  pub ends-within : end_place f.text ≤ end_place g.text
  pub wide : (k : ℕ) (x : Frame) → get_elem? fs'' k ≡ some x → end_place x.text ≤ width
  pub enters : Enters area given fresh (enclosed f.formals f.text) es source.reads new
  pub inside : Inside names fields (enclosed f.formals f.text) es
  pub copied : Copied area area' names (link * width) ((live + 1) * width) given (suc (length es)) (fresh - length f.formals) (place_of (block_at f.text)) (end_place f.text)

module _ {area area' names fields : List ℕ} {width live link given fresh : ℕ} {as' as'' : List Activation} {fs fs'' : List Frame} {es : Enclosure} {f g : Frame} {new source : Activation}
    (h : TextsReady area area' names fields width live link given fresh as' as'' fs fs'' es f g new source) where
  abbrev Right : ℕ → Activation → Frame → Type 0
  Right = TextStands area' width names fields

  old-right : (k : ℕ) (a : Activation) (x : Frame) → get_elem? as'' k ≡ some a → get_elem? fs'' k ≡ some x → k < live + 1 → Right k a x
  old-right k a x p r l q low high =
      let m : suc k * width ≤ (live + 1) * width = mul-le-mul_right width l in
      let below : k * width + q < (live + 1) * width + place_of (block_at f.text) = omega (arith, h.wide k x r) in
      h.copied.before (k * width + q) below
      ∙ words-kept h.texts as'' fs'' (live + 1) (omega (arith, h.more.deep)) h.more.same-activations h.more.same-frames k a x l p r q low high

  new-right : Right (live + 1) new f
  new-right =
      words_copied area area' names fields (link * width) ((live + 1) * width) given fresh (enclosed f.formals f.text) es source.reads new h.enters h.inside h.copied
      (λ q low high. h.texts.each link source g h.source_is h.source-frame q (omega (arith, h.begins-within)) (omega (arith, h.ends-within)))

  top_right : (k : ℕ) (a : Activation) (x : Frame) → get_elem? as'' k ≡ some a → get_elem? fs'' k ≡ some x → k ≡ live + 1 → Right k a x
  top_right k a x p r z =
      let c : new ≡ a = some_inj (sym h.more.top ∙ ap (get_elem? as'') (sym z) ∙ p) in
      let d : f ≡ x = some_inj (sym h.more.top_frame ∙ ap (get_elem? fs'') (sym z) ∙ r) in
      subst (λ (i : ℕ). Right i a x) (sym z) (subst₂ (Right (live + 1)) c d new-right)

  pub texts-entered : Texts area' width names fields as'' fs''
  texts-entered = record { each = λ k a x p r. by_index as'' live k a h.more.deeper p (old-right k a x p r) (top_right k a x p r) }

-- The start: the area has the script's fields, and the program's text is copied over itself

reading-nothing : (w n : ℕ) → reading [] w n ≡ n
reading-nothing w n =
    split (eqb (level_in w) 0) (λ t. reading-plain [] w n (eqb-true (level_in w) 0 t))
    (λ t. reading-above [] w n (omega (arith, eqb-false (level_in w) 0 t)))

pub texts-start : (area area' names fields : List ℕ) (width given : ℕ) (a : Activation) (f : Frame) → f.formals ≡ []
    → Enters area given 65536 (enclosed f.formals f.text) [] [] a → Inside names fields (enclosed f.formals f.text) []
    → ((q : ℕ) → q < length fields → get_or area q 0 ≡ get_or fields q 0) → end_place f.text ≤ length fields
    → Copied area area' names 0 0 given 1 65536 (place_of (block_at f.text)) (end_place f.text)
    → Texts area' width names fields (a ∷ []) (f ∷ [])
texts-start area area' names fields width given a f no-formals enters inside filled long copied = record { each = right }
  where
    first : 65536 ≡ 65536 - length f.formals
    first = let z : length f.formals ≡ 0 = ap length no-formals in omega arith

    copy : Copied area area' names 0 0 given 1 (65536 - length f.formals) (place_of (block_at f.text)) (end_place f.text)
    copy = subst (λ (x : ℕ). Copied area area' names 0 0 given 1 x (place_of (block_at f.text)) (end_place f.text)) first copied

    source : (q : ℕ) → q < end_place f.text → get_or area (0 + q) 0 ≡ reading [] (get_or names q 0) (get_or fields q 0)
    source q high = ap (λ i. get_or area i 0) (zero-add q) ∙ filled q (omega arith) ∙ sym (reading-nothing (get_or names q 0) (get_or fields q 0))

    cells : TextStands area' width names fields 0 a f
    cells q low high =
        let z : 0 * width + q ≡ 0 + q = omega arith in
        ap (λ i. get_or area' i 0) z
        ∙ words_copied area area' names fields 0 0 given 65536 (enclosed f.formals f.text) [] [] a enters inside copy (λ i l b. source i b) q low high

    right : (k : ℕ) (b : Activation) (x : Frame) → get_elem? (a ∷ []) k ≡ some b → get_elem? (f ∷ []) k ≡ some x → TextStands area' width names fields k b x
    right zero b x p r = subst₂ (TextStands area' width names fields 0) (some_inj p) (some_inj r) cells
    right (suc k) b x p r = none≢some p
