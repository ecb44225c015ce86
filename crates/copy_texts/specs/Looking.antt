-- What the looked-up name reads as stays right, in each live activation. `looks-entered`: its word is copied like any other (`LooksReady` is what
-- that takes); `looks-kept`; `looks-start`.
use Rattle.std.specs.Prelude.{ℕ, zero, suc, ◌+◌, ◌-◌, ◌≤◌, ◌<◌, List, [], ◌∷◌, ◌≡◌, refl, eqb, length, get_or, set}
use Rattle.std.proofs.Common.{arith, sym, ap₂, ◌∙◌, subst₂, eqb-true, eq-eqb, ne_eqb, get_or-set_same, get_or-set_other}
use Rattle.std.proofs.Math.Option.{none, some}
use Rattle.std.proofs.Math.Path.{ap}
use Rattle.std.proofs.lemmas.Bool.{eqb-false}
use Rattle.std.proofs.Math.ListN.{get_elem?}
use Rattle.language.specs.Basics.{zip}
use Rattle.language.specs.Copy.{Replacement, renamed}
use Rattle.language.specs.Machine.{Activation}
use Rattle.laws.specs.Tests.{split, by-lookup, none≢some, some_inj}
use Rattle.laws.specs.Lists.{get_elem-bound}
use Rattle.frames.specs.Frame.{Frame, numbered, position_from}
use Rattle.frames.specs.Numbered.{numbered-suc}
use Rattle.frames.specs.Related.{joined}
use Rattle.coordinates.specs.Enclosure.{Enclosing, enclosed, Enclosure, Coordinate, names_of, coordinate_of}
use Rattle.coordinates.specs.Chain.{enclosing, along, enclosure_of, SameOutlines, Downward}
use Rattle.coordinates.proofs.Search.{coordinate-here, coordinate-further, enclosure-step}
use Rattle.coordinates.proofs.Declared.{coordinate-declares}
use Rattle.coordinates.proofs.Statements.{enclosure-alike}
use Rattle.resolved.specs.Resolved.{position_in, level_in, name_word}
use Rattle.resolved.proofs.NameWords.{word_none, word-none-iff, Narrow, name-is}
use Rattle.copy_texts.specs.Texts.{read_as, Looks, renewed}
use Rattle.copy_texts.specs.Readings.{coordinate-hidden, owned, own-within, own-reads, own-hidden}
use Rattle.copy_texts.specs.Renewing.{Enters, renewed-other, renamed-near, renamed-far, values_of, values-many, reads-own, renewed-own}
use Rattle.copy_texts.specs.Stacks.{SameActivations, OneMore, activation-before, by_index}

module _ (σs : List Replacement) (w n : ℕ) where
  read-nowhere : w ≡ 0 → read_as σs w n ≡ 0
  unfolding read_as
  read-nowhere z = rw (eq-eqb w 0 z, read_as)

  read-somewhere : (w ≡ 0 → ⊥) → read_as σs w n ≡ renamed (joined σs) n
  unfolding read_as
  read-somewhere h = rw (ne_eqb w 0 h, read_as)

-- a name with a coordinate has a word
word-there : (es : Enclosure) (n : ℕ) (c : Coordinate) → coordinate_of es n ≡ some c → name_word es n ≡ 0 → ⊥
word-there es n c q z = none≢some (sym ((word-none-iff es n).0 z) ∙ q)

nowhere-outside : (e : Enclosing) (es : Enclosure) (n : ℕ) → coordinate_of (e ∷ es) n ≡ none → coordinate_of es n ≡ none
nowhere-outside e es n q =
    by-lookup (position_from n 1 (names_of e)) (λ m. sym (coordinate-further e es n m) ∙ q) (λ p m. none≢some (sym q ∙ coordinate-here e es n p m))

-- The name in a block entered

module _ {area : List ℕ} {given fresh : ℕ} {e : Enclosing} {es : Enclosure} {outer : List Replacement} {new : Activation} (h : Enters area given fresh e es outer new)
    (narrow : Narrow (e ∷ es)) (n : ℕ) where
  abbrev w : ℕ
  w = name_word (e ∷ es) n

  abbrev own : Replacement
  own = zip (names_of e) (values_of new)

  abbrev taken : ℕ → ℕ
  taken old = renewed area given (suc (length es)) (fresh - length e.formals) w old

  nowhere : coordinate_of (e ∷ es) n ≡ none → taken (read_as outer (name_word es n) n) ≡ read_as (own ∷ outer) w n
  nowhere q =
      let z : w ≡ 0 = word_none (e ∷ es) n q in
      renewed-other area given (suc (length es)) (fresh - length e.formals) w (read_as outer (name_word es n) n) (λ l. omega arith)
      ∙ read-nowhere outer (name_word es n) n (word_none es n (nowhere-outside e es n q)) ∙ sym (read-nowhere (own ∷ outer) w n z)

  here : (old : ℕ) (c : Coordinate) → coordinate_of (e ∷ es) n ≡ some c → level_in w ≡ suc (length es) → taken old ≡ read_as (own ∷ outer) w n
  here old c q l =
      let b = own-within e es [] narrow n (values_of new) (values-many h) l in
      let found = own-reads e es [] narrow n (values_of new) (values-many h) l in
      renewed-own h n w old (owned e es [] narrow n l) l b
      ∙ sym (read-somewhere (own ∷ outer) w n (word-there (e ∷ es) n c q) ∙ renamed-near own outer n (get_or (values_of new) (position_in w) 0) found)

  further : (c : Coordinate) → coordinate_of (e ∷ es) n ≡ some c → 1 ≤ level_in w → level_in w < suc (length es) → level_in w ≡ c.level
      → taken (read_as outer (name_word es n) n) ≡ read_as (own ∷ outer) w n
  further c q low high l =
      let missed = coordinate-hidden [] e es n c q (omega arith) in
      let outside : coordinate_of es n ≡ some c = sym (coordinate-further e es n missed) ∙ q in
      renewed-other area given (suc (length es)) (fresh - length e.formals) w (read_as outer (name_word es n) n) (λ x. omega arith)
      ∙ read-somewhere outer (name_word es n) n (word-there es n c outside)
      ∙ sym (read-somewhere (own ∷ outer) w n (word-there (e ∷ es) n c q) ∙ renamed-far own outer n (own-hidden e es [] narrow n low high (values_of new)))

  somewhere : (c : Coordinate) → coordinate_of (e ∷ es) n ≡ some c → taken (read_as outer (name_word es n) n) ≡ read_as (own ∷ outer) w n
  somewhere c q =
      let d = coordinate-declares (e ∷ es) n c q in
      let l : level_in w ≡ c.level = (name-is (e ∷ es) narrow n c q d.block d.stands).level in
      split (eqb (level_in w) (suc (length es))) (λ t. here (read_as outer (name_word es n) n) c q (eqb-true (level_in w) (suc (length es)) t))
      (λ f. further c q (omega (arith, d.low)) (omega (arith, d.high, eqb-false (level_in w) (suc (length es)) f)) l)

  -- where the activation around has what it reads, the new one has what it reads
  pub looked-read : (old : ℕ) → old ≡ read_as outer (name_word es n) n → taken old ≡ read_as new.reads w n
  looked-read old s =
      ap (λ x. taken x) s ∙ by-lookup (coordinate_of (e ∷ es) n) nowhere somewhere ∙ ap (λ (σs : List Replacement). read_as σs w n) (sym (reads-own h))

-- The activations that were there before

looked-kept : (looked : List ℕ) (as' as'' : List Activation) (fs fs'' : List Frame) (name : ℕ) → Looks looked as' fs name → Downward fs
    → (n : ℕ) → n ≤ length as' → SameActivations n as' as'' → SameOutlines n fs fs'' → (k : ℕ) (a : Activation) → k < n → get_elem? as'' k ≡ some a
    → get_or looked k 0 ≡ read_as a.reads (name_word (enclosure_of fs'' (suc k)) name) name
looked-kept looked as' as'' fs fs'' name looks down n h same-activations same-frames k a l p =
    let b = activation-before n k l as' as'' same-activations h a p in
    let around : enclosure_of fs (suc k) ≡ enclosure_of fs'' (suc k) = sym (enclosure-alike fs fs'' n same-frames down (suc k) (omega arith)) in
    looks.each k b.0 b.1 ∙ ap₂ (λ (σs : List Replacement) (es : Enclosure). read_as σs (name_word es name) name) b.2 around

pub looks-kept : (looked : List ℕ) (as' as'' : List Activation) (fs fs'' : List Frame) (name : ℕ) → Looks looked as' fs name → Downward fs
    → length as'' ≤ length as' → SameActivations (length as'') as' as'' → SameOutlines (length as'') fs fs'' → Looks looked as'' fs'' name
looks-kept looked as' as'' fs fs'' name looks down h same-activations same-frames =
    record { each = λ k a p. looked-kept looked as' as'' fs fs'' name looks down (length as'') h same-activations same-frames k a (get_elem-bound as'' k a p) p }

-- One activation more

pub record LooksReady (area looked looked' : List ℕ) (name live link given fresh : ℕ) (as' as'' : List Activation) (fs fs'' : List Frame)
    (es : Enclosure) (f : Frame) (new source : Activation) : Type 0 where
  pub looks : Looks looked as' fs name
  pub more : OneMore live as' as'' fs fs'' new f
  pub down : Downward fs
  pub down-after : Downward fs''
  pub source_is : get_elem? as' link ≡ some source
  pub link-is : f.link ≡ suc link
  pub around : enclosure_of fs (suc link) ≡ es
  pub narrow : Narrow (enclosed f.formals f.text ∷ es)
  pub enters : Enters area given fresh (enclosed f.formals f.text) es source.reads new
  pub room : live + 1 < length looked
  pub looked-is : looked' ≡ set looked (live + 1) (renewed area given (suc (length es)) (fresh - length f.formals) (name_word (enclosed f.formals f.text ∷ es) name) (get_or looked link 0))

module _ {area looked looked' : List ℕ} {name live link given fresh : ℕ} {as' as'' : List Activation} {fs fs'' : List Frame} {es : Enclosure} {f : Frame} {new source : Activation}
    (h : LooksReady area looked looked' name live link given fresh as' as'' fs fs'' es f new source) where
  abbrev value : ℕ
  value = renewed area given (suc (length es)) (fresh - length f.formals) (name_word (enclosed f.formals f.text ∷ es) name) (get_or looked link 0)

  abbrev Read : ℕ → Activation → Type 0
  Read k a = get_or looked' k 0 ≡ read_as a.reads (name_word (enclosure_of fs'' (suc k)) name) name

  old-read : (k : ℕ) (a : Activation) → get_elem? as'' k ≡ some a → k < live + 1 → Read k a
  old-read k a p l =
      ap (λ (ls : List ℕ). get_or ls k 0) h.looked-is ∙ get_or-set_other looked (live + 1) k value 0 (λ z. omega arith)
      ∙ looked-kept looked as' as'' fs fs'' name h.looks h.down (live + 1) (omega (arith, h.more.deep)) h.more.same-activations h.more.same-frames k a l p

  around-new : enclosure_of fs'' (suc (live + 1)) ≡ enclosed f.formals f.text ∷ es
  unfolding enclosing
  around-new =
      let b = get_elem-bound as' link source h.source_is in
      enclosure-step fs'' h.down-after (suc (live + 1)) f (numbered-suc fs'' (live + 1) ∙ h.more.top_frame)
      ∙ ap (λ (os : Enclosure). enclosed f.formals f.text ∷ os)
      (ap (enclosure_of fs'') h.link-is ∙ enclosure-alike fs fs'' (live + 1) h.more.same-frames h.down (suc link) (omega (arith, h.more.deep)) ∙ h.around)

  new-read : Read (live + 1) new
  new-read =
      let old = h.looks.each link source h.source_is ∙ ap (λ (os : Enclosure). read_as source.reads (name_word os name) name) h.around in
      ap (λ (ls : List ℕ). get_or ls (live + 1) 0) h.looked-is ∙ get_or-set_same looked (live + 1) value 0 h.room
      ∙ looked-read h.enters h.narrow name (get_or looked link 0) old
      ∙ ap (λ (os : Enclosure). read_as new.reads (name_word os name) name) (sym around-new)

  top_read : (k : ℕ) (a : Activation) → get_elem? as'' k ≡ some a → k ≡ live + 1 → Read k a
  top_read k a p z = subst₂ Read (sym z) (some_inj (sym h.more.top ∙ ap (get_elem? as'') (sym z) ∙ p)) new-read

  pub looks-entered : Looks looked' as'' fs'' name
  looks-entered = record { each = λ k a p. by_index as'' live k a h.more.deeper p (old-read k a p) (top_read k a p) }

-- the program's

word-outside : (n : ℕ) → name_word [] n ≡ 0
unfolding coordinate_of
word-outside n = word_none [] n refl

enclosure-start : (f : Frame) → enclosure_of (f ∷ []) 1 ≡ enclosed f.formals f.text ∷ []
unfolding enclosure_of along numbered enclosing
enclosure-start f = refl

pub looks-start : (area looked : List ℕ) (name given : ℕ) (a : Activation) (f : Frame) → f.formals ≡ []
    → Narrow (enclosed f.formals f.text ∷ []) → Enters area given 65536 (enclosed f.formals f.text) [] [] a
    → get_or looked 0 0 ≡ renewed area given 1 65536 (name_word (enclosed f.formals f.text ∷ []) name) 0
    → Looks looked (a ∷ []) (f ∷ []) name
looks-start area looked name given a f no-formals narrow enters q = record { each = read }
  where
    w : ℕ
    w = name_word (enclosed f.formals f.text ∷ []) name

    first : 65536 ≡ 65536 - length f.formals
    first = let z : length f.formals ≡ 0 = ap length no-formals in omega arith

    reads : get_or looked 0 0 ≡ read_as a.reads w name
    reads = q ∙ ap (λ x. renewed area given 1 x w 0) first ∙ looked-read enters narrow name 0 (sym (read-nowhere [] (name_word [] name) name (word-outside name)))

    read : (k : ℕ) (b : Activation) → get_elem? (a ∷ []) k ≡ some b → get_or looked k 0 ≡ read_as b.reads (name_word (enclosure_of (f ∷ []) (suc k)) name) name
    read zero b p = reads ∙ ap₂ (λ (c : Activation) (os : Enclosure). read_as c.reads (name_word os name) name) (some_inj p) (sym (enclosure-start f))
    read (suc k) b p = none≢some p
