-- The copying area holds the copy-rule machine's texts. What names read as in an activation has one part for each block around its text, over that
-- block's names (`Parts`). The machine renames the text by all parts joined, and these put for each name what it reads as by its word
-- (`reads-replace`). Hence the words of an activation in the area are the fields of its text in the machine: `texts-are-copies`; `running-copies` says
-- it between two steps of the engine.
use Prim.Native.Nat.{ℕ, zero, suc, ◌+◌, ◌*◌, ◌≤◌, ◌<◌}
use native.Mathlib.Omega.{arith}
use Rattle.std.specs.Prelude.{List, [], ◌∷◌, ◌≡◌, ℤ, length}
use Rattle.std.proofs.Math.Option.{none, some}
use Rattle.std.proofs.Math.Path.{refl, ap, ap₂, subst, subst₂}
use Rattle.std.proofs.Common.{sym, ◌∙◌}
use Rattle.std.proofs.Math.ListN.{get_or, get_elem?}
use Rattle.std.proofs.lemmas.List.{length-map}
use Rattle.language.specs.Basics.{lookup, zip}
use Rattle.language.specs.Text.{Formal, Block, block_at, formal_names, declared_names}
use Rattle.language.specs.Encoding.{block_fields}
use Rattle.language.specs.Copy.{Replacement}
use Rattle.language.specs.Machine.{Activation, State}
use Rattle.laws.specs.Tests.{by-lookup, none≢some}
use Rattle.laws.specs.Lists.{get_elem-past, get_elem-none}
use Rattle.laws.specs.Lookup.{lookup-right, zip-append}
use Rattle.laws.specs.Renaming.{renamed-none, block_at-renamed}
use Rattle.grammar.specs.Rules.{Keeps}
use Rattle.frames.specs.Frame.{Frame, Stack, numbered, position_from}
use Rattle.frames.specs.Numbered.{numbered-suc}
use Rattle.frames.specs.Related.{reads_in, reads_at, joined, own_of, Twin, Related, as-deep, twin-at}
use Rattle.frames.proofs.Transfers.{reads_of}
use Rattle.coordinates.specs.Enclosure.{Enclosure, names_of, coordinate_of, Encloses}
use Rattle.coordinates.specs.Chain.{enclosing, enclosure_of, Chained}
use Rattle.coordinates.proofs.Search.{coordinate-here, coordinate-further, enclosure-none}
use Rattle.coordinates.proofs.Declared.{coordinate-declares}
use Rattle.coordinates.proofs.Levels.{enclosure-of-text}
use Rattle.resolved.specs.Resolved.{place_of, end_place, level_in, name_word, Covers}
use Rattle.resolved.proofs.NameWords.{word_none, Narrow, narrow-of-text, name-is}
use Rattle.resolved.proofs.Lengths.{covers_at}
use Rattle.resolved.proofs.Places.{enclosed-formed}
use Rattle.resolve_fields.specs.Walk.{block_words}
use Rattle.copy_fields.specs.NameFields.{name_words, named_of}
use Rattle.copy_fields.specs.Lengths.{block-length}
use Rattle.copy_fields.specs.Standing.{block-fields-stand, block-fields-named}
use Rattle.copy_texts.specs.Texts.{reading, Texts}
use Rattle.copy_texts.specs.Readings.{zip-missing}
use Rattle.copy_texts.specs.Renewing.{values_of, reading-plain, reading-in}
use Rattle.run_state.specs.declared.Registers.{Registers}
use Rattle.copy_moves.specs.Running.{Running}
use Rattle.copy_moves.specs.Settled.{own-enclosure, encloses-at}
use Rattle.copy_moves.specs.Renamed.{readings, Replaces, block_read}

-- Parts that belong to the blocks around

abbrev pub Parts : Enclosure → List Replacement → Type 0
Parts [] [] = Unit {0}
Parts [] (σ ∷ σs) = ⊥
Parts (e ∷ es) [] = ⊥
Parts (e ∷ es) (σ ∷ σs) = ((vs : List ℕ) × (σ ≡ zip (names_of e) vs)) × Parts es σs

parts-many : (es : Enclosure) (σs : List Replacement) → Parts es σs → length σs ≡ length es
parts-many [] [] h = refl
parts-many [] (σ ∷ σs) h = absurd h
parts-many (e ∷ es) [] h = absurd h
parts-many (e ∷ es) (σ ∷ σs) h = ap suc (parts-many es σs h.1)

-- a name that is not visible is in no part
parts-missing : (es : Enclosure) (σs : List Replacement) (n : ℕ) → Parts es σs → coordinate_of es n ≡ none → lookup n (joined σs) ≡ none
unfolding joined lookup
parts-missing [] [] n h q = refl
parts-missing [] (σ ∷ σs) n h q = absurd h
parts-missing (e ∷ es) [] n h q = absurd h
parts-missing (e ∷ es) (σ ∷ σs) n h q =
    by-lookup (position_from n 1 (names_of e))
    (λ m.
    lookup-right n σ (joined σs) (ap (λ (τ : Replacement). lookup n τ) h.0.1 ∙ zip-missing n 1 (names_of e) h.0.0 m)
    ∙ parts-missing es σs n h.1 (sym (coordinate-further e es n m) ∙ q))
    (λ p m. none≢some (sym q ∙ coordinate-here e es n p m))

parts-replace : (es : Enclosure) (σs : List Replacement) → Narrow es → Parts es σs → Replaces es (joined σs) σs
parts-replace es σs narrow h =
    record {
      narrow = narrow;
      shallow = omega (arith, parts-many es σs h);
      same = λ n.
          by-lookup (coordinate_of es n)
          (λ q. renamed-none (joined σs) n (parts-missing es σs n h q) ∙ sym (reading-plain σs (name_word es n) n (ap level_in (word_none es n q))))
          (λ c q.
          let d = coordinate-declares es n c q in
          let says = name-is es narrow n c q d.block d.stands in
          sym (reading-in σs (name_word es n) n (omega (arith, says.level, d.low)) (omega (arith, says.level, d.high, parts-many es σs h))));
    }

-- The parts along the links

own-part : (f : Frame) (a : Activation) → length a.arguments ≡ length f.formals → own_of f a ≡ zip (names_of (enclosing f)) (values_of a)
unfolding own_of names_of enclosing values_of formal_names
own-part f a many =
    zip-append (formal_names f.formals) a.arguments (declared_names f.text) (declared_names a.text) (length-map f.formals (λ (x : Formal). x.name) ∙ sym many)

module _ (program : Block) (s : State) (t : Stack) (related : Related s t) (chained : Chained program t.frames) where
  reads_none : (k : ℕ) → numbered s.live k ≡ none → reads_at s.live k ≡ []
  unfolding reads_at reads_in
  reads_none k e = ap reads_in e

  no-parts : (k : ℕ) → numbered s.live k ≡ none → numbered t.frames k ≡ none → Parts (enclosure_of t.frames k) (reads_at s.live k)
  no-parts k e q = subst₂ Parts (sym (enclosure-none t.frames k q)) (sym (reads_none k e)) tt

  -- where those further out have them
  parts_next : (k : ℕ) → ((j : ℕ) → j < k → Parts (enclosure_of t.frames j) (reads_at s.live j))
      → Parts (enclosure_of t.frames k) (reads_at s.live k)
  unfolding numbered
  parts_next zero further = no-parts zero refl refl
  parts_next (suc k) further =
      by-lookup (get_elem? s.live k)
      (λ e. no-parts (suc k) e (get_elem-none t.frames k (omega (arith, get_elem-past s.live k e, as-deep s t related))))
      (λ a e.
      let f = twin-at s t related k a e in
      subst₂ Parts (sym (own-enclosure program t.frames chained k f.0 f.1)) (sym (reads_of s t related k a e ∙ f.2.reads-are))
      ((values_of a, own-part f.0 a f.2.as_many), further f.0.link (omega (arith, f.2.link-below))))

  parts_below : (n k : ℕ) → k ≤ n → Parts (enclosure_of t.frames k) (reads_at s.live k)
  parts_below zero k h = parts_next k (λ j p. absurd (omega arith))
  parts_below (suc n) k h = parts_next k (λ j p. parts_below n j (omega arith))

  pub reads-parts : (k : ℕ) (a : Activation) → get_elem? s.live k ≡ some a → Parts (enclosure_of t.frames (suc k)) a.reads
  reads-parts k a e = subst (Parts (enclosure_of t.frames (suc k))) (reads_of s t related k a e) (parts_below (suc k) (suc k) (omega arith))

  pub reads-replace : Keeps program → (k : ℕ) (a : Activation) → get_elem? s.live k ≡ some a
      → Replaces (enclosure_of t.frames (suc k)) (joined a.reads) a.reads
  reads-replace keeps k a e =
      let f = twin-at s t related k a e in
      let around = enclosure-of-text program t.frames chained (suc k) f.0 (numbered-suc t.frames k ∙ f.1) in
      parts-replace (enclosure_of t.frames (suc k)) a.reads (narrow-of-text program keeps (enclosure_of t.frames (suc k)) around) (reads-parts k a e)

  -- the fields of a copy
  pub copy_read : Keeps program → (k : ℕ) (a : Activation) (f : Frame) → get_elem? s.live k ≡ some a → get_elem? t.frames k ≡ some f
      → Twin s.live s.values k a f
      → block_fields a.text ≡ readings a.reads (block_words name_words f.text f.formals (enclosure_of t.frames f.link)) (block_fields f.text)
  unfolding enclosing
  copy_read keeps k a f e q twin =
      let es = enclosure_of t.frames f.link in
      let within = encloses-at program t.frames chained k f q in
      let σ = joined a.reads in
      let replaces = subst (λ (os : Enclosure). Replaces os σ a.reads) (own-enclosure program t.frames chained k f q) (reads-replace keeps k a e) in
      let formed = enclosed-formed program keeps (enclosing f) es within in
      ap block_fields twin.text-is ∙ block_read a.reads f.text f.formals es σ (2 * place_of (block_at f.text)) formed replaces

-- The area

readings-covered : (area : List ℕ) (σs : List Replacement) (p : ℕ) (ws ns : List ℕ)
    → ((i : ℕ) → i < length ns → get_or area (p + i) 0 ≡ reading σs (get_or ws i 0) (get_or ns i 0)) → Covers area p (readings σs ws ns)
readings-covered area σs p [] ns h = tt
readings-covered area σs p (w ∷ ws) [] h = tt
readings-covered area σs p (w ∷ ws) (n ∷ ns) h =
    let first : p ≡ p + 0 = omega arith in (
      ap (λ q. get_or area q 0) first ∙ h 0 (omega arith),
      readings-covered area σs (p + 1) ws ns
          (λ i k. let z : p + 1 + i ≡ p + suc i = omega arith in ap (λ q. get_or area q 0) z ∙ h (suc i) (omega arith)),
    )

module _ (program : Block) (keeps : Keeps program) (s : State) (t : Stack) (related : Related s t) (chained : Chained program t.frames)
    (names : List ℕ) (names_stand : Covers names 0 (named_of program))
    (area : List ℕ) (width : ℕ) (texts : Texts area width names (block_fields program) s.live t.frames) where
  module _ (k : ℕ) (a : Activation) (e : get_elem? s.live k ≡ some a) (f : Frame) (q : get_elem? t.frames k ≡ some f) where
    abbrev es : Enclosure
    es = enclosure_of t.frames f.link

    abbrev place : ℕ
    place = place_of (block_at f.text)

    around : Encloses program (enclosing f ∷ es)
    around = encloses-at program t.frames chained k f q

    field-read : (i : ℕ) → i < length (block_fields f.text)
        → get_or area (k * width + place + i) 0 ≡ reading a.reads (get_or (block_words name_words f.text f.formals es) i 0) (get_or (block_fields f.text) i 0)
    unfolding end_place enclosing
    field-read i l =
        let z : k * width + place + i ≡ k * width + (place + i) = omega arith in
        let ws = block_words name_words f.text f.formals es in
        let fields-named = block-fields-named names program keeps names_stand (enclosing f) es around in
        let word = covers_at names place ws fields-named i (omega (arith, block-length f.text f.formals es)) in
        let field = covers_at (block_fields program) place (block_fields f.text) (block-fields-stand program keeps (enclosing f) es around) i l in
        ap (λ j. get_or area j 0) z ∙ texts.each k a f e q (place + i) (omega arith) (omega arith) ∙ ap₂ (reading a.reads) word field

  pub texts-are-copies : (k : ℕ) (a : Activation) → get_elem? s.live k ≡ some a → Covers area (k * width + place_of (block_at a.text)) (block_fields a.text)
  texts-are-copies k a e =
      let twin = twin-at s t related k a e in
      let f = twin.0 in
      let os = enclosure_of t.frames f.link in
      let at : block_at a.text ≡ block_at f.text = ap block_at twin.2.text-is ∙ block_at-renamed f.text (joined a.reads) in
      let fields = copy_read program s t related chained keeps k a f e twin.1 twin.2 in
      subst₂ (λ (o : ℕ) (xs : List ℕ). Covers area (k * width + place_of o) xs) (sym at) (sym fields)
      (readings-covered area a.reads (k * width + place_of (block_at f.text)) (block_words name_words f.text f.formals os) (block_fields f.text)
      (field-read k a e f twin.1))

module _ {code names : List ℕ} {activations limit : ℕ} {cells : List ℤ} {area : List ℕ} {width : ℕ} {blocks nexts links firsts starts targets looked : List ℕ} {table : List ℤ} {here : Registers}
    (w : Running code names activations limit cells area width blocks nexts links firsts starts targets looked table here) where
  pub running-copies : (k : ℕ) (a : Activation) → get_elem? w.copies.live k ≡ some a
      → Covers area (k * width + place_of (block_at a.text)) (block_fields a.text)
  running-copies =
      texts-are-copies w.standing.program w.standing.keeps w.copies w.standing.stack w.related w.standing.sound.chained
      names w.names_stand area width w.texts
