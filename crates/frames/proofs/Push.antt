-- Entering a block or a body keeps the relation: one activation more, and one frame linked to the frame that encloses its text.
use Rattle.std.specs.Prelude.{ℕ, zero, suc, ◌+◌, ◌≤◌, ◌<◌, Bool, true, false, ◌≡◌, refl, eqb, ℤ}
use Rattle.std.proofs.Common.{arith, not-suc-le-zero, ◌∙◌, eq-eqb, ne_eqb}
use Rattle.std.proofs.Math.Nat.{zero-add}
use Rattle.std.proofs.Math.Path.{sym, ap, ap₂, subst}
use mathlib.Core.List.{List, [], ◌∷◌, ◌++◌, map, head-eq_of_cons-eq, tail-eq_of_cons-eq}
use Rattle.std.proofs.Math.Option.{Option, none, some}
use Rattle.std.proofs.Math.IntN.{pos}
use Rattle.std.proofs.Math.ListN.{length, get_elem?, length-map}
use Rattle.language.specs.Basics.{lookup, zip, up_from}
use Rattle.language.specs.Text.{Formal, Block, Decl, VR, LB, PR, block_decls, decl_name, formal_names, declared_names}
use Rattle.language.specs.Copy.{Replacement, renamed, rename_block, without}
use Rattle.language.specs.Machine.{Activation, State, zeros, own_names, activation, enter}
use Rattle.laws.specs.Tests.{none≢some, some_inj}
use Rattle.laws.specs.Lists.{get_elem-in, get_elem-bound, get_elem-append, map-alike, map-map, constant}
use Rattle.laws.specs.Each.{each_append, each_map}
use Rattle.laws.specs.Lookup.{each-zip, AllNew, lookup-here, lookup-there, lookup-right, length-up_from}
use Rattle.laws.specs.Renaming.{Big, declared_names-renamed}
use Rattle.laws.specs.Instances.{instance-found, instance-append}
use Rattle.laws.specs.Rising.{Rising, rising-name, rising-more}
use Rattle.grammar.specs.Formed.{block-once}
use Rattle.frames.specs.Frame.{Frame, Stack, numbered, new_frame, zero_words, with_frames}
use Rattle.frames.specs.Renaming.{entered-text, own-kept, declared-new}
use Rattle.frames.specs.Both.{both-map, both-snoc}
use Rattle.frames.specs.Related.{reads_in, reads_at, joined, designator_at, or_zero, value_in, word_in, LiveBelow, AllLive, own_of, Twin, Related, twin-at}
use Rattle.frames.specs.Fine.{Fine}
use Rattle.frames.proofs.Cuts.{SameBelow, twin-same, all-live-same, designators-same}

-- What names read as are new names, everywhere.

live-new : (l : List Activation) (fresh k x : ℕ) → Rising 65536 l fresh → LiveBelow l k x → 65536 ≤ x
live-new l fresh k x r v =
    let d = instance-found x 1 l v.instance v.found in
    let h = rising-name 65536 l fresh d.depth d.index v.instance.home v.instance.decl r d.home_at d.decl-at in
    let n = d.name-is in
    omega (arith, h.0)

all-live-new : (l : List Activation) (fresh k : ℕ) (xs : List ℕ) → Rising 65536 l fresh → AllLive l k xs → AllNew xs
all-live-new l fresh k xs r v = each_map (LiveBelow l k) (λ x. 65536 ≤ x) xs (λ x w. live-new l fresh k x r w) v

declared-all-new : (l : List Activation) (fresh k : ℕ) (a : Activation) → Rising 65536 l fresh → get_elem? l k ≡ some a → AllNew (declared_names a.text)
unfolding declared_names
declared-all-new l fresh k a r e = go (block_decls a.text) (λ j d g. (rising-name 65536 l fresh k j a d r e g).0)
  where
    go : (ds : List Decl) → ((j : ℕ) (d : Decl) → get_elem? ds j ≡ some d → 65536 ≤ decl_name d) → AllNew (map decl_name ds)
    go [] h = tt
    go (d ∷ ds) h = (h 0 d refl, go ds (λ j c g. h (suc j) c g))

abbrev ReadsNew : State → ℕ → Type 0
ReadsNew s m = (k : ℕ) → k < m → (a : Activation) → get_elem? s.live k ≡ some a → Big (joined a.reads)

reads-new-step : (s : State) (t : Stack) → Related s t → (m : ℕ) → ReadsNew s m → ReadsNew s (suc m)
unfolding joined own_of reads_at reads_in numbered
reads-new-step s t r m ih k h a e =
    subst (λ (σs : List Replacement). Big (joined σs)) (sym w.reads-are) (each_append (λ p. 65536 ≤ p.1) (own_of f a) (joined (reads_at s.live f.link)) own (around f.link w.link-below))
  where
    pair : (f : Frame) × (get_elem? t.frames k ≡ some f) × Twin s.live s.values k a f
    pair = twin-at s t r k a e

    f : Frame
    f = pair.0

    w : Twin s.live s.values k a f
    w = pair.2

    own : Big (own_of f a)
    own =
        each_append (λ p. 65536 ≤ p.1) (zip (formal_names f.formals) a.arguments) (zip (declared_names f.text) (declared_names a.text))
        (each-zip (λ x. 65536 ≤ x) (formal_names f.formals) a.arguments (all-live-new s.live s.fresh k a.arguments r.rising w.live-arguments))
        (each-zip (λ x. 65536 ≤ x) (declared_names f.text) (declared_names a.text) (declared-all-new s.live s.fresh k a r.rising e))

    around : (i : ℕ) → i ≤ k → Big (joined (reads_at s.live i))
    around zero b = tt
    around (suc i) b =
        let z = get_elem-bound s.live k a e in
        let c = get_elem-in s.live i (omega arith) in
        subst (λ (o : Option Activation). Big (joined (reads_in o))) (sym c.1) (ih i (omega arith) c.0 c.1)

reads-new : (s : State) (t : Stack) → Related s t → (m : ℕ) → ReadsNew s m
reads-new s t r zero = λ k h a e. absurd (not-suc-le-zero h)
reads-new s t r (suc m) = reads-new-step s t r m (reads-new s t r m)

pub reads-big : (s : State) (t : Stack) → Related s t → (k : ℕ) → k ≤ length s.live → Big (joined (reads_at s.live k))
unfolding joined reads_at reads_in numbered
reads-big s t r zero h = tt
reads-big s t r (suc k) h =
    let c = get_elem-in s.live k h in
    subst (λ (o : Option Activation). Big (joined (reads_in o))) (sym c.1) (reads-new s t r (suc k) k (omega arith) c.0 c.1)

-- What does not depend on the new activation stays.

same-push : (l : List Activation) (a : Activation) (k : ℕ) → k ≤ length l → SameBelow l (l ++ (a ∷ [])) k
unfolding reads_at numbered
same-push l a k h = record { same_reads = λ j b. reads j (omega arith); same-instances = λ x i e b. (i, instance-append x 1 l (a ∷ []) i e, refl, refl) }
  where
    reads : (j : ℕ) → j ≤ length l → reads_at (l ++ (a ∷ [])) j ≡ reads_at l j
    reads zero b = refl
    reads (suc j) b = ap reads_in (get_elem-append l (a ∷ []) j b)

-- The new activation's variables are 0, and the others keep their values.

zeros-below : (n base : ℕ) (ds : List Decl) → map decl_name ds ≡ up_from base (length ds) → n < base → lookup n (zeros ds) ≡ none
unfolding zeros lookup up_from decl_name
zeros-below n base [] e h = refl
zeros-below n base (VR at m ∷ ds) e h =
    let q : m ≡ base = head-eq_of_cons-eq e in
    lookup-there n (m, pos 0) (zeros ds) (ne_eqb n m (λ p. omega arith)) ∙ zeros-below n (suc base) ds (tail-eq_of_cons-eq e) (omega arith)
zeros-below n base (LB at m i ∷ ds) e h = zeros-below n (suc base) ds (tail-eq_of_cons-eq e) (omega arith)
zeros-below n base (PR at m fs b ∷ ds) e h = zeros-below n (suc base) ds (tail-eq_of_cons-eq e) (omega arith)

word_kept : (vs : List (ℕ × ℤ)) (base : ℕ) (ds : List Decl) → map decl_name ds ≡ up_from base (length ds) → (d : Decl) → decl_name d < base → word_in (zeros ds ++ vs) d ≡ word_in vs d
unfolding word_in value_in decl_name
word_kept vs base ds e (VR at n) h = ap or_zero (lookup-right n (zeros ds) vs (zeros-below n base ds e h))
word_kept vs base ds e (LB at n i) h = refl
word_kept vs base ds e (PR at n fs b) h = refl

zero-value : (vs : List (ℕ × ℤ)) (n at : ℕ) (ds : List Decl) (j : ℕ) → get_elem? ds j ≡ some (VR at n) → value_in (zeros ds ++ vs) n ≡ pos 0
unfolding value_in zeros or_zero decl_name
zero-value vs n at [] j e = none≢some e
zero-value vs n at (VR o m ∷ ds) zero e =
    let q : m ≡ n = ap decl_name (some_inj e) in
    ap or_zero (lookup-here n (m, pos 0) (zeros ds ++ vs) (eq-eqb n m (sym q)))
zero-value vs n at (VR o m ∷ ds) (suc j) e = go (eqb n m) refl (zero-value vs n at ds j e)
  where
    go : (b : Bool) → eqb n m ≡ b → value_in (zeros ds ++ vs) n ≡ pos 0 → or_zero (lookup n ((m, pos 0) ∷ (zeros ds ++ vs))) ≡ pos 0
    go true q ih = ap or_zero (lookup-here n (m, pos 0) (zeros ds ++ vs) q)
    go false q ih = ap or_zero (lookup-there n (m, pos 0) (zeros ds ++ vs) q) ∙ ih
zero-value vs n at (LB o m i ∷ ds) zero e = absurd (let z : ◌≡◌ {A = ℕ} 0 1 = cc in omega arith)
zero-value vs n at (LB o m i ∷ ds) (suc j) e = zero-value vs n at ds j e
zero-value vs n at (PR o m fs b ∷ ds) zero e = absurd (let z : ◌≡◌ {A = ℕ} 0 1 = cc in omega arith)
zero-value vs n at (PR o m fs b ∷ ds) (suc j) e = zero-value vs n at ds j e

zero-words : (vs : List (ℕ × ℤ)) (ds : List Decl) → map (word_in (zeros ds ++ vs)) ds ≡ map (λ (d : Decl). pos 0) ds
unfolding word_in
zero-words vs ds = map-alike (word_in (zeros ds ++ vs)) (λ (d : Decl). pos 0) ds (λ j d e. word j d e)
  where
    word : (j : ℕ) (d : Decl) → get_elem? ds j ≡ some d → word_in (zeros ds ++ vs) d ≡ pos 0
    word j (VR at n) e = zero-value vs n at ds j e
    word j (LB at n i) e = refl
    word j (PR at n fs b) e = refl

-- Entering block b, with formals fs and arguments xs, from where the activation of number m encloses its text.
module _ (s : State) (t : Stack) (r : Related s t) (fs : List Formal) (b : Block) (fine : Fine fs b) (xs : List ℕ) (many : length xs ≡ length fs) (live : AllLive s.live (length s.live) xs) (m : ℕ) (deep : m ≤ length s.live) where
  abbrev l : List Activation
  l = s.live

  abbrev names : List ℕ
  names = formal_names fs

  abbrev σ : Replacement
  σ = joined (reads_at l m)

  -- the text as it stands in the enclosing activation's copy
  abbrev copied : Block
  copied = rename_block b (without (names ++ declared_names b) σ)

  abbrev a : Activation
  a = activation names xs s.fresh copied m (reads_at l m)

  abbrev f : Frame
  f = new_frame fs (map (designator_at l) xs) b m

  abbrev vs : List (ℕ × ℤ)
  vs = zeros (block_decls a.text) ++ s.values

  abbrev own : Replacement
  own = own_names names xs s.fresh b

  many-names : length names ≡ length xs
  unfolding formal_names
  many-names = length-map fs (λ (x : Formal). x.name) ∙ sym many

  text-is : a.text ≡ rename_block b (own ++ σ)
  text-is = entered-text names xs s.fresh b σ m (reads_at l m) fine.level fs fine.here fine.formed fine.small-formals many-names (reads-big s t r m deep)

  reads-are : a.reads ≡ own ∷ reads_at l m
  unfolding activation
  reads-are = ap (◌∷ reads_at l m) (own-kept names xs s.fresh b σ)

  names-new : declared_names a.text ≡ up_from s.fresh (length (declared_names b))
  names-new = ap declared_names text-is ∙ declared-new names xs s.fresh b σ many-names (block-once fine.level fs fine.here b fine.formed)

  as-many-decls : length (block_decls a.text) ≡ length (declared_names b)
  unfolding declared_names
  as-many-decls = sym (length-map (block_decls a.text) decl_name) ∙ (ap length names-new ∙ length-up_from s.fresh (length (declared_names b)))

  names-rise : declared_names a.text ≡ up_from s.fresh (length (block_decls a.text))
  names-rise = names-new ∙ ap (up_from s.fresh) (sym as-many-decls)

  same : (k : ℕ) → k ≤ length l → SameBelow l (l ++ (a ∷ [])) k
  same k h = same-push l a k h

  -- the activations below keep their words
  below : (k : ℕ) (c : Activation) (g : Frame) → k < length l → get_elem? l k ≡ some c → Twin l s.values (0 + k) c g → Twin (l ++ (a ∷ [])) vs (0 + k) c g
  unfolding declared_names
  below k c g h e w =
      twin-same (same (0 + k) (omega arith)) s.values vs c g
      (map-alike (word_in vs) (word_in s.values) (block_decls c.text) (λ j d q. word_kept s.values s.fresh (block_decls a.text) names-rise d (rising-name 65536 l s.fresh k j c d r.rising e q).1))
      w

  as-many-blocks : length (block_decls b) ≡ length (block_decls a.text)
  unfolding declared_names
  as-many-blocks = sym (as-many-decls ∙ length-map (block_decls b) decl_name)

  words_are : f.words ≡ map (λ (x : ℕ). pos (designator_at (l ++ (a ∷ [])) x)) a.arguments ++ map (word_in vs) (block_decls a.text)
  unfolding activation new_frame zero_words
  words_are =
      ap₂ ◌++◌ (map-map pos (designator_at l) xs ∙ sym (designators-same (same (length l) (omega arith)) xs live))
      (constant (pos 0) (block_decls b) (block_decls a.text) as-many-blocks ∙ sym (zero-words s.values (block_decls a.text)))

  own-are : own_of f a ≡ own
  unfolding own_of new_frame activation own_names
  own-are = ap (λ (ns : List ℕ). zip names xs ++ zip (declared_names b) ns) names-new

  twin : Twin (l ++ (a ∷ [])) vs (length l) a f
  unfolding activation new_frame joined
  twin =
      record { fine = fine; as_many = many; reads-are = reads-are ∙ ap₂ ◌∷◌ (sym own-are) (sym ((same (length l) (omega arith)).same_reads m deep)); text-is = text-is ∙ ap (λ (σs : List Replacement). rename_block b (joined σs)) (sym reads-are); next-is = refl; encloser-is = refl; link-below = deep; live-arguments = all-live-same (same (length l) (omega arith)) xs live; words_are = words_are }

  fresh-is : s.fresh + length (block_decls a.text) ≡ s.fresh + length (declared_names copied)
  fresh-is =
      let τ = without (names ++ declared_names b) σ in
      ap (s.fresh +◌) (as-many-decls ∙ sym (ap length (declared_names-renamed b τ) ∙ length-map (declared_names b) (renamed τ)))

  pub related-push : Related (enter s names xs copied m (reads_at l m)) (with_frames t (t.frames ++ (f ∷ [])))
  unfolding enter with_frames
  related-push =
      record { twins = both-snoc (Twin (l ++ (a ∷ [])) vs) 0 l t.frames a f (both-map (Twin l s.values) (Twin (l ++ (a ∷ [])) vs) 0 l t.frames (λ k c g h e e' w. below k c g h e w) r.twins) (rw zero-add twin); rising = subst (Rising 65536 (l ++ (a ∷ []))) fresh-is (rising-more 65536 l s.fresh a r.rising names-rise); table_is = r.table_is; steps-are = r.steps-are }
