-- Storing a value keeps the relation: the word of the variable's frame is the only one that changes.
use Rattle.std.specs.Prelude.{ℕ, pred, ◌+◌, ◌≡◌, refl, ℤ, length}
use Rattle.std.proofs.Common.{arith, sym, ap, ap₂, ◌∙◌, eq-eqb, ne_eqb}
use Rattle.std.proofs.Math.Path.{subst}
use mathlib.Core.List.{List, ◌∷◌, ◌++◌, map}
use Rattle.std.proofs.Math.Option.{some}
use Rattle.std.proofs.Math.IntN.{pos}
use Rattle.std.proofs.Math.ListN.{set, get_elem?}
use Rattle.std.proofs.lemmas.List.{length-map}
use Rattle.language.specs.Text.{variable, Decl, VR, LB, PR, block_decls, decl_name, decl_kind}
use Rattle.language.specs.Machine.{Activation, State, Instance, instance_from, store}
use Rattle.laws.specs.Tests.{some_inj}
use Rattle.laws.specs.Lists.{map-alike, map-but-one, set-append-add}
use Rattle.laws.specs.Lookup.{lookup-here, lookup-there}
use Rattle.laws.specs.Rising.{same-declaration}
use Rattle.frames.specs.Frame.{Frame, Stack, numbered, place, put_word, put, rewritten, with_frames}
use Rattle.frames.specs.Both.{both-set}
use Rattle.frames.specs.Related.{designator_at, or_zero, value_in, word_in, own_of, Twin, Related}
use Rattle.frames.proofs.Designated.{InstanceFrame, designated}

-- a declaration's word after a store
word-other : (vs : List (ℕ × ℤ)) (x : ℕ) (z : ℤ) (d : Decl) → (decl_name d ≡ x → ⊥) → word_in ((x, z) ∷ vs) d ≡ word_in vs d
unfolding word_in value_in decl_name
word-other vs x z (VR at n) h = ap or_zero (lookup-there n (x, z) vs (ne_eqb n x h))
word-other vs x z (LB at n i) h = refl
word-other vs x z (PR at n fs b) h = refl

word-this : (vs : List (ℕ × ℤ)) (x : ℕ) (z : ℤ) (d : Decl) → decl_name d ≡ x → decl_kind d ≡ variable → word_in ((x, z) ∷ vs) d ≡ z
unfolding word_in value_in decl_name decl_kind or_zero
word-this vs x z (VR at n) h k = ap or_zero (lookup-here n (x, z) vs (eq-eqb n x h))
word-this vs x z (LB at n i) h k = absurd (let z : ◌≡◌ {A = ℕ} 0 1 = cc in omega arith)
word-this vs x z (PR at n fs b) h k = absurd (let z : ◌≡◌ {A = ℕ} 0 1 = cc in omega arith)

module _ (s : State) (t : Stack) (r : Related s t) (x : ℕ) (z : ℤ) (i : Instance) (e : instance_from x 1 s.live ≡ some i) (kind : decl_kind i.decl ≡ variable) where
  d : InstanceFrame s t x i
  d = designated s t r x i e

  -- the activations other than the variable's keep their words
  others : (k : ℕ) (a : Activation) (f : Frame) → (k ≡ d.depth → ⊥) → get_elem? s.live k ≡ some a → Twin s.live s.values (0 + k) a f → Twin s.live ((x, z) ∷ s.values) (0 + k) a f
  others k a f apart q w =
      let same = map-alike (word_in ((x, z) ∷ s.values)) (word_in s.values) (block_decls a.text) (λ j c g. word-other s.values x z c (λ n. apart (same-declaration 65536 s.live s.fresh k j d.depth d.index a i.home c i.decl r.rising q g d.home_at d.decl-at (n ∙ sym d.name-is)).0)) in
      record { fine = w.fine; as_many = w.as_many; reads-are = w.reads-are; text-is = w.text-is; next-is = w.next-is; encloser-is = w.encloser-is; link-below = w.link-below; live-arguments = w.live-arguments; words_are = w.words_are ∙ ap (map (λ (y : ℕ). pos (designator_at s.live y)) a.arguments ++◌) (sym same) }

  this-words : map (word_in ((x, z) ∷ s.values)) (block_decls i.home.text) ≡ set (map (word_in s.values) (block_decls i.home.text)) d.index z
  this-words =
      map-but-one (word_in ((x, z) ∷ s.values)) (word_in s.values) (block_decls i.home.text) d.index z
      (λ c g. let q : i.decl ≡ c = some_inj (sym d.decl-at ∙ g) in word-this s.values x z c (sym (ap decl_name q) ∙ d.name-is) (sym (ap decl_kind q) ∙ kind))
      (λ j c apart g. word-other s.values x z c (λ n. apart (same-declaration 65536 s.live s.fresh d.depth j d.depth d.index i.home i.home c i.decl r.rising d.home_at g d.home_at d.decl-at (n ∙ sym d.name-is)).1))

  new-words : set d.frame.words (place (designator_at s.live x)) z ≡ map (λ (y : ℕ). pos (designator_at s.live y)) i.home.arguments ++ map (word_in ((x, z) ∷ s.values)) (block_decls i.home.text)
  new-words =
      let g : ℕ → ℤ = λ (y : ℕ). pos (designator_at s.live y) in
      let many = d.twin.as_many in
      let lg = length-map i.home.arguments g in
      let p : place (designator_at s.live x) ≡ length (map g i.home.arguments) + d.index = let q = d.by_place in omega arith in
      ap₂ (λ (ws : List ℤ) (q : ℕ). set ws q z) d.twin.words_are p ∙
      (set-append-add (map g i.home.arguments) (map (word_in s.values) (block_decls i.home.text)) d.index z ∙ ap (map g i.home.arguments ++◌) (sym this-words))

  this : (a : Activation) → get_elem? s.live d.depth ≡ some a → Twin s.live s.values (0 + d.depth) a d.frame → Twin s.live ((x, z) ∷ s.values) (0 + d.depth) a (rewritten d.frame (set d.frame.words (place (designator_at s.live x)) z))
  unfolding rewritten own_of
  this a q w =
      let p : i.home ≡ a = some_inj (sym d.home_at ∙ q) in
      record { fine = w.fine; as_many = w.as_many; reads-are = w.reads-are; text-is = w.text-is; next-is = w.next-is; encloser-is = w.encloser-is; link-below = w.link-below; live-arguments = w.live-arguments; words_are = subst (λ (b : Activation). set d.frame.words (place (designator_at s.live x)) z ≡ map (λ (y : ℕ). pos (designator_at s.live y)) b.arguments ++ map (word_in ((x, z) ∷ s.values)) (block_decls b.text)) p new-words }

  put_is : put_word t.frames (designator_at s.live x) z ≡ set t.frames d.depth (rewritten d.frame (set d.frame.words (place (designator_at s.live x)) z))
  unfolding put_word numbered
  put_is = rw (d.by_number, d.frame_at, put_word) (ap (λ (q : ℕ). set t.frames (pred q) (rewritten d.frame (set d.frame.words (place (designator_at s.live x)) z))) d.by_number)

  pub related-store : Related (store s x z) (put t (designator_at s.live x) z)
  unfolding store put with_frames
  related-store =
      record { twins = rw put_is (both-set (Twin s.live s.values) (Twin s.live ((x, z) ∷ s.values)) 0 d.depth s.live t.frames d.frame (rewritten d.frame (set d.frame.words (place (designator_at s.live x)) z)) d.frame_at others this r.twins); rising = r.rising; table_is = r.table_is; steps-are = r.steps-are }
