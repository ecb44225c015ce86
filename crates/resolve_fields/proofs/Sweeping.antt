-- Passing over a script's records one after the other, and writing words laid out as its fields are: the words written so far and the records still to
-- come.
-- Assumes nothing.
use mathlib.Core.Path.{◌≡◌, refl, sym, ◌∙◌, ap, subst}
use mathlib.Core.List.{List, [], ◌∷◌, ◌++◌, append-nil, append_assoc}
use Prim.Native.Nat.{ℕ, ◌+◌, ◌*◌, ◌-◌, ◌/◌, ◌<◌, ◌≤◌}
use native.Mathlib.Omega.{arith}
use lib.ListN.{length, replicate, length-append}
use Rattle.language.specs.Text.{Formal, Block, block, VR, LB, PR, BK, DO, block_decls, block_stmts}
use Rattle.language.specs.Encoding.{block_fields, encode}
use Rattle.language.specs.Check.{accepted, check}
use Rattle.laws.specs.Fields.{FieldsStand, field-inside, fields-first, fields-after}
use Rattle.grammar.specs.Rules.{Bytes, Keeps}
use Rattle.grammar.specs.Words.{length-bytes}
use Rattle.grammar.proofs.Accepting.{accepted-keeps}
use Rattle.grammar.proofs.Standing.{program-stands}
use Rattle.coordinates.specs.Enclosure.{Enclosure}
use Rattle.resolved.specs.Resolved.{resolved_of, Covers}
use Rattle.resolved.proofs.Lengths.{covers-first, covers-second, covers-front}
use Rattle.resolved.proofs.Places.{block-at}
use Rattle.check_extents.specs.Items.{Item, formal, body, declared, stated, block_head, head_fields}
use Rattle.check_extents.specs.Passing.{Passed}
use Rattle.check_extents.specs.declared.passing.Step.{Step}
use Rattle.check_extents.proofs.Inside.{head-size, head-marked}
use Rattle.resolve_fields.specs.Layout.{Layout, formals-size, block_size, decl-size, stmt-size}
use Rattle.resolve_fields.specs.Layouts.{fields_layout, resolved_layout}
use Rattle.resolve_fields.specs.Parts.{Part, placed, item_words, parts_words, own_words, inside, parts-open}
use Rattle.resolve_fields.specs.Noting.{Noted}

-- A record's own words

block-own : (b : Block) → length (block_head b) ≡ 3
unfolding block_head
block-own (block at ds ss) = refl

own-size : (l : Layout) (x : Item) (fs : List Formal) (es : Enclosure) → length (own_words l x fs es) ≡ length (head_fields x)
unfolding own_words head_fields block_fields
own-size l (formal f) fs es = formals-size l (f ∷ [])
own-size l (body b) fs es = l.head-size _ es ∙ sym (block-own b)
own-size l (declared (VR at n)) fs es = decl-size l (VR at n) es
own-size l (declared (LB at n i)) fs es = decl-size l (LB at n i) es
own-size l (declared (PR at n gs b)) fs es = l.heading-size n gs es
own-size l (stated (BK b)) fs es = l.head-size _ es ∙ sym (block-own b)
own-size l (stated (DO at a)) fs es = stmt-size l (DO at a) es

block-fields-own : (b : Block) (fs : List Formal) (es : Enclosure) → own_words fields_layout (body b) fs es ≡ block_head b
unfolding own_words fields_layout block_head block_decls block_stmts
block-fields-own (block at ds ss) fs es = refl

fields-own : (x : Item) (fs : List Formal) (es : Enclosure) → own_words fields_layout x fs es ≡ head_fields x
unfolding own_words fields_layout head_fields block_fields
fields-own (formal f) fs es = refl
fields-own (body b) fs es = block-fields-own b fs es
fields-own (declared (VR at n)) fs es = refl
fields-own (declared (LB at n i)) fs es = refl
fields-own (declared (PR at n gs b)) fs es = refl
fields-own (stated (BK b)) fs es = block-fields-own b [] es
fields-own (stated (DO at a)) fs es = refl

-- `done` is written, and zeros stand after it; the words of the records that are left make up the whole with it
pub record Swept (l : Layout) (Ahead : ℕ → List Part → Type 0) (bs code words : List ℕ) (here : ℕ) (t : Block) (name : ℕ) : Type 0 where
  pub done : List ℕ
  pub left : List Part
  pub room : ℕ
  pub far : 2 * length done ≡ here
  pub stand : FieldsStand bs here (parts_words fields_layout left)
  pub resolved : Covers code (here / 2) (parts_words (resolved_layout name) left)
  pub written : words ≡ done ++ replicate room 0
  pub fits : length (parts_words l left) ≤ room
  pub whole : l.of_block t [] [] ≡ done ++ parts_words l left
  pub size : length bs ≡ 2 * length (l.of_block t [] [])
  pub ahead : Ahead here left

-- The start

module _ (bs : List ℕ) (bytes : Bytes bs) (t : Block) (e : check bs ≡ accepted t) where
  keeps : (bs ≡ encode t) × Keeps t
  keeps = accepted-keeps bs bytes t e

  pub accepted-short : length bs ≤ 8192
  accepted-short = omega (arith, ap length keeps.0, keeps.1.size)

  bytes-many : length bs ≡ 2 * length (block_fields t)
  unfolding encode
  bytes-many = ap length keeps.0 ∙ length-bytes (block_fields t)

  fields-there : FieldsStand bs 0 (block_fields t)
  fields-there =
      subst (λ (o : ℕ). FieldsStand bs o (block_fields t)) (block-at t 1 [] 0 keeps.1.formed) (program-stands bs t keeps.1 keeps.0).stands.fields

  alone : (l : Layout) → parts_words l (placed [] [] (body t) ∷ []) ≡ l.of_block t [] []
  unfolding parts_words item_words
  alone l = append-nil (l.of_block t [] [])

  swept-first : (l : Layout) (Ahead : ℕ → List Part → Type 0) (code words : List ℕ) (name : ℕ) → words ≡ replicate 4096 0 → (Keeps t → Ahead 0 (placed [] [] (body t) ∷ []))
      → Covers code 0 (resolved_of name t) → Swept l Ahead bs code words 0 t name
  unfolding fields_layout resolved_layout resolved_of
  swept-first l Ahead code words name zeros known h =
      let many : length bs ≡ 2 * length (l.of_block t [] []) = omega (arith, bytes-many, block_size l t [] []) in
      record {
        done = [];
        left = placed [] [] (body t) ∷ [];
        room = 4096;
        far = refl;
        stand = subst (FieldsStand bs 0) (sym (alone fields_layout)) fields-there;
        resolved = subst (Covers code 0) (sym (alone (resolved_layout name))) h;
        written = zeros;
        fits = omega (arith, ap length (alone l), accepted-short);
        whole = sym (alone l);
        size = many;
        ahead = known keeps.1;
      }

-- One record

module _ (l : Layout) (Ahead Ahead' : ℕ → List Part → Type 0) (bs code words words' : List ℕ) (here : ℕ) (t : Block) (name : ℕ) (far-in : here < length bs) (noted : Noted l Ahead Ahead' bs code here words words' name) (s : Step) (p : Passed bs here s) (w : Swept l Ahead bs code words here t name) where
  past : (left : List Part) → left ≡ w.left → Swept l Ahead' bs code words' s.next t name
  unfolding parts_words
  past [] e = absurd (omega (arith, w.far, w.size, ap length (w.whole ∙ ap (λ (qs : List Part). w.done ++ parts_words l qs) (sym e) ∙ append-nil w.done)))
  past (q ∷ qs) e =
      let x = q.item in
      let fs = q.formals in
      let es = q.around in
      let rest = inside x fs es ++ qs in
      let r = resolved_layout name in
      let opens : (k : Layout) → parts_words k w.left ≡ own_words k x fs es ++ parts_words k rest = λ k. ap (parts_words k) (sym e) ∙ parts-open k x fs es qs in
      let there : FieldsStand bs here (head_fields x ++ parts_words fields_layout rest) = subst (FieldsStand bs here) (opens fields_layout ∙ ap (λ (ws : List ℕ). ws ++ parts_words fields_layout rest) (fields-own x fs es)) w.stand in
      let resolved : Covers code (here / 2) (own_words r x fs es ++ parts_words r rest) = subst (Covers code (here / 2)) (opens r) w.resolved in
      let own = own_words l x fs es in
      let n = length (head_fields x) in
      let own-n = own-size l x fs es in
      let resolved-n = own-size r x fs es in
      let next : s.next ≡ here + 2 * n = p.next-is ∙ ap (λ (k : ℕ). here + k) (head-size bs here (parts_words fields_layout rest) x there) in
      let total = ap length (opens l) ∙ length-append own (parts_words l rest) in
      let more = length-append w.done own in
      let now = noted x fs es qs (subst (Ahead here) (sym e) w.ahead) (fields-first bs here (head_fields x) (parts_words fields_layout rest) there) (covers-first code (here / 2) (own_words r x fs es) (parts_words r rest) resolved) in
      let half : here / 2 + length (own_words r x fs es) ≡ s.next / 2 = omega (arith, w.far) in
      record {
        done = w.done ++ own;
        left = rest;
        room = w.room - length own;
        far = omega (arith, w.far);
        stand = subst (λ (o : ℕ). FieldsStand bs o (parts_words fields_layout rest)) (sym next) (fields-after bs here (head_fields x) (parts_words fields_layout rest) there);
        resolved = subst (λ (o : ℕ). Covers code o (parts_words r rest)) half (covers-second code (here / 2) (own_words r x fs es) (parts_words r rest) resolved);
        written = now.0.grown w.done w.room w.far w.written (omega (arith, w.fits)) ∙ sym (append_assoc w.done own (replicate (w.room - length own) 0));
        fits = omega (arith, w.fits);
        whole = w.whole ∙ ap (λ (ws : List ℕ). w.done ++ ws) (opens l) ∙ sym (append_assoc w.done own (parts_words l rest));
        size = w.size;
        ahead = subst (λ (o : ℕ). Ahead' o rest) (sym next) now.1;
      }

  swept-past : Swept l Ahead' bs code words' s.next t name
  swept-past = past w.left refl

-- The end

module _ (l : Layout) (Ahead : ℕ → List Part → Type 0) (bs code words : List ℕ) (here : ℕ) (t : Block) (name : ℕ) (out : length bs ≤ here) (w : Swept l Ahead bs code words here t name) where
  none_left : (left : List Part) → left ≡ w.left → Covers words 0 (l.of_block t [] [])
  unfolding parts_words
  none_left [] e =
      let whole = l.of_block t [] [] in
      let all : whole ≡ w.done = w.whole ∙ ap (λ (ps : List Part). w.done ++ parts_words l ps) (sym e) ∙ append-nil w.done in
      subst (λ (ws : List ℕ). Covers ws 0 whole) (ap (λ (ws : List ℕ). ws ++ replicate w.room 0) all ∙ sym w.written) (covers-front whole (replicate w.room 0))
  none_left (q ∷ qs) e =
      let x = q.item in
      let fs = q.formals in
      let es = q.around in
      let rest = parts_words fields_layout (inside x fs es ++ qs) in
      let there : FieldsStand bs here (head_fields x ++ rest) = subst (FieldsStand bs here) (ap (parts_words fields_layout) (sym e) ∙ parts-open fields_layout x fs es qs ∙ ap (λ (ws : List ℕ). ws ++ rest) (fields-own x fs es)) w.stand in
      absurd (field-inside bs here (head-marked bs here rest x there) out)

  swept-whole : Covers words 0 (l.of_block t [] [])
  swept-whole = none_left w.left refl

-- A pass over any script: where the script is accepted and its resolved script stands

abbrev pub Sweeps : (ℕ → Layout) → (ℕ → List Part → Type 0) → List ℕ → List ℕ → List ℕ → ℕ → Type 0
Sweeps l Ahead bs code words here = (t : Block) (name : ℕ) → check bs ≡ accepted t → Covers code 0 (resolved_of name t) → Swept (l name) Ahead bs code words here t name

module _ (l : ℕ → Layout) (bs code : List ℕ) where
  pub swept-start : (Ahead : ℕ → List Part → Type 0) (words : List ℕ) → Bytes bs → words ≡ replicate 4096 0 → ((t : Block) → Keeps t → Ahead 0 (placed [] [] (body t) ∷ [])) → Sweeps l Ahead bs code words 0
  swept-start Ahead words bytes zeros known t name e h = swept-first bs bytes t e (l name) Ahead code words name zeros (known t) h

  pub swept_step : (Ahead Ahead' : ℕ → List Part → Type 0) (words words' : List ℕ) (here : ℕ) → here < length bs
      → ((name : ℕ) → Noted (l name) Ahead Ahead' bs code here words words' name) → (s : Step) → Passed bs here s → Sweeps l Ahead bs code words here
      → Sweeps l Ahead' bs code words' s.next
  swept_step Ahead Ahead' words words' here low noted s p w t name e h = swept-past (l name) Ahead Ahead' bs code words words' here t name low (noted name) s p (w t name e h)

  pub swept-end : (Ahead : ℕ → List Part → Type 0) (words : List ℕ) (here : ℕ) → length bs ≤ here → Sweeps l Ahead bs code words here
      → (t : Block) (name : ℕ) → check bs ≡ accepted t → Covers code 0 (resolved_of name t) → Covers words 0 ((l name).of_block t [] [])
  swept-end Ahead words here out w t name e h = swept-whole (l name) Ahead bs code words here t name out (w t name e h)
