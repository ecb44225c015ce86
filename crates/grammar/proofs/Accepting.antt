-- The two halves of the theorem: what is accepted is the encoding of a tree that keeps the rules, and such an encoding is accepted.
use Rattle.std.specs.Prelude.{ℕ, ◌*◌, ◌%◌, ◌≤◌, Bool, true, false, ◌&&◌, List, [], ◌∷◌, ◌≡◌, refl, eqb, leb, length}
use Rattle.std.proofs.Math.Bool.{and-eq-true_iff}
use Rattle.std.proofs.Common.{append-nil, sym, subst, ap, ◌∙◌, arith, leb-true, le-leb, eqb-true, eq-eqb}
use Rattle.language.specs.Text.{Block, block}
use Rattle.language.specs.Encoding.{block_fields, bytes_of, fields_of, encode}
use Rattle.language.specs.Structure.{Reading, read, refuse, program}
use Rattle.language.specs.Scope.{Judgement, fine, wrong, judge_block}
use Rattle.language.specs.Check.{accepted, refused, length_fits, judged, ended, check}
use Rattle.language.specs.declared.Refusal.{Refusal}
use Rattle.grammar.specs.Rules.{Bytes, Keeps}
use Rattle.grammar.specs.Scoped.{block-scoped}
use Rattle.grammar.specs.Readers.{Yields}
use Rattle.grammar.specs.Words.{fields-of-bytes, bytes-of-fields, fields-are-names, length-bytes}
use Rattle.grammar.proofs.Reading.{GotBlock, read-program}
use Rattle.grammar.proofs.Writing.{write-program}

not-accepted : {A : Type 0} (t : Block) (c : Refusal) (o : ℕ) → refused c o ≡ accepted t → A
not-accepted t c o e = let z : ◌≡◌ {A = ℕ} 0 1 = cc in absurd (omega arith)

-- the three tests of an accepted text, one after the other
long-enough : (bs : List ℕ) (t : Block) (b : Bool) → length_fits bs ≡ b → check bs ≡ accepted t → (b ≡ true) × (ended (program 0 (fields_of bs)) ≡ accepted t)
unfolding check
long-enough bs t true q e = (refl, rw (q, check) at e)
long-enough bs t false q e = not-accepted t _ 0 (rw (q, check) at e)

well-judged : (t u : Block) (v : Judgement) → judged u v ≡ accepted t → (v ≡ fine) × (u ≡ t)
unfolding judged
well-judged t u fine e = (refl, cc)
well-judged t u (wrong c o) e = not-accepted t c o e

well-ended : (Q : Block → ℕ → List ℕ → Type 0) (t : Block) (r : Reading Block) → ended r ≡ accepted t → Yields Q r → (o : ℕ) × Q t o [] × (judge_block t [] [] ≡ fine)
unfolding ended
well-ended Q t (read u o []) e y =
    let k = well-judged t u (judge_block u [] []) e in
    (o, subst (λ (x : Block). Q x o []) k.1 y, subst (λ (x : Block). judge_block x [] [] ≡ fine) k.1 k.0)
well-ended Q t (read u o (w ∷ ws)) e y = not-accepted t _ o e
well-ended Q t (refuse c o) e y = not-accepted t c o e

-- What holds of whatever the program's reader reads holds of the tree.
pub accepted-read : (Q : Block → ℕ → List ℕ → Type 0) (bs : List ℕ) (t : Block) → check bs ≡ accepted t → Yields Q (program 0 (fields_of bs)) → (o : ℕ) × Q t o [] × (judge_block t [] [] ≡ fine)
accepted-read Q bs t e y = well-ended Q t (program 0 (fields_of bs)) (long-enough bs t (length_fits bs) refl e).1 y

pub accepted-keeps : (bs : List ℕ) → Bytes bs → (t : Block) → check bs ≡ accepted t → (bs ≡ encode t) × Keeps t
unfolding encode length_fits
accepted-keeps bs h t e =
    let k = accepted-read (GotBlock 1 [] 0 (fields_of bs)) bs t e (read-program (fields_of bs) (fields-are-names bs h)) in
    let f = (and-eq-true_iff (leb 1 (length bs) && leb (length bs) 8192) (eqb (length bs % 2) 0)).0 (long-enough bs t (length_fits bs) refl e).0 in
    let g = (and-eq-true_iff (leb 1 (length bs)) (leb (length bs) 8192)).0 f.0 in
    let even : length bs % 2 ≡ 0 = eqb-true (length bs % 2) 0 f.1 in
    let same : bs ≡ encode t = sym (bytes-of-fields bs h even) ∙ ap bytes_of (k.1.step.text ∙ append-nil (block_fields t)) in (
      same,
      record {
        size = subst (λ (l : List ℕ). length l ≤ 8192) same (leb-true (length bs) 8192 g.1);
        formed = k.1.formed;
        scoped = (block-scoped t [] []).0 k.2;
      },
    )

has-fields : (t : Block) → 1 ≤ length (block_fields t)
unfolding block_fields
has-fields (block at ds ss) = omega arith

encoding-fits : (bs : List ℕ) (n : ℕ) → length bs ≡ 2 * n → 1 ≤ n → length bs ≤ 8192 → length_fits bs ≡ true
unfolding length_fits
encoding-fits bs n e p h =
    rw (le-leb 1 (length bs) (omega arith), le-leb (length bs) 8192 h, eq-eqb (length bs % 2) 0 (omega arith))

fields-of-encoding : (t : Block) → fields_of (encode t) ≡ block_fields t
unfolding encode
fields-of-encoding t = fields-of-bytes (block_fields t)

length-of-encoding : (t : Block) → length (encode t) ≡ 2 * length (block_fields t)
unfolding encode
length-of-encoding t = length-bytes (block_fields t)

pub keeps-accepted : (t : Block) → Keeps t → check (encode t) ≡ accepted t
unfolding check ended judged
keeps-accepted t k =
    rw (encoding-fits (encode t) (length (block_fields t)) (length-of-encoding t) (has-fields t) k.size, check)
    (rw (fields-of-encoding t, write-program t k.formed, (block-scoped t [] []).1 k.scoped))
