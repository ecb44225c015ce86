-- The script check refuses each of 1 to 11 on its cause and on no other, with the offset of the record at fault: `refuses-exactly`. `Fault` is in
-- Faults.antt; `check` is the paper's definition, in the crate `language`.
use Rattle.std.specs.Prelude.{ℕ, ◌+◌, ◌*◌, ◌%◌, ◌≤◌, Bool, true, false, ◌&&◌, ◌↔◌, ◌≡◌, eqb, leb}
use Rattle.std.proofs.Common.{arith, inl, inr, ◌∙◌, subst, leb-true, leb-false, le-leb, eqb-true, eq-eqb}
use Rattle.std.proofs.Math.Bool.{and-eq-true_iff}
use mathlib.Core.List.{List, [], ◌∷◌, ◌++◌, append-nil}
use Rattle.std.proofs.Math.Path.{refl, sym, ap}
use Rattle.std.proofs.lemmas.Bool.{eqb-false}
use Rattle.std.proofs.Math.ListN.{length}
use Rattle.language.specs.Text.{Block, block_decls, block_stmts, formal_names}
use Rattle.language.specs.Encoding.{BK-mark, block_fields, fields_of}
use Rattle.language.specs.Structure.{Reading, read, refuse, give, block_marks, fit, program}
use Rattle.language.specs.Scope.{Judgement, fine, wrong, judge_block}
use Rattle.language.specs.Check.{Checked, accepted, refused, length_fits, judged, ended, check}
use Rattle.language.specs.declared.Refusal.{Refusal}
use Rattle.language.specs.declared.Refusal.TheVariants.{ScriptLength, BytesAfter}
use Rattle.laws.specs.Tests.{split, never}
use Rattle.grammar.specs.Rules.{Bytes, FormedBlock}
use Rattle.grammar.specs.Readers.{Yields}
use Rattle.grammar.specs.Words.{fields-are-names}
use Rattle.grammar.proofs.Reading.{GotBlock, read-program}
use Rattle.grammar.proofs.Writing.{row, marked, within, within-is, write-block}
use Rattle.causes.specs.Sites.{Sees}
use Rattle.causes.specs.Faults.{Followed, Used, LengthWrong, LengthFits, Misuse, Fault, of_length, of-record, of_end, of-use}
use Rattle.causes.proofs.Blaming.{Blames}
use Rattle.causes.proofs.Records.{Told}
use Rattle.causes.proofs.Blamed.{blames-program}
use Rattle.causes.proofs.Judging.{FirstWrong, judges-block}
use Rattle.causes.proofs.Leading.{leads}
use Rattle.causes.proofs.Breaking.{broken-stops}

fits : (bs : List ℕ) → length_fits bs ≡ true → LengthFits bs
unfolding length_fits
fits bs e =
    let f = (and-eq-true_iff (leb 1 (length bs) && leb (length bs) 8192) (eqb (length bs % 2) 0)).0 e in
    let g = (and-eq-true_iff (leb 1 (length bs)) (leb (length bs) 8192)).0 f.0 in
    record { some_bytes = leb-true 1 (length bs) g.0; most = leb-true (length bs) 8192 g.1; even = eqb-true (length bs % 2) 0 f.1 }

fits-true : (bs : List ℕ) → LengthFits bs → length_fits bs ≡ true
unfolding length_fits
fits-true bs h = rw (le-leb 1 (length bs) h.some_bytes, le-leb (length bs) 8192 h.most, eq-eqb (length bs % 2) 0 h.even)

unfit : (bs : List ℕ) → length_fits bs ≡ false → LengthWrong bs
unfit bs e =
    split (leb 1 (length bs))
    (λ a. split (leb (length bs) 8192)
    (λ b. split (eqb (length bs % 2) 0)
    (λ c. never (fits-true bs (record { some_bytes = leb-true 1 (length bs) a; most = leb-true (length bs) 8192 b; even = eqb-true (length bs % 2) 0 c })) e)
    (λ c. inr (inr (omega (arith, eqb-false (length bs % 2) 0 c)))))
    (λ b. inr (inl (leb-false (length bs) 8192 b))))
    (λ a. inl (omega (arith, leb-false 1 (length bs) a)))

fits_not : (bs : List ℕ) → LengthWrong bs → LengthFits bs → ⊥
fits_not bs (inl h) f = omega (arith, f.some_bytes)
fits_not bs (inr (inl h)) f = omega (arith, f.most)
fits_not bs (inr (inr h)) f = omega (arith, f.even)

not-fits : (bs : List ℕ) → LengthWrong bs → length_fits bs ≡ false
not-fits bs h = split (length_fits bs) (λ e. absurd (fits_not bs h (fits bs e))) (λ e. e)

-- From the check to the cause

abbrev Says : List ℕ → Checked → Type 0
Says bs (accepted t) = Unit {0}
Says bs (refused c o) = Fault bs c o

module _ (bs : List ℕ) (f : LengthFits bs) where
  module _ (t : Block) (w : FormedBlock t 1 [] 0) (e : fields_of bs ≡ block_fields t) where
    used-by : (c : Refusal) (o : ℕ) → FirstWrong (Sees t [] []) c o → Used (fields_of bs) o (Misuse c)
    used-by c o h =
        record { program = t; formed = w; text = e; action = h.action; scope = h.scope; sees = h.sees; earlier = λ p a sc k l. h.earlier p a sc k (omega arith); fault = h.fault }

    judged-says : (v : Judgement) → judge_block t [] [] ≡ v → Says bs (judged t v)
    unfolding judged
    judged-says fine q = tt
    judged-says (wrong c o) q = of-use f (used-by c o (((judges-block t 1 0 [] [] w).first c o).0 q))

  ended-says : (x : Reading Block) → Blames (Told (fields_of bs)) x → Yields (GotBlock 1 [] 0 (fields_of bs)) x → Says bs (ended x)
  unfolding ended
  ended-says (read t o []) b y = judged-says t y.formed (y.step.text ∙ append-nil (block_fields t)) (judge_block t [] []) refl
  ended-says (read t o (w ∷ ws)) b y =
      of_end {o = o} f (record { program = t; next = w; later = ws; formed = y.formed; text = y.step.text; stands = omega (arith, y.step.next) })
  ended-says (refuse c o) b y = of-record f b

check-says : (bs : List ℕ) → Bytes bs → Says bs (check bs)
unfolding check
check-says bs h = go (length_fits bs) refl
  where
    go : (b : Bool) → length_fits bs ≡ b → Says bs (elim b [ true ↦ ended (program 0 (fields_of bs)) | false ↦ refused ScriptLength 0 ])
    go true e =
        ended-says bs (fits bs e) (program 0 (fields_of bs)) (blames-program (fields_of bs) (fields-are-names bs h)) (read-program (fields_of bs) (fields-are-names bs h))
    go false e = of_length (unfit bs e)

-- whatever the check refuses has its cause
pub faulted : (bs : List ℕ) → Bytes bs → (c : Refusal) (o : ℕ) → check bs ≡ refused c o → Fault bs c o
faulted bs h c o e = subst (Says bs) e (check-says bs h)

-- From the cause to the check

module _ (bs : List ℕ) (f : LengthFits bs) where
  check-is : check bs ≡ ended (program 0 (fields_of bs))
  unfolding check
  check-is = rw (fits-true bs f, check)

  record-refused : (c : Refusal) (o : ℕ) → Told (fields_of bs) c o → check bs ≡ refused c o
  unfolding ended
  record-refused c o h =
      check-is
      ∙ ap ended (ap (program 0) h.text ∙ leads h.led h.rest (broken-stops (2 * length h.before) c h.place h.rest h.fault) ∙ ap (refuse c) (sym h.stands))

-- a program's fields, and what follows them
program-read : (t : Block) (ws : List ℕ) → FormedBlock t 1 [] 0 → program 0 (block_fields t ++ ws) ≡ read t (2 * length (block_fields t)) ws
unfolding program fit block_marks give formal_names
program-read t ws h =
    let z : 0 + 2 * length (block_fields t) ≡ 2 * length (block_fields t) = omega arith in
    ap (λ (l : List ℕ). program 0 (l ++ ws)) (within-is t)
    ∙ marked block_marks _ (row BK-mark 2 true) 0 (length (block_decls t) ∷ length (block_stmts t) ∷ []) (within t ++ ws) refl refl
    ∙ write-block t 16 1 [] 0 refl h ws
    ∙ ap (λ (o : ℕ). read t o ws) z

module _ (bs : List ℕ) (f : LengthFits bs) where
  after-refused : (o : ℕ) → Followed (fields_of bs) o → check bs ≡ refused BytesAfter o
  unfolding ended
  after-refused o h =
      check-is bs f
      ∙ ap ended (ap (program 0) h.text ∙ program-read h.program (h.next ∷ h.later) h.formed)
      ∙ ap (refused BytesAfter) (sym h.stands)

  use-refused : (c : Refusal) (o : ℕ) → Used (fields_of bs) o (Misuse c) → check bs ≡ refused c o
  unfolding ended judged
  use-refused c o h =
      let k = ((judges-block h.program 1 0 [] [] h.formed).first c o).1 (record { action = h.action; scope = h.scope; sees = h.sees; earlier = λ p a sc k l. h.earlier p a sc k (omega arith); fault = h.fault }) in
      check-is bs f
      ∙ ap ended (ap (program 0) (h.text ∙ sym (append-nil (block_fields h.program))) ∙ program-read h.program [] h.formed)
      ∙ ap (judged h.program) k

length-refused : (bs : List ℕ) → LengthWrong bs → check bs ≡ refused ScriptLength 0
unfolding check
length-refused bs h = rw (not-fits bs h, check)

-- where a cause holds, the check refuses with it
pub fault-refused : (bs : List ℕ) (c : Refusal) (o : ℕ) → Fault bs c o → check bs ≡ refused c o
fault-refused bs c o (of_length h) = length-refused bs h
fault-refused bs c o (of-record f h) = record-refused bs f c o h
fault-refused bs c o (of_end f h) = after-refused bs f o h
fault-refused bs c o (of-use f h) = use-refused bs f c o h

-- Each of 1 to 11 exactly on its cause, and no other refusal.
pub refuses-exactly : (bs : List ℕ) → Bytes bs → (c : Refusal) (o : ℕ) → (check bs ≡ refused c o) ↔ Fault bs c o
refuses-exactly bs h c o = (faulted bs h c o, fault-refused bs c o)

-- so that no two of them hold of one script
pub one-fault : (bs : List ℕ) (c d : Refusal) (o p : ℕ) → Fault bs c o → Fault bs d p → (c ≡ d) × (o ≡ p)
one-fault bs c d o p f g = let a = fault-refused bs c o f in let b = fault-refused bs d p g in (cc, cc)

-- It accepts where none of them holds, and only there.
pub accepts-unless : (bs : List ℕ) → Bytes bs → ((t : Block) × (check bs ≡ accepted t)) ↔ ((c : Refusal) (o : ℕ) → Fault bs c o → ⊥)
accepts-unless bs h = (λ a c o f. clash a.0 c o (sym a.1 ∙ fault-refused bs c o f), λ n. go n (check bs) refl)
  where
    clash : (t : Block) (c : Refusal) (o : ℕ) → accepted t ≡ refused c o → ⊥
    clash t c o e = let z : ◌≡◌ {A = ℕ} 0 1 = cc in omega arith

    go : ((c : Refusal) (o : ℕ) → Fault bs c o → ⊥) → (k : Checked) → check bs ≡ k → (t : Block) × (check bs ≡ accepted t)
    go n (accepted t) e = (t, e)
    go n (refused c o) e = absurd (n c o (faulted bs h c o e))
