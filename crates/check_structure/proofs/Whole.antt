-- The whole structure: the length first, the program, then bytes after it. Assumes nothing.
use Rattle.std.specs.Prelude.{Ok, Err}
use mathlib.Core.Path.{◌≡◌, refl, sym, ◌∙◌, ap}
use mathlib.Core.Bool.{Bool, true, false, ◌&&◌}
use mathlib.Core.List.{List, [], ◌∷◌}
use Prim.Native.Nat.{ℕ, ◌%◌, ◌<◌, ◌≤◌}
use native.Mathlib.Omega.{arith}
use native.Mathlib.Decide.{dec_lt}
use lib.Dec.{eqb, leb}
use lib.ListN.{length}
use borrow.Author.Tests.{lt-ltb, le-ltb, le-leb, lt-leb, eq-eqb, ne_eqb}
use Rattle.language.specs.Text.{Block}
use Rattle.language.specs.Structure.{Reading as Outcome, read, refuse, block_marks, block_with, program}
use Rattle.language.specs.Check.{length_fits}
use Rattle.language.specs.declared.Refusal.{Refusal}
use Rattle.language.specs.declared.Refusal.TheVariants.{ScriptLength, BytesAfter}
use Rattle.check_marks.specs.declared.Mark.{Mark}
use Rattle.check_marks.specs.declared.Place.TheVariants.{Block as ABlock}
use Rattle.language.specs.Faults.{fault, Progress, Verdict}
use Rattle.check_records.specs.declared.Reading.{Reading}
use Rattle.check_records.specs.declared.Reading.TheVariants.{Taken}
use Rattle.check_records.specs.Taking.{unread, record_at, progress_of, forget}
use Rattle.check_records.proofs.Unread.{unread-enough, unread-short}
use Rattle.check_structure.specs.Structure.{ended_of, closing, structure_of}
use Rattle.check_blocks.proofs.Lands.{Lands, Tracks, tracks_bind, tracks-take, tracks-block}
use Rattle.check_blocks.proofs.BlockLaws.{head-stops, head-goes-on}

closing-more : (end n : ℕ) → end < n → closing (Ok end) n ≡ Err (fault BytesAfter end)
unfolding closing
closing-more end n h = rw (lt-ltb end n h, closing)

closing-none : (end n : ℕ) → n ≤ end → closing (Ok end) n ≡ Ok tt
unfolding closing
closing-none end n h = rw (le-ltb end n h, closing)

-- as the code finds where reading ended
module _ (n : ℕ) {p : Progress} where
  pub ended-early : {end : ℕ} → p ≡ Ok end → end < n → Err (fault BytesAfter end) ≡ closing p n
  ended-early {end} e h = sym (ap (λ q. closing q n) e ∙ closing-more end n h)

  pub ended-last : {end : ℕ} → p ≡ Ok end → n ≤ end → Ok tt ≡ closing p n
  ended-last {end} e h = sym (ap (λ q. closing q n) e ∙ closing-none end n h)

  pub ended-refused : {c : Refusal} {o : ℕ} → p ≡ Err (fault c o) → Err (fault c o) ≡ closing p n
  unfolding closing
  ended-refused e = sym (ap (λ q. closing q n) e)

ended-more : (t : Block) (end : ℕ) (ws : List ℕ) → 1 ≤ length ws → ended_of (read t end ws) ≡ Err (fault BytesAfter end)
unfolding ended_of
ended-more t end [] h = absurd (omega arith)
ended-more t end (w ∷ ws) h = refl

ended-none : (t : Block) (end : ℕ) (ws : List ℕ) → length ws < 1 → ended_of (read t end ws) ≡ Ok tt
unfolding ended_of
ended-none t end [] h = refl
ended-none t end (w ∷ ws) h = absurd (omega arith)

module _ (bs : List ℕ) (even : length bs % 2 ≡ 0) where
  closed-read : (t : Block) (end : ℕ) → end % 2 ≡ 0 → Dec (end < length bs) → ended_of (read t end (unread bs end)) ≡ closing (Ok end) (length bs)
  closed-read t end e (yes h) = ended-more t end (unread bs end) (unread-enough bs end 1 (omega arith)) ∙ sym (closing-more end (length bs) h)
  closed-read t end e (no h) =
      ended-none t end (unread bs end) (unread-short bs end 1 (omega arith) (omega arith))
      ∙ sym (closing-none end (length bs) (omega arith))

  closed : (x : Outcome Block) → Lands bs 0 x → ended_of x ≡ closing (forget x) (length bs)
  unfolding ended_of forget closing
  closed (read t end ws) l =
      ap (λ vs. ended_of (read t end vs)) l.0 ∙ closed-read t end l.2 (dec_lt end (length bs))
  closed (refuse c o) l = refl

tracks-program : (bs : List ℕ) → Tracks bs program
unfolding program
tracks-program bs = tracks_bind bs (tracks-take bs block_marks) λ b. tracks-block bs 16 _ _ _ _

-- the length, as the code tests it
module _ (bs : List ℕ) where
  misfit : length_fits bs ≡ false → Err (fault ScriptLength 0) ≡ structure_of bs
  unfolding structure_of
  misfit e = rw (e, structure_of)

  fits-then : length_fits bs ≡ true → structure_of bs ≡ ended_of (program 0 (unread bs 0))
  unfolding structure_of unread
  fits-then e = rw (e, structure_of)

  three : (a b c : Bool) {a' b' c' : Bool} → a ≡ a' → b ≡ b' → c ≡ c' → (a && b && c) ≡ (a' && b' && c')
  three a b c p q r = cc

  pub empty : length bs ≡ 0 → Err (fault ScriptLength 0) ≡ structure_of bs
  unfolding length_fits
  empty h = misfit (ap (λ b. b && leb (length bs) 8192 && eqb (length bs % 2) 0) (lt-leb 1 (length bs) (omega arith)))

  pub too_long : (length bs ≡ 0 → ⊥) → 8192 < length bs → Err (fault ScriptLength 0) ≡ structure_of bs
  unfolding length_fits
  too_long z h = misfit (three _ _ _ (le-leb 1 (length bs) (omega arith)) (lt-leb (length bs) 8192 h) refl)

  pub odd : (length bs ≡ 0 → ⊥) → length bs ≤ 8192 → length bs % 2 ≡ 1 → Err (fault ScriptLength 0) ≡ structure_of bs
  unfolding length_fits
  odd z h o = misfit (three _ _ _ (le-leb 1 (length bs) (omega arith)) (le-leb (length bs) 8192 h) (ne_eqb (length bs % 2) 0 (λ e. omega arith)))

-- a script whose length fits: its program refused at its BK, or read
module _ (bs : List ℕ) (z : length bs ≡ 0 → ⊥) (h : length bs ≤ 8192) (o : length bs % 2 ≡ 1 → ⊥) where
  even : length bs % 2 ≡ 0
  even = omega arith

  length-right : length_fits bs ≡ true
  unfolding length_fits
  length-right = three bs _ _ _ (le-leb 1 (length bs) (omega arith)) (le-leb (length bs) 8192 h) (eq-eqb (length bs % 2) 0 even)

  whole_is : {p : Progress} {v : Verdict} → p ≡ forget (program 0 (unread bs 0)) → v ≡ closing p (length bs) → v ≡ structure_of bs
  whole_is e q =
      q ∙ ap (λ p. closing p (length bs)) e
      ∙ sym (fits-then bs length-right ∙ closed bs even (program 0 (unread bs 0)) ((tracks-program bs).lands 0))

  pub program-refused : {x : Reading} {y : Progress} {v : Verdict} {c : Refusal} {k : ℕ} → x ≡ record_at ABlock bs 0 → x ≡ Reading.Refused c k → y ≡ progress_of x → v ≡ closing y (length bs) → v ≡ structure_of bs
  unfolding program forget
  program-refused {c = c} {k} e g q w =
      whole_is (q ∙ ap progress_of g ∙ sym (ap forget (head-stops (block_with 16) [] bs 0 c k (sym e ∙ g)))) w

  pub program-read : {x : Reading} {y : Progress} {v : Verdict} {m : Mark} {next f0 f1 f2 f3 : ℕ} (ns : List ℕ) → ns ≡ [] → x ≡ record_at ABlock bs 0 → x ≡ Taken m next f0 f1 f2 f3 → y ≡ forget (block_with 16 0 f0 f1 ns next (unread bs next)) → v ≡ closing y (length bs) → v ≡ structure_of bs
  unfolding program
  program-read {next = next} {f0} {f1} ns n e g q w =
      whole_is
      (q ∙ ap (λ l. forget (block_with 16 0 f0 f1 l next (unread bs next))) n ∙ sym (ap forget (head-goes-on (block_with 16) [] bs 0 (sym e ∙ g))))
      w
