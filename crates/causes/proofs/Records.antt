-- A record that is due and what is at fault there, for the proofs: `Reached` says that the fields us are what is left of a script where a place is due, and `blames-due` is the law of a reader that takes the record there.
use Rattle.std.specs.Prelude.{ℕ, ◌+◌, ◌*◌, List, ◌++◌, ◌≡◌, length}
use Rattle.std.proofs.Common.{arith, append_assoc, sym, ap, ◌∙◌, subst, length-append}
use Rattle.std.proofs.Math.Option.{none, some}
use Rattle.language.specs.Basics.{lookup}
use Rattle.language.specs.Structure.{Reader, ◌>>=◌, Row, Record, take-record}
use Rattle.language.specs.declared.Refusal.{Refusal}
use Rattle.language.specs.declared.Refusal.TheVariants.{PastTheEnd, MarkMisplaced}
use Rattle.laws.specs.Each.{Each, each-second}
use Rattle.grammar.specs.Rules.{Name}
use Rattle.grammar.specs.Readers.{Marked}
use Rattle.causes.specs.Places.{Place, marks_at, LeadsUp}
use Rattle.causes.specs.Faults.{no-mark, no_fields, no_row, At, Broken, past_end, misplaced}
use Rattle.causes.proofs.Blaming.{Blames, table, blames-marks}

pub record Reached (all : List ℕ) (p : Place) (at : ℕ) (us : List ℕ) : Type 0 where
  pub before : List ℕ
  pub text : all ≡ before ++ us
  pub stands : at ≡ 2 * length before
  pub led : LeadsUp before p

abbrev pub Told : List ℕ → Refusal → ℕ → Type 0
Told all c o = At all o (Broken c)

module _ {all : List ℕ} {p : Place} {at : ℕ} {us : List ℕ} (r : Reached all p at us) where
  pub due : (c : Refusal) → Broken c p us → Told all c at
  due c b = record { before = r.before; rest = us; place = p; text = r.text; stands = r.stands; led = r.led; fault = b }

  -- the fields left are spelt out
  pub due-as : (c : Refusal) {vs : List ℕ} → us ≡ vs → Broken c p vs → Told all c at
  due-as c e b = due c (subst (Broken c p) (sym e) b)

  pub reached-as : {vs : List ℕ} → us ≡ vs → Reached all p at vs
  reached-as e = record { before = r.before; text = r.text ∙ ap (r.before ++◌) e; stands = r.stands; led = r.led }

  pub names-left : Each Name all → Each Name us
  names-left h = each-second Name r.before us (subst (Each Name) r.text h)

  pub blames-due : {M B : Type 0} (rows : List (Row M)) (f : Record M → Reader B) → table rows ≡ marks_at p
      → Each (Marked at us (λ x o vs. Blames (Told all) (f x o vs))) rows → Blames (Told all) ((take-record rows >>= f) at us)
  blames-due rows f e h =
      blames-marks (Told all) rows f at us (λ q. due-as PastTheEnd q (past_end no-mark))
      (λ w vs q l. due-as MarkMisplaced q (misplaced (no_row w vs (subst (λ (t : List (ℕ × ℕ)). lookup w t ≡ none) e l))))
      (λ w k vs q l s. due-as PastTheEnd q (past_end (no_fields w k vs (subst (λ (t : List (ℕ × ℕ)). lookup w t ≡ some k) e l) s))) h

-- fields that lead to a place, and more of them up to another place
pub reached-on : {all : List ℕ} (ws xs : List ℕ) {at : ℕ} {us : List ℕ} {p : Place} → all ≡ ws ++ (xs ++ us) → at ≡ 2 * length ws + 2 * length xs → LeadsUp (ws ++ xs) p
    → Reached all p at us
reached-on ws xs {us = us} e n b = record { before = ws ++ xs; text = e ∙ sym (append_assoc ws xs us); stands = omega (arith, length-append ws xs); led = b }
