-- What is found among the entries is what the definitions look up; the meaning that each mark gives.
-- Assumes nothing.
use Rattle.std.specs.Prelude.{Some, None, Ok, Err}
use mathlib.Core.Path.{◌≡◌, refl, sym, ap, ◌∙◌}
use mathlib.Core.Bool.{Bool, true, false}
use mathlib.Core.List.{List, [], ◌∷◌}
use mathlib.Core.Option.{Option, none, some}
use Prim.Native.Nat.{ℕ, ◌+◌, ◌%◌}
use native.Mathlib.Omega.{arith}
use lib.Dec.{eqb}
use borrow.Author.Tests.{eq-eqb, ne_eqb}
use Rattle.language.specs.Basics.{lookup}
use Rattle.language.specs.Text.{Kind, variable, label, procedure, same_kind}
use Rattle.language.specs.Encoding.{LB-mark, PR-mark, FM-mark}
use Rattle.language.specs.Scope.{Meaning, fine, wrong, of_kind}
use Rattle.language.specs.Scope as definitions
use Rattle.language.specs.declared.Refusal.TheVariants.{NotVisible, WrongKind}
use Rattle.laws.specs.Fields.{field_at}
use Rattle.language.specs.Faults.{fault, Verdict}
use Rattle.check_uses.specs.declared.Kind as code
use Rattle.check_uses.specs.declared.Kind.TheVariants.{Variable, Label, Procedure}
use Rattle.check_uses.specs.Meanings.{kind_from, kind_meant, kinds_at, meaning_at, scope_of, verdict_of}
use Rattle.check_symbols.specs.Entries.{found_in}
use Rattle.check_symbols.specs.Entries.{Binding}

abbrev pub meant : List ℕ → Binding → Option Meaning
meant bs (Some place) = some (meaning_at bs place)
meant bs None = none

found-case : (bs : List ℕ) (n e : ℕ) (es : List ℕ) (b : Bool) → eqb n (e % 65536) ≡ b → lookup n (scope_of bs es) ≡ meant bs (found_in n es) → lookup n (scope_of bs (e ∷ es)) ≡ meant bs (found_in n (e ∷ es))
unfolding found_in scope_of lookup
found-case bs n e es true q ih = rw (q, found_in, lookup)
found-case bs n e es false q ih = rw (q, found_in, lookup) ih

pub found-lookup : (bs : List ℕ) (n : ℕ) (es : List ℕ) → lookup n (scope_of bs es) ≡ meant bs (found_in n es)
unfolding found_in scope_of lookup
found-lookup bs n [] = refl
found-lookup bs n (e ∷ es) = found-case bs n e es (eqb n (e % 65536)) refl (found-lookup bs n es)

module _ (bs : List ℕ) (place : ℕ) where
  pub means-PR : field_at bs place ≡ PR-mark → meaning_at bs place ≡ record { kind = procedure; takes = some (kinds_at bs (place + 6) (field_at bs (place + 4))) }
  unfolding meaning_at
  means-PR e = rw (e, meaning_at)

  pub means-LB : field_at bs place ≡ LB-mark → meaning_at bs place ≡ record { kind = label; takes = none }
  unfolding meaning_at
  means-LB e = rw (ne_eqb (field_at bs place) PR-mark (λ p. omega arith), eq-eqb _ LB-mark e, meaning_at)

  pub means-FM : field_at bs place ≡ FM-mark → meaning_at bs place ≡ record { kind = kind_from (field_at bs (place + 4)); takes = none }
  unfolding meaning_at
  means-FM e = rw (ne_eqb (field_at bs place) PR-mark (λ p. omega arith), ne_eqb (field_at bs place) LB-mark (λ p. omega arith), eq-eqb _ FM-mark e, meaning_at)

  pub means-other : (field_at bs place ≡ PR-mark → ⊥) → (field_at bs place ≡ LB-mark → ⊥) → (field_at bs place ≡ FM-mark → ⊥) → meaning_at bs place ≡ record { kind = variable; takes = none }
  unfolding meaning_at
  means-other e f g = rw (ne_eqb _ PR-mark e, ne_eqb _ LB-mark f, ne_eqb _ FM-mark g, meaning_at)

-- the kind that a record declares, by its mark as it was read
module _ (bs : List ℕ) (place mark : ℕ) (read : mark ≡ field_at bs place) where
  pub kind-PR : mark ≡ PR-mark → procedure ≡ (meaning_at bs place).kind
  kind-PR e = rw (means-PR bs place (sym read ∙ e))

  pub kind-LB : mark ≡ LB-mark → label ≡ (meaning_at bs place).kind
  kind-LB e = rw (means-LB bs place (sym read ∙ e))

  pub kind-FM : (x : ℕ) (k : Kind) → mark ≡ FM-mark → x ≡ field_at bs (place + 4) → k ≡ kind_from x → k ≡ (meaning_at bs place).kind
  kind-FM x k e f q =
      q ∙ ap kind_from f ∙ sym (ap (λ (m : Meaning). m.kind) (means-FM bs place (sym read ∙ e)))

  pub kind-other : (mark ≡ PR-mark → ⊥) → (mark ≡ LB-mark → ⊥) → (mark ≡ FM-mark → ⊥) → variable ≡ (meaning_at bs place).kind
  kind-other e f g = rw (means-other bs place (λ p. e (read ∙ p)) (λ p. f (read ∙ p)) (λ p. g (read ∙ p)))

same-kind : (k : Kind) → same_kind k k ≡ true
unfolding same_kind
same-kind variable = refl
same-kind label = refl
same-kind procedure = refl

pub kinds-agree : (k j : Kind) → j ≡ k → same_kind k j ≡ true
kinds-agree k j e = rw e (same-kind k)

pub kinds-differ : (k j : Kind) → (j ≡ k → ⊥) → same_kind k j ≡ false
unfolding same_kind
kinds-differ variable variable e = absurd (e refl)
kinds-differ variable label e = refl
kinds-differ variable procedure e = refl
kinds-differ label variable e = refl
kinds-differ label label e = absurd (e refl)
kinds-differ label procedure e = refl
kinds-differ procedure variable e = refl
kinds-differ procedure label e = refl
kinds-differ procedure procedure e = absurd (e refl)

-- the code's kinds are told apart as the definitions' are
pub meant_apart : (k j : code.Kind) → kind_meant k ≡ kind_meant j → k ≡ j
meant_apart Variable Variable e = refl
meant_apart Variable Label e = cc
meant_apart Variable Procedure e = cc
meant_apart Label Variable e = cc
meant_apart Label Label e = refl
meant_apart Label Procedure e = cc
meant_apart Procedure Variable e = cc
meant_apart Procedure Label e = cc
meant_apart Procedure Procedure e = refl

-- a use, by what is found
module _ (bs : List ℕ) (es : List ℕ) (at : ℕ) (k : Kind) (n : ℕ) where
  use-none : found_in n es ≡ None → definitions.uses (scope_of bs es) at k n ≡ wrong NotVisible at
  unfolding definitions.uses of_kind
  use-none e = rw (found-lookup bs n es, e)

  pub use-right : (place : ℕ) → found_in n es ≡ Some place → (meaning_at bs place).kind ≡ k → definitions.uses (scope_of bs es) at k n ≡ fine
  unfolding definitions.uses of_kind
  use-right place e f = rw (found-lookup bs n es, e, kinds-agree k (meaning_at bs place).kind f, of_kind)

  use-wrong : (place : ℕ) → found_in n es ≡ Some place → ((meaning_at bs place).kind ≡ k → ⊥) → definitions.uses (scope_of bs es) at k n ≡ wrong WrongKind at
  unfolding definitions.uses of_kind
  use-wrong place e f = rw (found-lookup bs n es, e, kinds-differ k (meaning_at bs place).kind f, of_kind)

-- the same as the code has it
module _ (bs es : List ℕ) (at : ℕ) (k : code.Kind) (n : ℕ) (b : Binding) (found : b ≡ found_in n es) where
  abbrev judged : Verdict
  judged = verdict_of (definitions.uses (scope_of bs es) at (kind_meant k) n)

  pub used-none : b ≡ None → Err (fault NotVisible at) ≡ judged
  used-none e = sym (ap verdict_of (use-none bs es at (kind_meant k) n (sym found ∙ e)))

  module _ (place : ℕ) (j : code.Kind) (there : b ≡ Some place) (is : kind_meant j ≡ (meaning_at bs place).kind) where
    pub used-right : j ≡ k → Ok tt ≡ judged
    used-right e = sym (ap verdict_of (use-right bs es at (kind_meant k) n place (sym found ∙ there) (sym is ∙ ap kind_meant e)))

    pub used-wrong : (j ≡ k → ⊥) → Err (fault WrongKind at) ≡ judged
    used-wrong e = sym (ap verdict_of (use-wrong bs es at (kind_meant k) n place (sym found ∙ there) (λ p. e (meant_apart j k (is ∙ p)))))
