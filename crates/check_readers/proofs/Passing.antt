-- A function of a reader is called in a walk over `walks`: what it is passed is the reader's slice, a borrow in hand, and its position.
--     reader_of s n     the reader.        Passed      what its two fields are to a walk.        to-reader       what the callee's triple binds
--     asks-reader      these are what the callee asks, where it has no `requires`.        says-reader     what it says, once it has returned
-- Assumes `Logic`.
use Prim.Native.Nat.{ℕ}
use mathlib.Core.List.{List, [], ◌∷◌}
use seplogic.Ra.Ura.{Ura}
use mir.Syntax.{w8}
use mir.Val.{Val}
use base.Logic.{SProp, ent, sep, ex, emp, via, mono∗, mono_l, mono_r, emp∗, comm∗, snd∗, ex_i, ex_e}
use base.Fml.{Fml, Lft, Share}
use types.Logic.{Logic, sem}
use contract.Lifetimes.{Lfts, Shares}
use contract.Monad.{fact}
use denote.RattleType.{RattleType, Denots, Valss}
use denote.Builtin.{u8}
use denote.Plain.{uint_row_laws}
use denote.Ref.{Bor}
use denote.Signature.{named_lft}
use denote.Struct.Rest.{own_shut}
use denote.Triple.Clauses.{Lasts, lasts as lasts-of}
use Rattle.walks.specs.Data.{usizes}
use Rattle.walks.specs.Loans.{loan_shr_slice, shr_slice}
use Rattle.walks.specs.Params.{Par, dat, brw, Bounds, lasts, alive, owning}
use Rattle.walks.specs.Calls.{Given-back}
use Rattle.walks.specs.Clauses.{apart}
use Rattle.check_fields.specs.declared.reader.Reader.{Reader}
use Rattle.check_fields.specs.contracts.reader.Reader as T
use Rattle.check_fields.proofs.reader.Reader.TheLaws as T'
use Rattle.check_fields.proofs.Held.{Row}
use Rattle.check_fields.proofs.Thin.{held-ended}

abbrev pub reader_of : Bor (List ℕ) → ℕ → Reader
reader_of s n = record { script = s; at = n }

abbrev pub Passed : Lft → Share → Bor (List ℕ) → ℕ → List Par
Passed κ q s n = brw (shr_slice u8 (uint_row_laws w8)) (loan_shr_slice κ q s) s.now ∷ dat usizes n ∷ []

module _ (κ : Lft) (q : Share) (s : Bor (List ℕ)) (n : ℕ) where
  abbrev pub to-reader : (Lfts 1 × Shares 1 × Unit {0} × Denots (Row κ ∷ []) × Valss (Row κ ∷ [])) × Unit {0}
  to-reader = (((κ, tt), (q, tt), tt, (reader_of s n, tt), (T'.lowered (reader_of s n) ∷ [], tt)), tt)

  module _ {M : Type 1} {𝓤 : Ura M} (𝓛 : Logic 𝓤) where
    open 𝓛 use {H}

    abbrev Held : SProp 𝓤
    Held = sem 𝓛 ((Row κ).own_val (reader_of s n) (T'.lowered (reader_of s n) ∷ []))

    abbrev Tokens : SProp 𝓤
    Tokens = alive 𝓛 (Passed κ q s n)

    pub asks-reader : ent 𝓤 (sep 𝓤 (sep 𝓤 Tokens (owning 𝓛 0 (Passed κ q s n))) (fact 𝓤 (Unit {0})))
        (sep 𝓤 (sep 𝓤 Tokens (sep 𝓤 Held (emp 𝓤))) (emp 𝓤))
    asks-reader = mono∗ 𝓤 (mono_r 𝓤 Tokens (via 𝓤 Held (own_shut 𝓛 (T.the_type (named_lft 1 0 tt (κ, tt))) (T'.the_laws (named_lft 1 0 tt (κ, tt))) (s, (n, tt)))
        (via 𝓤 (sep 𝓤 (emp 𝓤) Held) (emp∗ 𝓤 Held) (comm∗ 𝓤 (emp 𝓤) Held)))) (apart 𝓤 [])

    module _ (R : RattleType) (ψ : R.Denot → Type 0) (v : Val) where
      abbrev B : Type 0
      B = Lasts (held-ended R) (κ, tt) (reader_of s n, tt)

      abbrev L : B → Fml
      L b = lasts-of (held-ended R) (κ, tt) (reader_of s n, tt) b

      abbrev First : R.Denot → SProp 𝓤
      First r = sep 𝓤 Tokens (sem 𝓛 (R.own_val r (v ∷ [])))

      abbrev Last : R.Denot → Bounds 0 (Passed κ q s n) → SProp 𝓤
      Last r ws = sep 𝓤 (sem 𝓛 (lasts 0 (Passed κ q s n) ws)) (fact 𝓤 (ψ r))

      -- a reader has no last value
      none_last : (r : R.Denot) → ent 𝓤 (fact 𝓤 (ψ r)) (ex 𝓤 (Last r))
      none_last r = via 𝓤 (sep 𝓤 (emp 𝓤) (fact 𝓤 (ψ r))) (emp∗ 𝓤 (fact 𝓤 (ψ r))) (via 𝓤 (Last r (tt, (tt, tt)))
          (mono_l 𝓤 (fact 𝓤 (ψ r)) (via 𝓤 (sep 𝓤 (emp 𝓤) (emp 𝓤)) (emp∗ 𝓤 (emp 𝓤)) (mono_r 𝓤 (emp 𝓤) (emp∗ 𝓤 (emp 𝓤))))) (ex_i 𝓤 (Last r) (tt, (tt, tt))))

      pub says-reader : ent 𝓤 (H.⇛ (ex 𝓤 (λ (r : R.Denot). sep 𝓤 (First r) (ex 𝓤 (λ (b : B). sep 𝓤 (sem 𝓛 (L b)) (fact 𝓤 (ψ r)))))))
          (Given-back 𝓛 (Passed κ q s n) R (λ r ws. ψ r) v)
      says-reader = 𝓛.laws.⇛_mono _ _ (ex_e 𝓤 (λ (r : R.Denot). sep 𝓤 (First r) (ex 𝓤 (λ (b : B). sep 𝓤 (sem 𝓛 (L b)) (fact 𝓤 (ψ r))))) (λ r.
          via 𝓤 (sep 𝓤 (First r) (ex 𝓤 (Last r))) (mono_r 𝓤 (First r) (ex_e 𝓤 (λ (b : B). sep 𝓤 (sem 𝓛 (L b)) (fact 𝓤 (ψ r))) (λ b.
          via 𝓤 (fact 𝓤 (ψ r)) (snd∗ 𝓤 (sem 𝓛 (L b)) (fact 𝓤 (ψ r))) (none_last r)))) (ex_i 𝓤 (λ (r : R.Denot). sep 𝓤 (First r) (ex 𝓤 (Last r))) r)))
