-- Between a contract whose clauses are facts and the borrow checker's plain contracts (`borrow.Fn.Plain`), at one choice of arguments, over any tables: no model of the machine is asked.
--     stated           the contract with the clauses Rq and En
--     known_at         a callee that meets it at these arguments, where P holds, meets there the contract that a derivation takes of a callee
--     knows            the same at all arguments
--     met_at           code that meets the contract of a derivation at these arguments meets this one there
--     beside, two      a fact that is shown, beside what follows it.        both, three    a fact from two, and from three
-- Assumes `Logic`.
use Prim.Native.Nat.{ℕ}
use mathlib.Core.List.{List, []}
use seplogic.Ra.Ura.{Ura}
use mir.Val.{Val}
use base.Logic.{SProp, ent, sep, ex, ex_i, ex_e, ex∗, emp, via, emp∗, comm∗, mono∗, mono_l, mono_r, fst∗, snd∗, guard_e}
use types.Logic.{Logic, sem}
use contract.Monad.{fact, fact_i, fact_mono, fact_use, Fun, Mono, fm→mono}
use contract.Lifetimes.{Lfts}
use denote.Triple.Entry.{on_entry}
use denote.Triple.Statement.{Contract, FmF, Triple}
use denote.Triple.Bound.{Bound, passed}
use denote.Triple.Spec.{Back, triple_of}
use denote.Triple.Clauses.{Clauses, Ended, Lasts, AtExit, at_exit, lasts, closing}
use denote.Triple.Walked.{Fit, on_exit, walk_of, walk_meets_at}
use borrow.Fn.Claims.{with_fact}
use borrow.Fn.Kind.{ParamKind, ResultKind}
use borrow.Fn.Kinds.{In, Out, Dens, res_t, ended_of, stays}
use borrow.Fn.Function.{S, go_p}
use borrow.Fn.Plain.{plain_of, known_of}
use borrow.Fn.Written.{fit_of_p}

module _ {M : Type 1} (𝓤 : Ura M) where
  pub beside : (φ : Type 0) (R : SProp 𝓤) → φ → ent 𝓤 (emp 𝓤) R → ent 𝓤 (emp 𝓤) (sep 𝓤 (fact 𝓤 φ) R)
  beside φ R p h = via 𝓤 (sep 𝓤 (emp 𝓤) (emp 𝓤)) (emp∗ 𝓤 (emp 𝓤)) (mono∗ 𝓤 (fact_i 𝓤 φ (emp 𝓤) p) h)

  pub two : (φ ψ : Type 0) → φ → ψ → ent 𝓤 (emp 𝓤) (sep 𝓤 (fact 𝓤 φ) (fact 𝓤 ψ))
  two φ ψ p q = beside φ (fact 𝓤 ψ) p (fact_i 𝓤 ψ (emp 𝓤) q)

  from_beside : (φ χ : Type 0) (R : SProp 𝓤) → (φ → ent 𝓤 R (fact 𝓤 χ)) → ent 𝓤 (sep 𝓤 (fact 𝓤 φ) R) (fact 𝓤 χ)
  from_beside φ χ R h = fact_use 𝓤 φ (fst∗ 𝓤 (fact 𝓤 φ) R) (λ p. via 𝓤 R (snd∗ 𝓤 (fact 𝓤 φ) R) (h p))

  pub both : (φ ψ χ : Type 0) → (φ → ψ → χ) → ent 𝓤 (sep 𝓤 (fact 𝓤 φ) (fact 𝓤 ψ)) (fact 𝓤 χ)
  both φ ψ χ h = from_beside φ χ (fact 𝓤 ψ) (λ p. fact_mono 𝓤 ψ χ (h p))

  pub three : (φ ψ ω χ : Type 0) → (φ → ψ → ω → χ) → ent 𝓤 (sep 𝓤 (fact 𝓤 φ) (sep 𝓤 (fact 𝓤 ψ) (fact 𝓤 ω))) (fact 𝓤 χ)
  three φ ψ ω χ h = from_beside φ χ (sep 𝓤 (fact 𝓤 ψ) (fact 𝓤 ω)) (λ p. both ψ ω χ (h p))

module _ {M : Type 1} {𝓤 : Ura M} (𝓛 : Logic 𝓤) (n : ℕ) (ps : List (ParamKind n)) (r : ResultKind n)
    (Rq : (κs : Lfts n) → Dens κs ps → SProp 𝓤)
    (En : (κs : Lfts n) → Dens κs ps → (res_t r κs).Denot → AtExit (ended_of n ps r) κs → SProp 𝓤) where
  open 𝓛 use {H}

  abbrev T : Ended
  T = ended_of n ps r

  abbrev written : Clauses 𝓤 T
  written κs a = record { ghost = Unit {0}; requires = λ _. Rq κs a; ensures = λ _ x e. En κs a x e }

  abbrev pub stated : Contract 𝓤
  stated = triple_of 𝓛 T.signature (closing 𝓛 T written)

  module _ (P : In n ps) (Q : Out n ps r) (x : Bound 𝓛 (S n ps r [] 0)) (run : Fun 𝓤) where
    abbrev On : SProp 𝓤
    On = on_entry 𝓛 (S n ps r [] 0) x.0 x.1 x.3 x.4

    abbrev Ls : Lasts T x.0 x.3 → SProp 𝓤
    Ls ws = sem 𝓛 (lasts T x.0 x.3 ws)

    abbrev Bk : Val → (res_t r x.0).Denot → SProp 𝓤
    Bk v z = Back 𝓛 (S n ps r [] 0) x v z

    abbrev Says : (res_t r x.0).Denot → Lasts T x.0 x.3 → SProp 𝓤
    Says z ws = En x.0 x.3 z (at_exit T x.0 x.3 ws)

    abbrev Holds : (res_t r x.0).Denot → Lasts T x.0 x.3 → Type 0
    Holds z ws = Q x.0 x.3 z (at_exit T x.0 x.3 ws)

    -- ---- a callee
    abbrev Given : Val → (res_t r x.0).Denot → Lasts T x.0 x.3 → SProp 𝓤
    Given v z ws = sep 𝓤 (sep 𝓤 (Ls ws) (fact 𝓤 (Fit T (stays ps) x.0 x.3 ws × Holds z ws))) (Bk v z)

    module _ (says : (z : (res_t r x.0).Denot) (ws : Lasts T x.0 x.3) → ent 𝓤 (Says z ws) (fact 𝓤 (Holds z ws))) where
      given : (v : Val) (z : (res_t r x.0).Denot) (ws : Lasts T x.0 x.3) → ent 𝓤 (sep 𝓤 (sep 𝓤 (Ls ws) (Says z ws)) (Bk v z)) (ex 𝓤 (λ (z' : (res_t r x.0).Denot). ex 𝓤 (Given v z')))
      given v z ws =
          let both : SProp 𝓤 = sep 𝓤 (Ls ws) (Says z ws) in
          fact_use 𝓤 (Fit T (stays ps) x.0 x.3 ws) (via 𝓤 both (fst∗ 𝓤 both (Bk v z)) (via 𝓤 (Ls ws) (fst∗ 𝓤 (Ls ws) (Says z ws)) (fit_of_p 𝓛 x.0 ps x.3 ws))) (λ ft.
          fact_use 𝓤 (Holds z ws) (via 𝓤 both (fst∗ 𝓤 both (Bk v z)) (via 𝓤 (Says z ws) (snd∗ 𝓤 (Ls ws) (Says z ws)) (says z ws))) (λ q.
          via 𝓤 (Given v z ws) (mono_l 𝓤 (Bk v z) (via 𝓤 (Ls ws) (fst∗ 𝓤 (Ls ws) (Says z ws)) (with_fact 𝓤 (Fit T (stays ps) x.0 x.3 ws × Holds z ws) (Ls ws) (ft, q))))
          (via 𝓤 (ex 𝓤 (Given v z)) (ex_i 𝓤 (Given v z) ws) (ex_i 𝓤 (λ (z' : (res_t r x.0).Denot). ex 𝓤 (Given v z')) z))))

      told : (v : Val) → ent 𝓤 (stated.post (x, tt) v) ((known_of 𝓛 n ps r P Q).post (x, tt) v)
      told v = 𝓛.laws.⇛_mono _ _ (ex_e 𝓤 _ (λ z.
          via 𝓤 (sep 𝓤 (ex 𝓤 (λ (ws : Lasts T x.0 x.3). sep 𝓤 (Ls ws) (Says z ws))) (Bk v z)) (comm∗ 𝓤 (Bk v z) (ex 𝓤 (λ (ws : Lasts T x.0 x.3). sep 𝓤 (Ls ws) (Says z ws))))
          (ex∗ 𝓤 (λ (ws : Lasts T x.0 x.3). sep 𝓤 (Ls ws) (Says z ws)) (Bk v z) (λ ws. given v z ws))))

      pub known_at : (P x.0 x.3 → ent 𝓤 (emp 𝓤) (Rq x.0 x.3)) → FmF 𝓤 run
          → (P x.0 x.3 → ent 𝓤 (stated.pre (x, tt)) (run (stated.args (x, tt)) (stated.post (x, tt))))
          → ent 𝓤 ((known_of 𝓛 n ps r P Q).pre (x, tt)) (run ((known_of 𝓛 n ps r P Q).args (x, tt)) ((known_of 𝓛 n ps r P Q).post (x, tt)))
      known_at asks fm met =
          fact_use 𝓤 (P x.0 x.3) (snd∗ 𝓤 On (fact 𝓤 (P x.0 x.3))) (λ p. via 𝓤 On (fst∗ 𝓤 On (fact 𝓤 (P x.0 x.3)))
          (via 𝓤 (sep 𝓤 On (emp 𝓤)) (via 𝓤 (sep 𝓤 (emp 𝓤) On) (emp∗ 𝓤 On) (comm∗ 𝓤 (emp 𝓤) On))
          (via 𝓤 (stated.pre (x, tt)) (mono_r 𝓤 On (asks p))
          (via 𝓤 (run (stated.args (x, tt)) (stated.post (x, tt))) (met p)
          (fm→mono 𝓤 (run (stated.args (x, tt))) (fm (stated.args (x, tt))) (stated.post (x, tt)) ((known_of 𝓛 n ps r P Q).post (x, tt)) told)))))

    -- ---- the code itself
    abbrev Left : Val → (res_t r x.0).Denot → Lasts T x.0 x.3 → SProp 𝓤
    Left v z ws = on_exit 𝓛 T (stays ps) x.0 x.1 x.4 v z x.3 ws

    abbrev Fits : Lasts T x.0 x.3 → SProp 𝓤
    Fits ws = fact 𝓤 (Fit T (stays ps) x.0 x.3 ws)

    module _ (told : (z : (res_t r x.0).Denot) (ws : Lasts T x.0 x.3) → Holds z ws → ent 𝓤 (emp 𝓤) (Says z ws)) where
      abbrev Ends : Val → (res_t r x.0).Denot → Lasts T x.0 x.3 → SProp 𝓤
      Ends v z ws = sep 𝓤 (sep 𝓤 (Left v z ws) (Says z ws)) (Fits ws)

      leaves : (v : Val) → ent 𝓤 ((plain_of 𝓛 n ps r P Q).post (x, tt) v) ((walk_of 𝓛 T (stays ps) written).post (x, tt) v)
      leaves v = 𝓛.laws.⇛_mono _ _ (ex_e 𝓤 _ (λ z. ex_e 𝓤 _ (λ ws.
          via 𝓤 (Ends v z ws) (mono_l 𝓤 (Fits ws) (mono_r 𝓤 (Left v z ws) (guard_e 𝓤 (Holds z ws) (emp 𝓤) (told z ws))))
          (via 𝓤 (ex 𝓤 (Ends v z)) (ex_i 𝓤 (Ends v z) ws) (ex_i 𝓤 (λ (z' : (res_t r x.0).Denot). ex 𝓤 (Ends v z')) z)))))

      pub met_at : ent 𝓤 (Rq x.0 x.3) (fact 𝓤 (P x.0 x.3)) → ((vs : List Val) → Mono 𝓤 (run vs))
          → ent 𝓤 ((plain_of 𝓛 n ps r P Q).pre (x, tt)) (run ((plain_of 𝓛 n ps r P Q).args (x, tt)) ((plain_of 𝓛 n ps r P Q).post (x, tt)))
          → ent 𝓤 (stated.pre (x, tt)) (run (stated.args (x, tt)) (stated.post (x, tt)))
      met_at asked mono met = walk_meets_at 𝓛 T (stays ps) (go_p 𝓛 ps) written run mono (x, tt)
          (via 𝓤 ((plain_of 𝓛 n ps r P Q).pre (x, tt)) (mono_r 𝓤 On asked)
          (via 𝓤 (run (passed 𝓛 T.signature x) ((plain_of 𝓛 n ps r P Q).post (x, tt))) met
          (mono (passed 𝓛 T.signature x) ((plain_of 𝓛 n ps r P Q).post (x, tt)) ((walk_of 𝓛 T (stays ps) written).post (x, tt)) leaves)))

  pub knows : (P : In n ps) (Q : Out n ps r) (run : Fun 𝓤) → ((κs : Lfts n) (a : Dens κs ps) (z : (res_t r κs).Denot) (e : AtExit T κs) → ent 𝓤 (En κs a z e) (fact 𝓤 (Q κs a z e)))
      → ((κs : Lfts n) (a : Dens κs ps) → P κs a → ent 𝓤 (emp 𝓤) (Rq κs a)) → FmF 𝓤 run → Triple 𝓤 run stated → Triple 𝓤 run (known_of 𝓛 n ps r P Q)
  knows P Q run says asks fm met y = known_at P Q y.0 run (λ z ws. says y.0.0 y.0.3 z (at_exit T y.0.0 y.0.3 ws)) (asks y.0.0 y.0.3) fm (λ _. met y)
