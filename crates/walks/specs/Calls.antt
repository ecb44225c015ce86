-- A call as one step, for any callee: what it is passed is a list of parameters (`Params`), whose borrows stand at the head of the context, in order. The
-- operands are read in the context as it stands.
--     Given-back       what a callee's triple says once it has returned v: the tokens, the result, and its `ensures` as a fact of the result and of what is
--         bound for the parameters.
--     to ps            what its triple binds.
--     calls_by         the call. The caller shows that the callee's `pre` is what it is passed beside a fact, and that its `post` is `Given-back`, both by
--         computation (`id⊢`)
--     calls-one        the same, of a callee whose triple is known at one choice of arguments alone, as that of a member of a cycle is
-- Assumes `Logic`, and that the table of calls is monotone under a frame.
use Rattle.std.specs.Prelude.{◌≡◌, refl, ℕ, zero, suc, List, [], ◌∷◌, ◌++◌}
use Rattle.std.proofs.Common.{ap, subst}
use seplogic.Ra.Ura.{Ura}
use mir.Syntax.{Callee, Place, Opd as Operand, Body, seq, call}
use mir.Val.{Val}
use base.Logic.{SProp, ent, sep, ex, emp, via, mono_l, mono_r, assoc∗, assoc', comm∗, emp∗}
use prog.Wp.{Env, Calls, Loops, eval_opds}
use types.Logic.{Logic, sem}
use contract.Monad.{fact, fact_i}
use sound.WpLaws.{FmC}
use types.Kit.{Item, ‵, raw, ◌⊛◌, some, later, given, mean, ⋆, ++⊢, push, pop, Post, Goal, aim, runs, lands, Seq, Step, step, ◌$◌, by, move, use3, split, pick, learn, regoal, await}
use types.Run.{Opds}
use contract.Lifetimes.{Lfts, Shares}
use denote.RattleType.{RattleType, Denots, Valss}
use denote.Laws.{Is, shows}
use denote.Steps.{only, facts, heard}
use denote.Triple.Statement.{Contract, Triple}
use Rattle.walks.specs.Data.{Datum, Good}
use Rattle.walks.specs.Params.{Par, rows, denots, valss, lfts, shares, count, Bounds, lasts, kepts, Sames, ins, outs, Goods, alive, owning, passes, returns}

-- what a callee's triple binds, where its contract has no ghost variable and no lifetime is said to outlive another
abbrev pub to : (ps : List Par) → (Lfts (count ps) × Shares (count ps) × Unit {0} × Denots (rows 0 ps) × Valss (rows 0 ps)) × Unit {0}
to ps = ((lfts ps, shares ps, tt, denots 0 ps, valss 0 ps), tt)

module _ {M : Type 1} {𝓤 : Ura M} (𝓛 : Logic 𝓤) (ps : List Par) (R : RattleType) (ψ : R.Denot → Bounds 0 ps → Type 0) where
  open 𝓛 use {H}

  abbrev pub Given-back : Val → SProp 𝓤
  Given-back v = H.⇛ (ex 𝓤 (λ (r : R.Denot). sep 𝓤 (sep 𝓤 (alive 𝓛 ps) (sem 𝓛 (R.own_val r (v ∷ []))))
      (ex 𝓤 (λ (ws : Bounds 0 ps). sep 𝓤 (sem 𝓛 (lasts 0 ps ws)) (fact 𝓤 (ψ r ws))))))

  abbrev back : Val → Item 𝓤
  back v = later (some (λ (r : R.Denot). (raw (alive 𝓛 ps) ⊛ ‵ (R.own_val r (v ∷ []))) ⊛ some (λ (ws : Bounds 0 ps). ‵ (lasts 0 ps ws) ⊛ raw
      (fact 𝓤 (ψ r ws)))))

module _ {M : Type 1} {𝓤 : Ura M} {𝓛 : Logic 𝓤} {K : Type 0} {Γ : List (Item 𝓤)} {G : Goal 𝓤 𝓛.H} where
  -- a star of entries at the head, taken apart
  pub spread : K → (Δ : List (Item 𝓤)) → Step K 𝓛 (Δ ++ Γ) G (raw (⋆ 𝓛 Δ) ∷ Γ) G
  spread t Δ = step (λ s. by t (via 𝓤 (sep 𝓤 (⋆ 𝓛 Δ) (⋆ 𝓛 Γ)) (pop 𝓛 (raw (⋆ 𝓛 Δ)) Γ) (via 𝓤 (⋆ 𝓛 (Δ ++ Γ)) (++⊢ 𝓛 Δ Γ) s.prf)))

-- the first entries, and the others
module _ {M : Type 1} {𝓤 : Ura M} where
  abbrev pub head : ℕ → List (Item 𝓤) → List (Item 𝓤)
  head zero Γ = []
  head (suc n) [] = []
  head (suc n) (i ∷ Γ) = i ∷ head n Γ

  abbrev pub tail : ℕ → List (Item 𝓤) → List (Item 𝓤)
  tail zero Γ = Γ
  tail (suc n) [] = []
  tail (suc n) (i ∷ Γ) = tail n Γ

module _ {M : Type 1} {𝓤 : Ura M} (𝓛 : Logic 𝓤) where
  pub cut_at : (n : ℕ) (Γ : List (Item 𝓤)) → ent 𝓤 (⋆ 𝓛 Γ) (sep 𝓤 (⋆ 𝓛 (head n Γ)) (⋆ 𝓛 (tail n Γ)))
  cut_at zero Γ = emp∗ 𝓤 (⋆ 𝓛 Γ)
  cut_at (suc n) [] = emp∗ 𝓤 (emp 𝓤)
  cut_at (suc n) (i ∷ Γ) =
      via 𝓤 (sep 𝓤 (mean 𝓛 i) (⋆ 𝓛 Γ)) (pop 𝓛 i Γ)
      (via 𝓤 (sep 𝓤 (mean 𝓛 i) (sep 𝓤 (⋆ 𝓛 (head n Γ)) (⋆ 𝓛 (tail n Γ)))) (mono_r 𝓤 (mean 𝓛 i) (cut_at n Γ))
      (via 𝓤 (sep 𝓤 (sep 𝓤 (mean 𝓛 i) (⋆ 𝓛 (head n Γ))) (⋆ 𝓛 (tail n Γ))) (assoc' 𝓤 (mean 𝓛 i) (⋆ 𝓛 (head n Γ)) (⋆ 𝓛 (tail n Γ)))
      (mono_l 𝓤 (⋆ 𝓛 (tail n Γ)) (push 𝓛 i (head n Γ)))))

module _ {M : Type 1} {𝓤 : Ura M} {𝓛 : Logic 𝓤} {K : Type 0} {Γ : List
    (Item 𝓤)} {E : Env 𝓤 𝓛.H} {C : Calls 𝓤 𝓛.H} {Λ : Loops 𝓤 𝓛.H} {q : Post 𝓤 𝓛.H} {d : Place} {rest : Body} where
  after : K → (ps : List Par) (D : Datum) (ψ : D.type.Denot → Bounds 0 ps → Type 0) (v : Val)
      → ((r : D.type.Denot) (ws : Bounds 0 ps) → Good D r → ψ r ws → Sames 0 ps ws → Seq K 𝓛 (outs 𝓤 0 ps ws ++ Γ) (lands C Λ E d (D.val r) rest q))
      → Seq K 𝓛 (back 𝓛 ps D.type ψ v ∷ ‵ (kepts ps) ∷ Γ) (lands C Λ E d v rest q)
  after t ps D ψ v k =
      await t tt $ pick t (λ r. split t $ move t (1 ∷ []) $ pick t (λ ws. split t $ move t (1 ∷ []) $ heard t (ψ r ws) (λ p. move t (1 ∷ []) $ split t $
      move t (1 ∷ []) $ facts t D.type (Is D.type) (shows 𝓛 D.type) r (v ∷ []) (λ is.
      -- [the tokens; the last values; what was kept]
      use3 𝓛 (given (Sames 0 ps ws) (raw (⋆ 𝓛 (outs 𝓤 0 ps ws)))) (returns 𝓛 0 ps ws) $ learn t (λ same. spread t (outs 𝓤 0 ps ws) $
      regoal t (λ (u : Val). lands C Λ E d u rest q) (ap only (D.tells r (v ∷ []) is)) refl $
      k r ws (subst (Is D.type r) (D.tells r (v ∷ []) is) is) p same)))))

module _ {M : Type 1} {𝓤 : Ura M} {𝓛 : Logic 𝓤} {K : Type 0} {Γ : List
    (Item 𝓤)} {E : Env 𝓤 𝓛.H} {C : Calls 𝓤 𝓛.H} {Λ : Loops 𝓤 𝓛.H} {q : Post 𝓤 𝓛.H} {d : Place} {rest : Body} where
  -- by one instance of the callee's contract, as a member of a cycle has it
  open 𝓛 use {H}

  pub calls-one : K → {f : Callee} {xs : List Operand} → FmC 𝓤 H 𝓛.laws C → (c : Contract 𝓤) (x : c.Ghost) → ent 𝓤 (c.pre x) (C f (c.args x) (c.post x))
      → (ps : List Par)
      → head (count ps) Γ ≡ ins 𝓤 ps → Goods ps → (φ : Type 0) → φ
      → ent 𝓤 (sep 𝓤 (sep 𝓤 (alive 𝓛 ps) (owning 𝓛 0 ps)) (fact 𝓤 φ)) (c.pre x)
      → (D : Datum) (ψ : D.type.Denot → Bounds 0 ps → Type 0) → ((v : Val) → ent 𝓤 (c.post x v) (Given-back 𝓛 ps D.type ψ v))
      → Opds K 𝓛 Γ E xs (c.args x)
      → ((r : D.type.Denot) (ws : Bounds 0 ps) → Good D r → ψ r ws → Sames 0 ps ws → Seq K 𝓛 (outs 𝓤 0 ps ws ++ tail (count ps) Γ)
      (lands C Λ E d (D.val r) rest q))
      → Seq K 𝓛 Γ (runs C Λ E (seq (call f xs d) rest) q)
  calls-one t {f} {xs} fm c x known ps stand goods φ p pre D ψ post os k = record {
    prf = via 𝓤 (eval_opds 𝓤 H E xs (λ us. C f us onward)) (os.go (λ us. C f us onward)
        (via 𝓤 (sep 𝓤 (⋆ 𝓛 (ins 𝓤 ps)) Rest) (subst (λ (Δ : List (Item 𝓤)). ent 𝓤 (⋆ 𝓛 Γ) (sep 𝓤 (⋆ 𝓛 Δ) Rest)) stand (cut_at 𝓛 (count ps) Γ))
        (via 𝓤 (sep 𝓤 (sep 𝓤 asks Kp) Rest) (mono_l 𝓤 Rest (passes 𝓛 0 ps goods))
        (via 𝓤 (sep 𝓤 asks (sep 𝓤 Kp Rest)) (assoc∗ 𝓤 asks Kp Rest)
        (via 𝓤 (sep 𝓤 (C f (c.args x) (c.post x)) (sep 𝓤 Kp Rest)) (mono_l 𝓤 (sep 𝓤 Kp Rest) (via 𝓤 (c.pre x) (via 𝓤 (sep 𝓤 asks (fact 𝓤 φ)) with_fact pre)
        known))
        (fm f (c.args x) (c.post x) onward (sep 𝓤 Kp Rest) (λ v.
        via 𝓤 (sep 𝓤 (Given-back 𝓛 ps D.type ψ v) (sep 𝓤 Kp Rest)) (mono_l 𝓤 (sep 𝓤 Kp Rest) (post v))
        (via 𝓤 (⋆ 𝓛 (back 𝓛 ps D.type ψ v ∷ ‵ (kepts ps) ∷ tail (count ps) Γ)) (mono_r 𝓤 (Given-back 𝓛 ps D.type ψ v)
        (push 𝓛 (‵ (kepts ps))
        (tail (count ps) Γ))) (after t ps D ψ v k).prf))))))))
        (𝓛.laws.⇛_intro (eval_opds 𝓤 H E xs (λ us. C f us onward)));
  }
    where
      onward : Val → SProp 𝓤
      onward v = aim 𝓤 H (lands C Λ E d v rest q)

      asks : SProp 𝓤
      asks = sep 𝓤 (alive 𝓛 ps) (owning 𝓛 0 ps)

      Kp : SProp 𝓤
      Kp = sem 𝓛 (kepts ps)

      Rest : SProp 𝓤
      Rest = ⋆ 𝓛 (tail (count ps) Γ)

      with_fact : ent 𝓤 asks (sep 𝓤 asks (fact 𝓤 φ))
      with_fact = via 𝓤 (sep 𝓤 (emp 𝓤) asks) (emp∗ 𝓤 asks) (via 𝓤 (sep 𝓤 (fact 𝓤 φ) asks) (mono_l 𝓤 asks (fact_i 𝓤 φ (emp 𝓤) p)) (comm∗ 𝓤 (fact 𝓤 φ) asks))

  pub calls_by : K → {f : Callee} {xs : List Operand} → FmC 𝓤 H 𝓛.laws C → (c : Contract 𝓤) → Triple 𝓤 (C f) c → (x : c.Ghost) (ps : List Par)
      → head (count ps) Γ ≡ ins 𝓤 ps → Goods ps → (φ : Type 0) → φ
      → ent 𝓤 (sep 𝓤 (sep 𝓤 (alive 𝓛 ps) (owning 𝓛 0 ps)) (fact 𝓤 φ)) (c.pre x)
      → (D : Datum) (ψ : D.type.Denot → Bounds 0 ps → Type 0) → ((v : Val) → ent 𝓤 (c.post x v) (Given-back 𝓛 ps D.type ψ v))
      → Opds K 𝓛 Γ E xs (c.args x)
      → ((r : D.type.Denot) (ws : Bounds 0 ps) → Good D r → ψ r ws → Sames 0 ps ws → Seq K 𝓛 (outs 𝓤 0 ps ws ++ tail (count ps) Γ)
      (lands C Λ E d (D.val r) rest q))
      → Seq K 𝓛 Γ (runs C Λ E (seq (call f xs d) rest) q)
  calls_by t fm c known x = calls-one t fm c x (known x)
