-- Laws for the walks of functions that borrow for reading alone, whatever their types. What such a function is lent can be let go at its
-- end, so nothing is kept of the parameters.
--     loc n f i        where local i stands in the context, if n is the last local's number and f entries stand in front of the locals
--     var, part        an operand that is a local, or the k-th field of a local that is a struct
--     into, lands-in   a value, or what a call returned, is put into a local that holds nothing yet
--     gone             a local is freed at the end
--     contract_of       a function's contract.        Walked     a walk from the parameters' machine values
--     calls-fn         a call. `φ` is what the callee's `ensures` says; then the result stands in front, and the lifetimes' tokens after it
--     ends-fn          the end of a walk: what is left to show is the tokens and the result
--     known            a function that is called meets its contract.        proved-by   a function does by its walk
-- Assumes nothing.
use Prim.Native.Nat.{ℕ, zero, ◌+◌, ◌-◌, ◌*◌}
use mathlib.Core.Path.{◌≡◌, refl, sym, subst}
use mathlib.Core.List.{List, [], ◌∷◌}
use mathlib.Core.Option.{some as found}
use seplogic.Ra.Ura.{Ura}
use base.Fraction.{full_share}
use lib.Dec.{T as Holds}
use mir.Syntax.{Sym, Callee, Fn, Rv as RValue, Ty, Tys, Opd as Operand, Place, Body, ty_struct, field, copy, place, assign, seq, call}
use mir.Val.{Val, Vals, vstruct, WT, has_ty}
use mir.Fields.{get_v, set_v}
use base.Logic.{SProp, ent, sep, wand, via, mono_l, mono_r, assoc', comm∗, wand_i, apply∗, id⊢}
use base.Fml.{Fml, Share, fat, froom, fdies}
use prog.Memory.{field_at, field_of}
use prog.Model.{Model}
use prog.Routine.{Routine, Env as Routines}
use prog.Wp.{Env, Calls, Loops, WpFn, Closed, spot_of}
use types.Logic.{Logic, sem}
use contract.Lifetimes.{Lfts, Shares, AllOutlive}
use contract.Monad.{Fun, fact}
use contract.Running.{Running, tables, tables_of}
use sound.WpLaws.{FmC, fm_of}
use types.Kit.{Item, ‵, raw, ◌⊛◌, some, later, mean, ⋆, nth, del, put, pull, Post, Goal, runs, lands, frees, Seq, Step, step}
use types.Kit.{◌$◌, ◌∵◌, !, qed, move, use1, split, rewrite, pick, drop, frame, suffices, await, updating, now as at_once, show, done}
use types.Part.{Part, whole, sub, look_in}
use types.Run.{Opd, Opds, Rv, assigns, init, land, look, load, from, stop, fld}
use denote.RattleType.{RattleType, flat}
use denote.Laws.{Is, Are, Ises, Spells, valss, Tellss, shows}
use denote.Shadow.{shadow, Pure, pure_i}
use denote.Signature.{type_at, types_at}
use denote.Steps.{said, peeks, heard}
use denote.Triple.Call.{calls_at}
use denote.Triple.Clauses.{Clauses, Ended, Lasts, at_exit, lasts, ensured, closing}
use denote.Triple.Entry.{Args, Vals as Values, Res, alive, on_entry}
use denote.Triple.Spec.{Back, triple_of}
use denote.Triple.Statement.{Contract, Triple}
use denote.Triple.Table.{entered, cited}
use denote.Triple.Walked.{says}

abbrev pub loc : ℕ → ℕ → ℕ → ℕ
loc n f i = f + 2 * (n - i)

module _ {M : Type 1} {𝓤 : Ura M} (𝓛 : Logic 𝓤) (Γ : List (Item 𝓤)) (n : ℕ) where
  -- what is left without the two entries from n on, which are a local's
  abbrev left : List (Item 𝓤)
  left = del 𝓛 n (del 𝓛 n Γ)

  taken : (i j : Item 𝓤) → nth 𝓛 n Γ ≡ i → nth 𝓛 n (del 𝓛 n Γ) ≡ j
      → ent 𝓤 (⋆ 𝓛 Γ) (sep 𝓤 (mean 𝓛 i) (sep 𝓤 (mean 𝓛 j) (⋆ 𝓛 left)))
  taken i j e d =
      via 𝓤 (sep 𝓤 (mean 𝓛 i) (⋆ 𝓛 (del 𝓛 n Γ)))
      (subst (λ (k : Item 𝓤). ent 𝓤 (⋆ 𝓛 Γ) (sep 𝓤 (mean 𝓛 k) (⋆ 𝓛 (del 𝓛 n Γ)))) e (pull 𝓛 n Γ))
      (mono_r 𝓤 (mean 𝓛 i)
      (subst (λ (k : Item 𝓤). ent 𝓤 (⋆ 𝓛 (del 𝓛 n Γ)) (sep 𝓤 (mean 𝓛 k) (⋆ 𝓛 left))) d (pull 𝓛 n (del 𝓛 n Γ))))

module _ {M : Type 1} {𝓤 : Ura M} {𝓛 : Logic 𝓤} {K : Type 0} {Γ : List (Item 𝓤)} where
  open 𝓛 use {H}

  pub var : K → {E : Env 𝓤 H} {i : ℕ} (n : ℕ) {q : Share} {v : Val}
      → nth 𝓛 n Γ ≡ ‵ (fat q (spot_of 𝓤 H E i).0 (spot_of 𝓤 H E i).1 zero v) → Opd K 𝓛 Γ E (copy (place i [])) v
  var t n e = load t (from t (stop t)) (look t n e)

  pub part : K → {E : Env 𝓤 H} {i : ℕ} (n k : ℕ) {q : Share} {ν : Sym} {τs : Tys} {vs : Vals} {τ : Ty} {d : ℕ}
      → nth 𝓛 n Γ ≡ ‵ (fat q (ty_struct ν τs) (spot_of 𝓤 H E i).1 zero (vstruct vs))
      → field_at zero τs k ≡ found (τ, d) → field_of (spot_of 𝓤 H E i).0 k ≡ found (τ, d)
      → Opd K 𝓛 Γ E (copy (place i (field k ∷ []))) (get_v vs k)
  part t {E} {i} n k {q} {ν} {τs} {vs} {τ} {d} e g f =
      load t (from t (fld t f (stop t)))
      (look_in t n (subst (λ (j : Item 𝓤). Part K 𝓛 j q τ (spot_of 𝓤 H E i).1 (zero + d) (get_v vs k)
      (λ u. ‵ (fat q (ty_struct ν τs) (spot_of 𝓤 H E i).1 zero (vstruct (set_v vs k u))))) (sym e) (sub t k g (whole t))))

  pub into : K → {E : Env 𝓤 H} {C : Calls 𝓤 H} {Λ : Loops 𝓤 H} {q : Post 𝓤 H} {i : ℕ} {rv : RValue} {rest : Body} {v : Val}
      → Rv K 𝓛 Γ E rv v → (n : ℕ) → nth 𝓛 n Γ ≡ ‵ (froom (spot_of 𝓤 H E i).0 (spot_of 𝓤 H E i).1 zero)
      → Holds (has_ty (spot_of 𝓤 H E i).0 v) × WT v
      → Step K 𝓛 (put 𝓛 n (‵ (fat full_share (spot_of 𝓤 H E i).0 (spot_of 𝓤 H E i).1 zero v)) Γ) (runs C Λ E rest q)
      Γ (runs C Λ E (seq (assign (place i []) rv) rest) q)
  into t r n e wt = assigns t r (from t (stop t)) (init t n e wt)

  pub lands-in : K → {E : Env 𝓤 H} {C : Calls 𝓤 H} {Λ : Loops 𝓤 H} {q : Post 𝓤 H} {i : ℕ} {rest : Body} {v : Val}
      (n : ℕ) → nth 𝓛 n Γ ≡ ‵ (froom (spot_of 𝓤 H E i).0 (spot_of 𝓤 H E i).1 zero)
      → Holds (has_ty (spot_of 𝓤 H E i).0 v) × WT v
      → Step K 𝓛 (put 𝓛 n (‵ (fat full_share (spot_of 𝓤 H E i).0 (spot_of 𝓤 H E i).1 zero v)) Γ) (runs C Λ E rest q)
      Γ (lands C Λ E (place i []) v rest q)
  lands-in t n e wt = land t (from t (stop t)) (init t n e wt)

  pub gone : K → (n : ℕ) {τ : Ty} {b : ℕ} {v : Val} {E : Env 𝓤 H} {g : Goal 𝓤 H}
      → nth 𝓛 n Γ ≡ ‵ (fat full_share τ b zero v) → nth 𝓛 n (del 𝓛 n Γ) ≡ ‵ (fdies τ b)
      → Step K 𝓛 (del 𝓛 n (del 𝓛 n Γ)) (frees E g) Γ (frees ((τ, b) ∷ E) g)
  gone t n {τ} {b} {v} {E} {g} e d =
      let R : SProp 𝓤 = ⋆ 𝓛 (del 𝓛 n (del 𝓛 n Γ)) in
      step (λ s. record {
        prf = via 𝓤 (sep 𝓤 (H.at full_share τ b zero v) (sep 𝓤 (H.dies τ b) R)) (taken 𝓛 Γ n (‵ (fat full_share τ b zero v)) (‵ (fdies τ b)) e d)
            (via 𝓤 (sep 𝓤 (H.room τ b zero) (sep 𝓤 (H.dies τ b) R)) (mono_l 𝓤 (sep 𝓤 (H.dies τ b) R) (𝓛.laws.at_room τ b zero v))
            (via 𝓤 (sep 𝓤 (sep 𝓤 (H.room τ b zero) (H.dies τ b)) R) (assoc' 𝓤 (H.room τ b zero) (H.dies τ b) R)
            (mono_r 𝓤 (sep 𝓤 (H.room τ b zero) (H.dies τ b)) s.prf)));
      })

-- the types of a function's parameters
abbrev rows : (T : Ended) → Lfts T.signature.lifetimes → List RattleType
rows T κs = types_at T.signature.params κs

-- the machine values of its arguments, and that the parameters' types tell them
abbrev Spelled : Ended → Type 0
Spelled T = (κs : Lfts T.signature.lifetimes) → Spells (rows T κs)

abbrev Told : (T : Ended) → Spelled T → Type 0
Told T sp = (κs : Lfts T.signature.lifetimes) → Tellss (rows T κs) (Ises (rows T κs)) (sp κs)

module _ {M : Type 1} {𝓤 : Ura M} (𝓛 : Logic 𝓤) (T : Ended) (c : Clauses 𝓤 T) where
  abbrev pub contract_of : Contract 𝓤
  contract_of = triple_of 𝓛 T.signature (closing 𝓛 T c)

  abbrev pub Walked : Fun 𝓤 → Spelled T → Type 1
  Walked run sp = (κs : Lfts T.signature.lifetimes) (qs : Shares T.signature.lifetimes)
      (bounds : AllOutlive T.signature.lifetimes T.signature.outlives κs) (a : Args T.signature κs) (g : (c κs a).ghost)
      → Are (rows T κs) (Ises (rows T κs)) a (valss (rows T κs) (sp κs) a)
      → ent 𝓤 (sep 𝓤 (on_entry 𝓛 T.signature κs qs a (valss (rows T κs) (sp κs) a)) ((c κs a).requires g))
      (run (flat (rows T κs) (valss (rows T κs) (sp κs) a)) (contract_of.post ((κs, qs, bounds, a, valss (rows T κs) (sp κs) a), g)))

  meets : (run : Fun 𝓤) (sp : Spelled T) → Told T sp → Walked run sp → Triple 𝓤 run contract_of
  meets run sp tl walk y =
      let κs : Lfts T.signature.lifetimes = y.0.0 in
      let R : SProp 𝓤 = (c κs y.0.3).requires y.1 in
      let Q : Values T.signature κs → SProp 𝓤 = λ us. run (flat (rows T κs) us) (contract_of.post ((κs, y.0.1, y.0.2, y.0.3, us), y.1)) in
      via 𝓤 (sep 𝓤 R (wand 𝓤 R (Q y.0.4)))
      (via 𝓤 (sep 𝓤 (wand 𝓤 R (Q y.0.4)) R)
      (mono_l 𝓤 R (said 𝓛 T.signature κs y.0.1 (sp κs) (tl κs) y.0.3 (λ us. wand 𝓤 R (Q us)) y.0.4
      (λ are. wand_i 𝓤 _ R _ (walk κs y.0.1 y.0.2 y.0.3 y.1 are))))
      (comm∗ 𝓤 (wand 𝓤 R (Q y.0.4)) R))
      (apply∗ 𝓤 R (Q y.0.4))

  module _ (y : contract_of.Ghost) where
    abbrev κs : Lfts T.signature.lifetimes
    κs = y.0.0

    -- what is bound for the parameters' last values, what is said of that, and what the `ensures` then says
    abbrev Bound : Type 0
    Bound = Lasts T κs y.0.3

    abbrev Last : Bound → Fml
    Last ws = lasts T κs y.0.3 ws

    abbrev Ensures : Res T.signature κs → Bound → SProp 𝓤
    Ensures r ws = (c κs y.0.3).ensures y.1 r (at_exit T κs y.0.3 ws)

    abbrev Result : Res T.signature κs → Val → Fml
    Result r v = (type_at T.signature.result κs).own_val r (v ∷ [])

    abbrev tokens : SProp 𝓤
    tokens = alive 𝓛 T.signature κs y.0.1

    module _ (v : Val) (r : Res T.signature κs) (ws : Bound) where
      pub ends-fn : Pure (Last ws) → shadow (Last ws) → (φ : Type 0) → Ensures r ws ≡ fact 𝓤 φ → φ
          → ent 𝓤 (Back 𝓛 T.signature y.0 v r) (contract_of.post y v)
      ends-fn p s φ e x =
          qed 𝓛 (raw (Back 𝓛 T.signature y.0 v r) ∷ []) ∵ updating ! $ at_once ! $
          show ! (λ (r' : Res T.signature κs). sep 𝓤 (Back 𝓛 T.signature y.0 v r') (ensured 𝓛 T c κs y.0.3 y.1 r')) r $
          frame ! $ show ! (λ (us : Bound). sep 𝓤 (sem 𝓛 (Last us)) (Ensures r us)) ws $
          suffices ! (sep 𝓤 (sem 𝓛 (Last ws)) (fact 𝓤 φ))
          (subst (λ (P : SProp 𝓤). ent 𝓤 (sep 𝓤 (sem 𝓛 (Last ws)) (fact 𝓤 φ)) (sep 𝓤 (sem 𝓛 (Last ws)) P)) (sym e) (id⊢ 𝓤 _)) $
          says ! x $ pure_i ! (Last ws) p s $ done !

module _ {M : Type 1} {𝓤 : Ura M} {𝓛 : Logic 𝓤} {K : Type 0} {Γ : List (Item 𝓤)} {E : Env 𝓤 𝓛.H} {C : Calls 𝓤 𝓛.H}
    {f : Callee} {xs : List Operand} {Λ : Loops 𝓤 𝓛.H} {q : Post 𝓤 𝓛.H} {d : Place} {rest : Body} where
  open 𝓛 use {H}

  pub calls-fn : K → FmC 𝓤 H 𝓛.laws C → (T : Ended) (c : Clauses 𝓤 T) → Triple 𝓤 (C f) (contract_of 𝓛 T c)
      → (y : (contract_of 𝓛 T c).Ghost) (φ : Res T.signature y.0.0 → Type 0)
      → ((r : Res T.signature y.0.0) (ws : Bound 𝓛 T c y) → Ensures 𝓛 T c y r ws ≡ fact 𝓤 (φ r))
      → Opds K 𝓛 (raw ((contract_of 𝓛 T c).pre y) ∷ Γ) E xs ((contract_of 𝓛 T c).args y)
      → ((v : Val) (r : Res T.signature y.0.0) → φ r → Is (type_at T.signature.result y.0.0) r (v ∷ [])
      → Seq K 𝓛 (‵ (Result 𝓛 T c y r v) ∷ raw (tokens 𝓛 T c y) ∷ Γ) (lands C Λ E d v rest q))
      → Seq K 𝓛 (raw ((contract_of 𝓛 T c).pre y) ∷ Γ) (runs C Λ E (seq (call f xs d) rest) q)
  calls-fn t fm T c met y φ says-φ os k = calls_at t fm (contract_of 𝓛 T c) met y os (λ v.
      use1 𝓛 (later (some (λ (r : Res T.signature y.0.0). (raw (tokens 𝓛 T c y) ⊛ ‵ (Result 𝓛 T c y r v))
      ⊛ some (λ (ws : Bound 𝓛 T c y). ‵ (Last 𝓛 T c y ws) ⊛ raw (Ensures 𝓛 T c y r ws))))) (id⊢ 𝓤 _) $
      await t tt $ pick t (λ r. split t $ move t (1 ∷ []) $ pick t (λ ws. split t $ drop t $
      rewrite t 0 (λ (P : SProp 𝓤). raw P) (says-φ r ws) refl $ heard t (φ r) (λ x. split t $ move t (1 ∷ []) $
      peeks t (type_at T.signature.result y.0.0) (Is (type_at T.signature.result y.0.0))
      (shows 𝓛 (type_at T.signature.result y.0.0)) r (v ∷ []) (λ is. k v r x is)))))

module _ {M : Type 1} {𝓤 : Ura M} (𝓛 : Logic 𝓤) (𝓜 : Model 𝓤 𝓛.H) (𝓡 : Running 𝓤 𝓛.H 𝓜) (γ : Routines) where
  open 𝓛 use {H}

  abbrev pub calls_of : Calls 𝓤 H
  calls_of = (tables 𝓤 H 𝓜 𝓡 γ).C

  abbrev pub loops_of : Loops 𝓤 H
  loops_of = (tables 𝓤 H 𝓜 𝓡 γ).Λ

  pub framed : FmC 𝓤 H 𝓛.laws calls_of
  unfolding tables_of
  framed = fm_of 𝓤 H 𝓛.laws (tables_of 𝓤 H 𝓜 (tables 𝓤 H 𝓜 𝓡 γ))

  module _ (T : Ended) (c : Clauses 𝓤 T) where
    pub known : (k : Callee) (r : Routine) → γ k ≡ r → Triple 𝓤 (𝓡.run r) (contract_of 𝓛 T c) → Triple 𝓤 (calls_of k) (contract_of 𝓛 T c)
    known k r = cited 𝓤 H (contract_of 𝓛 T c) 𝓜 𝓡 γ k r

    pub proved-by : (k : Callee) (e : Fn) → Closed 𝓤 H calls_of loops_of k e → (sp : Spelled T) → Told T sp
        → Walked 𝓛 T c (WpFn 𝓤 H calls_of loops_of e) sp → Triple 𝓤 (calls_of k) (contract_of 𝓛 T c)
    proved-by k e closed sp tl walk =
        entered 𝓤 H (contract_of 𝓛 T c) calls_of loops_of k e closed (meets 𝓛 T c (WpFn 𝓤 H calls_of loops_of e) sp tl walk)
