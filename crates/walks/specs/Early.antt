-- A `return` in an arm (`ends-early`), and what a branch says of its test (`told`, `untold`, `not_equal`, `not-below`). `ends-early` assumes `Logic`.
use Rattle.std.specs.Prelude.{ℕ, ◌<◌, Bool, true, false, not, List, ◌≡◌, refl, T, eqb, ltb}
use Rattle.std.proofs.Math.Option.{Option, some}
use Rattle.std.proofs.Common.{subst, eq-eqb, T_not, lt→ltb}
use seplogic.Ra.Ura.{Ura}
use mir.Syntax.{Ty, return}
use mir.Val.{Val}
use base.Logic.{SProp}
use prog.Wp.{Calls, Loops, at_return, returns as returned}
use types.Logic.{Logic}
use types.Kit.{Item, nth, del, Post, post, prop, runs, Step, step, ◌$◌}
use types.Run.{returns_within}
use Rattle.walks.specs.Frames.{env_at, get, Among, fr, frees_all}
use Rattle.walks.specs.Locals.{at_local}

module _ {M : Type 1} {𝓤 : Ura M} {𝓛 : Logic 𝓤} {K : Type 0} {Γ : List (Item 𝓤)} {τs : List Ty} {β : ℕ
    → ℕ} {vs : List (Option Val)} where
  open 𝓛 use {H}

  pub ends-early : K → (n : ℕ) {C : Calls 𝓤 H} {Λ : Loops 𝓤 H} {q : Post 𝓤 H} (Kf : Val → SProp 𝓤) {r : Val}
      → post 𝓤 H q returned ≡ at_return 𝓤 H (env_at τs β) Kf returned → nth 𝓛 n Γ ≡ fr 𝓤 H τs β vs → get vs 0 ≡ some r → Among τs 0
      → Step K 𝓛 (del 𝓛 n Γ) (prop (Kf r)) Γ (runs C Λ (env_at τs β) return q)
  ends-early t n Kf same e g a = step (λ s. returns_within t Kf same (at_local t n 0 e g a) $ frees_all t n e $ s)

pub told : (b : Bool) → T b → b ≡ true
told true t = refl
told false t = absurd t

pub untold : (b : Bool) → T (not b) → b ≡ false
untold true t = absurd t
untold false t = refl

pub not_equal : (a b : ℕ) → T (not (eqb a b)) → a ≡ b → ⊥
not_equal a b n e = subst (λ (x : Bool). T (not x)) (eq-eqb a b e) n

pub not-below : (a b : ℕ) → T (not (ltb a b)) → a < b → ⊥
not-below a b n l = T_not (ltb a b) n (lt→ltb a b l)
