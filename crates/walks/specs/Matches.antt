-- A `let .. else` over a frame (`Frames`). The enum is known by then at a variant, so that what its local holds is written out (`as-held`).
--     tag, held-part   the operands: the enum's tag, and a field of the variant that it is
--     hits, misses     the `switch`: the tag is a key of the first arm, which is handed the way to the code after it, or of the second
-- Assumes `Logic`.
use Rattle.std.specs.Prelude.{ℕ, zero, suc, ◌≡◌, not, List, [], ◌∷◌, T}
use Rattle.std.proofs.Common.{subst}
use Rattle.std.proofs.Math.Option.{Option, some}
use seplogic.Ra.Ura.{Ura}
use base.Fraction.{full_share}
use mir.Syntax.{Sym, Ty, Tys, Tyss, ty_int, ty_enum, w8, variant, field, Opd as Operand, copy, place, Body, seq, switch, arm, no_default}
use mir.Val.{Val, Vals, vint, has_key}
use mir.Fields.{get_v}
use prog.Memory.{field_at, field_of, variant_at, variant_of}
use prog.Wp.{Calls, Loops, Wp, after_seq, next}
use types.Logic.{Logic}
use types.Kit.{Item, nth, Post, post, any_q, prop, runs, Seq, Step, step, ◌$◌}
use types.Part.{Part, look_in}
use types.Match.{live, vrt, in_variant, look_tag}
use types.Run.{Opd, load, from, stop, fld, first, switches, hit, miss}
use Rattle.walks.specs.Frames.{env_at, get, replace, Among, type_of, block_of, fr}
use Rattle.walks.specs.Locals.{there}

module _ {M : Type 1} {𝓤 : Ura M} {𝓛 : Logic 𝓤} {K : Type 0} (Γ : List (Item 𝓤)) {τs : List Ty} {β : ℕ
    → ℕ} {vs : List (Option Val)} where
  open 𝓛 use {H}

  enum-there : K → (n i : ℕ) {ν : Sym} {τss : Tyss} {k : ℕ} {us : Vals} → nth 𝓛 n Γ ≡ fr 𝓤 H τs β vs → get vs i ≡ some (live k us) → Among τs i
      → type_of 𝓤 H τs β i ≡ ty_enum ν τss
      → Part K 𝓛 (nth 𝓛 n Γ) full_share (ty_enum ν τss) (block_of 𝓤 H τs β i) zero (live k us) (λ u. fr 𝓤 H τs β (replace vs i (some u)))
  enum-there t n i {k = k} {us} e g a q = subst (λ (τ : Ty). Part K 𝓛 (nth 𝓛 n Γ) full_share τ (block_of 𝓤 H τs β i) zero (live k us)
      (λ u. fr 𝓤 H τs β (replace vs i (some u)))) q (there Γ t n i e g a)

module _ {M : Type 1} {𝓤 : Ura M} {𝓛 : Logic 𝓤} {K : Type 0} {Γ : List (Item 𝓤)} {τs : List Ty} {β : ℕ
    → ℕ} {vs : List (Option Val)} where
  open 𝓛 use {H}

  pub tag : K → (n i : ℕ) {ν : Sym} {τss : Tyss} {k k' : ℕ} {us : Vals} {σ : Ty} → nth 𝓛 n Γ ≡ fr 𝓤 H τs β vs → get vs i ≡ some (live k us) → Among τs i
      → type_of 𝓤 H τs β i ≡ ty_enum ν τss → variant_of (type_of 𝓤 H τs β i) k' ≡ some σ → field_of σ 0 ≡ some (ty_int w8, 0)
      → Opd K 𝓛 Γ (env_at τs β) (copy (place i (variant k' ∷ field 0 ∷ []))) (vint w8 k)
  tag t n i e g a q v f = load t (from t (vrt t v (fld t f (stop t)))) (look_tag t n (enum-there Γ t n i e g a q))

  pub held-part : K → (n i k j : ℕ) {ν : Sym} {τss : Tyss} {us : Vals} {σ ρ : Ty} {ρs : Tys} {d : ℕ} → nth 𝓛 n Γ ≡ fr 𝓤 H τs β vs
      → get vs i ≡ some (live k us) → Among τs i → type_of 𝓤 H τs β i ≡ ty_enum ν τss → variant_of (type_of 𝓤 H τs β i) k ≡ some σ → field_of σ (suc j) ≡ some (ρ, d)
      → variant_at τss k ≡ some ρs → field_at 1 ρs j ≡ some (ρ, d) → Opd K 𝓛 Γ (env_at τs β) (copy (place i (variant k ∷ field (suc j) ∷ []))) (get_v us j)
  held-part t n i k j e g a q v f v' f' = load t (from t (vrt t v (fld t f (stop t)))) (look_in t n (in_variant t k j v' f' (enum-there Γ t n i e g a q)))

module _ {M : Type 1} {𝓤 : Ura M} {𝓛 : Logic 𝓤} {K : Type 0} {Γ : List (Item 𝓤)} {E : List (Ty × ℕ)} {C : Calls
    𝓤 𝓛.H} {Λ : Loops 𝓤 𝓛.H} {q : Post 𝓤 𝓛.H} {c : Operand} {ks ks' : List ℕ} {a b rest : Body} {x : ℕ} where
  open 𝓛 use {H}

  pub hits : K → Opd K 𝓛 Γ E c (vint w8 x) → T (has_key ks x) → T (not (has_key ks' x))
      → (((Δ : List (Item 𝓤)) → Step K 𝓛 Δ (runs C Λ E rest q) Δ (prop (post 𝓤 H (any_q (after_seq 𝓤 H (Wp 𝓤 H C Λ E rest (post 𝓤 H q)) (post 𝓤 H q))) next)))
      → Seq K 𝓛 Γ (runs C Λ E a (any_q (after_seq 𝓤 H (Wp 𝓤 H C Λ E rest (post 𝓤 H q)) (post 𝓤 H q)))))
      → Seq K 𝓛 Γ (runs C Λ E (seq (switch c (arm ks a (arm ks' b no_default))) rest) q)
  hits t o h m s = first t $ switches t o ((λ _. s (λ Δ. step (λ u. record { prf = u.prf }))), ((λ z. absurd (miss ks' x m z)), (λ n. absurd (n.0.1 (hit ks x h)))))

  pub misses : K → Opd K 𝓛 Γ E c (vint w8 x) → T (not (has_key ks x)) → T (has_key ks' x)
      → Seq K 𝓛 Γ (runs C Λ E b (any_q (after_seq 𝓤 H (Wp 𝓤 H C Λ E rest (post 𝓤 H q)) (post 𝓤 H q))))
      → Seq K 𝓛 Γ (runs C Λ E (seq (switch c (arm ks a (arm ks' b no_default))) rest) q)
  misses t o m h s = first t $ switches t o ((λ z. absurd (miss ks x m z)), ((λ _. s), (λ n. absurd (n.1 (hit ks' x h)))))
