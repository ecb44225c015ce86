-- Statements over a frame (`Frames`), which stands at entry n of the context. A local is written as its number.
--     var, part        the operands `x` and `x.k`.        lent, lent_slice, lent-count     the right sides of `&*x` and `&mut *x`: of a reference; of a slice
--         its pointer, and then the pointer with the count
--     at_local         local i as a place to follow.        as-value     a right side's value written another way
--     puts, puts-last  an assignment to a whole local, with code after it and as the last statement of its part.        lands    a call's result
--     puts-field       an assignment to a field of a local that is a struct
--     ends             the function returns: its result is local 0, and its locals are freed
--     forgets          what a local holds is forgotten
--     if-then          an `if` with no `else`
-- For a loop:  tests, breaks    the tests of a `while` and of an `if c { break; }`.        by_size, by-size-wf      an order on any state, by a number
-- Assumes `Logic`.
use Rattle.std.specs.Prelude.{ℕ, zero, ◌+◌, ◌<◌, ◌≡◌, refl, Bool, not, List, [], ◌∷◌, T}
use Rattle.std.proofs.Common.{sym, subst}
use Rattle.std.proofs.Math.Option.{Option, some}
use mathlib.Core.WellFounded.InvImage
use mathlib.Core.WellFounded.{WellFounded}
use lib.WfN.{lt-wf_rel}
use seplogic.Ra.Ura.{Ura}
use base.Fraction.{full_share}
use mir.Syntax.{Sym, Lifetime, Mutability, Ty, Tys, ty_int, ty_ref, ty_struct, Rv as RValue, addr_of, aggregate, assign, field, deref, Opd as Operand, copy, place, Body, seq, cond, skip, exit, return, w64}
use mir.Val.{Val, Vals, vbool, vptr, vstruct, WT, has_ty}
use mir.Fields.{get_v, set_v}
use prog.Memory.{field_at, field_of}
use prog.Wp.{Calls, Loops, Wp, after_seq, exits, next}
use base.Logic.{SProp}
use types.Logic.{Logic}
use types.Kit.{Item, nth, del, put, Post, post, any_q, at_ret, prop, runs, lands, Seq, Step, step, ◌$◌}
use types.Part.{Part, agg, sub, look_in, store_in}
use types.Run.{Reads, Opd, Rv, load, from, stop, fld, hop, addr, and_then, no_more, assigns, assigns_last, land, returns, first, branches, skips, jumps}
use denote.Slice.{slice_ty, slice_val}
use Rattle.walks.specs.Frames.{env_at, get, replace, Among, type_of, block_of, fr, cell-of, writes_local, frees_all}

-- ---- a state's order
module _ {X : Type 0} (size : X → ℕ) where
  abbrev pub by_size : X → X → Type 0
  by_size x y = size x < size y

  pub by-size-wf : WellFounded by_size
  by-size-wf = InvImage.wf size lt-wf_rel.wf

module _ {M : Type 1} {𝓤 : Ura M} {𝓛 : Logic 𝓤} {K : Type 0} (Γ : List (Item 𝓤)) {τs : List Ty} {β : ℕ
    → ℕ} {vs : List (Option Val)} where
  open 𝓛 use {H}

  pub there : K → (n i : ℕ) {v : Val} → nth 𝓛 n Γ ≡ fr 𝓤 H τs β vs → get vs i ≡ some v → Among τs i
      → Part K 𝓛 (nth 𝓛 n Γ) full_share (type_of 𝓤 H τs β i) (block_of 𝓤 H τs β i) zero v (λ u. fr 𝓤 H τs β (replace vs i (some u)))
  there t n i {v} e g a = subst (λ (j : Item 𝓤). Part K 𝓛 j full_share (type_of 𝓤 H τs β i) (block_of 𝓤 H τs β i) zero v (λ u. fr 𝓤 H τs β (replace vs i (some u))))
      (sym e) (cell-of t i g a)

  there-in : K → (n i k : ℕ) {ν : Sym} {ρs : Tys} {us : Vals} {ρ : Ty} {d : ℕ} → nth 𝓛 n Γ ≡ fr 𝓤 H τs β vs → get vs i ≡ some (vstruct us) → Among τs i
      → type_of 𝓤 H τs β i ≡ ty_struct ν ρs → field_at zero ρs k ≡ some (ρ, d)
      → Part K 𝓛 (nth 𝓛 n Γ) full_share ρ (block_of 𝓤 H τs β i) (zero + d) (get_v us k) (λ u. fr 𝓤 H τs β (replace vs i (some (vstruct (set_v us k u)))))
  there-in t n i k {ν} {ρs} {us} {ρ} {d} e g a q f =
      sub t k f (subst (λ (τ : Ty). Part K 𝓛 (nth 𝓛 n Γ) full_share τ (block_of 𝓤 H τs β i) zero (vstruct us) (λ u. fr 𝓤 H τs β (replace vs i (some u)))) q
      (there t n i e g a))

module _ {M : Type 1} {𝓤 : Ura M} {𝓛 : Logic 𝓤} {K : Type 0} {Γ : List (Item 𝓤)} {τs : List Ty} {β : ℕ
    → ℕ} {vs : List (Option Val)} where
  open 𝓛 use {H}

  pub var : K → (n i : ℕ) {v : Val} → nth 𝓛 n Γ ≡ fr 𝓤 H τs β vs → get vs i ≡ some v → Among τs i → Opd K 𝓛 Γ (env_at τs β) (copy (place i [])) v
  var t n i e g a = load t (from t (stop t)) (look_in t n (there Γ t n i e g a))

  -- local i, to follow a pointer that it holds
  pub at_local : K → (n i : ℕ) {v : Val} → nth 𝓛 n Γ ≡ fr 𝓤 H τs β vs → get vs i ≡ some v → Among τs i → Reads K 𝓛 Γ (type_of 𝓤 H τs β i)
      (block_of 𝓤 H τs β i) zero v
  at_local t n i e g a = look_in t n (there Γ t n i e g a)

  pub part : K → (n i k : ℕ) {ν : Sym} {ρs : Tys} {us : Vals} {ρ : Ty} {d : ℕ} → nth 𝓛 n Γ ≡ fr 𝓤 H τs β vs → get vs i ≡ some (vstruct us) → Among τs i
      → type_of 𝓤 H τs β i ≡ ty_struct ν ρs → field_at zero ρs k ≡ some (ρ, d)
      → field_of (type_of 𝓤 H τs β i) k ≡ some (ρ, d) → Opd K 𝓛 Γ (env_at τs β) (copy (place i (field k ∷ []))) (get_v us k)
  part t n i k e g a q f f' = load t (from t (fld t f' (stop t))) (look_in t n (there-in Γ t n i k e g a q f))

  -- `&mut *x`, where x is a reference: its pointer
  pub lent : K → (n i : ℕ) {ρ : Ty} {b o : ℕ} → nth 𝓛 n Γ ≡ fr 𝓤 H τs β vs → get vs i ≡ some (vptr b o) → Among τs i
      → Rv K 𝓛 Γ (env_at τs β) (addr_of (place i (deref ρ ∷ []))) (vptr b o)
  lent t n i e g a = addr t (from t (hop t (look_in t n (there Γ t n i e g a)) (stop t)))

  -- the same of a slice: its pointer, and then the pointer and the count
  pub lent-ptr : K → (n i : ℕ) {ρ : Ty} {ℓ : Lifetime} {u : Mutability} {σ : Ty} {b o m : ℕ} → nth 𝓛 n Γ ≡ fr 𝓤 H τs β vs
      → get vs i ≡ some (slice_val (b, o) m) → Among τs i → type_of 𝓤 H τs β i ≡ slice_ty (ty_ref ℓ u σ) → field_of (type_of 𝓤 H τs β i) 0 ≡ some (ty_ref ℓ u σ, 0)
      → Rv K 𝓛 Γ (env_at τs β) (addr_of (place i (field 0 ∷ deref ρ ∷ []))) (vptr b o)
  lent-ptr t n i e g a q f = addr t (from t (fld t f (hop t (look_in t n (there-in Γ t n i 0 e g a q refl)) (stop t))))

  pub lent_slice : K → (n i j : ℕ) {ℓ : Lifetime} {u : Mutability} {σ : Ty} {b o m : ℕ} → nth 𝓛 n Γ ≡ fr 𝓤 H τs β vs → get vs i ≡ some (slice_val (b, o) m)
      → get vs j ≡ some (vptr b o) → Among τs i → Among τs j → type_of 𝓤 H τs β i ≡ slice_ty (ty_ref ℓ u σ)
      → field_of (type_of 𝓤 H τs β i) 1 ≡ some (ty_int w64, 8)
      → Rv K 𝓛 Γ (env_at τs β) (aggregate (copy (place j []) ∷ copy (place i (field 1 ∷ [])) ∷ [])) (slice_val (b, o) m)
  lent_slice t n i j e g g' a a' q f = agg t (and_then t (var t n j e g' a') (and_then t (part t n i 1 e g a q refl f) (no_more t)))

  module _ {C : Calls 𝓤 H} {Λ : Loops 𝓤 H} {q : Post 𝓤 H} where
    pub puts : K → (n i : ℕ) {rv : RValue} {rest : Body} {v : Val} → nth 𝓛 n Γ ≡ fr 𝓤 H τs β vs → Rv K 𝓛 Γ (env_at τs β) rv v → Among τs i
        → T (has_ty (type_of 𝓤 H τs β i) v) × WT v
        → Step K 𝓛 (put 𝓛 n (fr 𝓤 H τs β (replace vs i (some v))) Γ) (runs C Λ (env_at τs β) rest q) Γ
        (runs C Λ (env_at τs β) (seq (assign (place i []) rv) rest) q)
    puts t n i e r a wt = assigns t r (from t (stop t)) (writes_local t n i e a wt)

    pub puts-field : K → (n i k : ℕ) {rv : RValue} {rest : Body} {v : Val} {ν : Sym} {ρs : Tys} {us : Vals} {ρ : Ty} {d : ℕ} → nth 𝓛 n Γ ≡ fr 𝓤 H τs β vs
        → Rv K 𝓛 Γ (env_at τs β) rv v → get vs i ≡ some (vstruct us) → Among τs i → type_of 𝓤 H τs β i ≡ ty_struct ν ρs → field_at zero ρs k ≡ some (ρ, d)
        → field_of (type_of 𝓤 H τs β i) k ≡ some (ρ, d) → T (has_ty ρ v) × WT v
        → Step K 𝓛 (put 𝓛 n (fr 𝓤 H τs β (replace vs i (some (vstruct (set_v us k v))))) Γ) (runs C Λ (env_at τs β) rest q) Γ
        (runs C Λ (env_at τs β) (seq (assign (place i (field k ∷ [])) rv) rest) q)
    puts-field t n i k e r g a q f f' wt = assigns t r (from t (fld t f' (stop t))) (store_in t n (there-in Γ t n i k e g a q f) wt)

    pub puts-last : K → (n i : ℕ) {rv : RValue} {v : Val} → nth 𝓛 n Γ ≡ fr 𝓤 H τs β vs → Rv K 𝓛 Γ (env_at τs β) rv v → Among τs i
        → T (has_ty (type_of 𝓤 H τs β i) v) × WT v
        → Step K 𝓛 (put 𝓛 n (fr 𝓤 H τs β (replace vs i (some v))) Γ) (prop (post 𝓤 H q next)) Γ (runs C Λ (env_at τs β) (assign (place i []) rv) q)
    puts-last t n i e r a wt = assigns_last t r (from t (stop t)) (writes_local t n i e a wt)

    pub lands-in : K → (n i : ℕ) {rest : Body} {v : Val} → nth 𝓛 n Γ ≡ fr 𝓤 H τs β vs → Among τs i → T (has_ty (type_of 𝓤 H τs β i) v) × WT v
        → Step K 𝓛 (put 𝓛 n (fr 𝓤 H τs β (replace vs i (some v))) Γ) (runs C Λ (env_at τs β) rest q) Γ (lands C Λ (env_at τs β) (place i []) v rest q)
    lands-in t n i e a wt = land t (from t (stop t)) (writes_local t n i e a wt)

  pub ends : K → (n : ℕ) {C : Calls 𝓤 H} {Λ : Loops 𝓤 H} {Kf : Val → SProp 𝓤} {r : Val} → nth 𝓛 n Γ ≡ fr 𝓤 H τs β vs → get vs 0 ≡ some r → Among τs 0
      → Step K 𝓛 (del 𝓛 n Γ) (prop (Kf r)) Γ (runs C Λ (env_at τs β) return (at_ret (env_at τs β) Kf))
  ends t n e g a = step (λ s. returns t (look_in t n (there Γ t n 0 e g a)) $ frees_all t n e $ s)

module _ {M : Type 1} {𝓤 : Ura M} {𝓛 : Logic 𝓤} {K : Type 0} {Γ : List (Item 𝓤)} where
  -- the value written another way
  open 𝓛 use {H}

  pub as-value : K → {E : List (Ty × ℕ)} {rv : RValue} {v v' : Val} → Rv K 𝓛 Γ E rv v → v ≡ v' → Rv K 𝓛 Γ E rv v'
  as-value t {E} {rv} r e = subst (λ (u : Val). Rv K 𝓛 Γ E rv u) e r

  pub tests : K → {E : List (Ty × ℕ)} {C : Calls 𝓤 H} {Λ : Loops 𝓤 H} {q : Post 𝓤 H} {c : Operand} {n : ℕ} {b : Body} {y : Bool} → Opd K 𝓛 Γ E c (vbool y)
      → (T y → Seq K 𝓛 Γ (runs C Λ E b q)) → (T (not y) → Seq K 𝓛 Γ (prop (post 𝓤 H q (exits n)))) → Seq K 𝓛 Γ (runs C Λ E (seq (cond c skip (exit n)) b) q)
  tests t o go out = first t $ branches t o (λ z. skips t $ record { prf = (go z).prf }) (λ z. jumps t $ record { prf = (out z).prf })

  pub breaks : K → {E : List (Ty × ℕ)} {C : Calls 𝓤 H} {Λ : Loops 𝓤 H} {q : Post 𝓤 H} {c : Operand} {n : ℕ} {b : Body} {y : Bool} → Opd K 𝓛 Γ E c (vbool y)
      → (T y → Seq K 𝓛 Γ (prop (post 𝓤 H q (exits n)))) → (T (not y) → Seq K 𝓛 Γ (runs C Λ E b q)) → Seq K 𝓛 Γ (runs C Λ E (seq (cond c (exit n) skip) b) q)
  breaks t o out go = first t $ branches t o (λ z. jumps t $ record { prf = (out z).prf }) (λ z. skips t $ record { prf = (go z).prf })

  -- an `if` with no `else`, whose branch need not come back
  pub if-then : K → {E : List (Ty × ℕ)} {C : Calls 𝓤 H} {Λ : Loops 𝓤 H} {q : Post 𝓤 H} {c : Operand} {a b : Body} {y : Bool} → Opd K 𝓛 Γ E c (vbool y)
      → (T y → Seq K 𝓛 Γ (runs C Λ E a (any_q (after_seq 𝓤 H (Wp 𝓤 H C Λ E b (post 𝓤 H q)) (post 𝓤 H q))))) → (T (not y) → Seq K 𝓛 Γ (runs C Λ E b q))
      → Seq K 𝓛 Γ (runs C Λ E (seq (cond c a skip) b) q)
  if-then t o away on = first t $ branches t o away (λ z. skips t $ record { prf = (on z).prf })
