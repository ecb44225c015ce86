-- Two kinds of thin functions, each walked once, whatever they return and whatever they say of it:
--     apart    fn f<'a>(r: Reader<'a>) -> X { g(r.script, r.at) }
--     onward   fn f(script: &[u8], at: usize) -> X { g(reader_at(script, at)) }
-- X is the type `R`, of the MIR type `τ`. `c` are the clauses of f and `e` those of g: `φ` is what g says of its result, and `ψ` what f says.
--     apart-fn, onward-fn          the MIR of f, by the name of g
--     held-ended, plain-ended      the signature of a function of a reader, and of one of slice and position
--     apart, onward                the walks.        apart-meets, onward-meets    f meets its contract where g does
-- Assumes nothing.
use mathlib.Core.Path.{◌≡◌, refl}
use Prim.Native.Nat.{ℕ, ◌<◌, ◌^◌}
use mathlib.Core.List.{List, [], ◌∷◌}
use lib.Dec.{T as Holds}
use seplogic.Ra.Ura.{Ura}
use mir.Syntax.{Ty, Callee, Fn, local, value_local, ty_int, ty_ref, imm, named, erased, w8, w64, place, field, copy, rv_opd, assign, seq, call, return}
use mir.Val.{Val, WT, has_ty, vint}
use base.Logic.{SProp, ent, mono∗}
use base.Fml.{Lft, Share, ftrue, flft}
use prog.Memory.{Memory}
use prog.Model.{Model}
use prog.Routine.{Routine, Env as Routines}
use prog.Wired.{Wired}
use prog.Wp.{Calls, Loops, WpFn, Closed}
use types.Logic.{Logic}
use contract.Lifetimes.{Lfts}
use contract.Monad.{Fun, fact}
use contract.Running.{Running}
use types.Kit.{‵, raw, ◌⊛◌, ⋆, ◌$◌, ◌∵◌, !, qed, move, keep, use1, use2, use3, split, join, fsplit, fjoin, suffices, frame, done}
use types.Run.{look, init, of_opd, and_then, no_more, returns, enter, alloc1, alloc0, params1, pass1, pass0, free0}
use sound.WpLaws.{FmC}
use denote.RattleType.{RattleType, owns}
use denote.Laws.{Is}
use denote.Plain.{uint_vals, uint_Tells}
use denote.Builtin.{u8, usize, SliceRef}
use denote.Ref.{Bor}
use denote.Signature.{plain, named_lft}
use denote.Slice.{slice_ty, ShrSlice, shr_slice_vals, shr_slice_Tells, shr_slice_Lawful}
use denote.Steps.{nothing}
use denote.Exit.{yes}
use denote.Triple.Clauses.{Ended, Clauses, AtExit}
use denote.Triple.Entry.{on_entry}
use denote.Triple.Statement.{Contract, Triple}
use Rattle.check_fields.specs.declared.reader.Reader.{Reader}
use Rattle.check_fields.proofs.Walk.{loc, var, part, into, lands-in, gone, contract_of, calls-fn, ends-fn, calls_of, loops_of, framed, known, proved-by}
use Rattle.check_fields.proofs.Held.{Row, Slice, Number, value_of, vals, tells, typed, typed-local, opens, Maker, known-maker, Asked, asks, calls-reader-at}
use Rattle.check_fields.specs.contracts.reader.Reader as T
use Rattle.check_fields.proofs.reader.Reader.TheLaws as T'
use Rattle.check_fields.proofs.reader.reader_at.Symbol as m-def
use Rattle.check_fields.proofs.reader.reader_at.Symbol.{name as #m}

-- ---- what the functions are
module _ (τ : Ty) (k : Callee) where
  abbrev pub apart-fn : Fn
  apart-fn = record {
    lifetimes = 1;
    outlives = [];
    ty_params = [];
    givens = 0;
    params = 1;
    locals = local τ value_local ∷ local (T'.mir (named 0)) value_local ∷ local (slice_ty (ty_ref erased imm (ty_int w8))) value_local ∷ local (ty_int w64) value_local ∷ [];
    body = seq (assign (place 2 []) (rv_opd (copy (place 1 (field 0 ∷ []))))) (seq (assign (place 3 []) (rv_opd (copy (place 1 (field 1 ∷ [])))))
        (seq (call k (copy (place 2 []) ∷ copy (place 3 []) ∷ []) (place 0 [])) return));
  }

  abbrev pub onward-fn : Fn
  onward-fn = record {
    lifetimes = 1;
    outlives = [];
    ty_params = [];
    givens = 0;
    params = 2;
    locals = local τ value_local ∷ local (slice_ty (ty_ref (named 0) imm (ty_int w8))) value_local ∷ local (ty_int w64) value_local ∷ local (T'.mir erased) value_local ∷ [];
    body = seq (call #m (copy (place 1 []) ∷ copy (place 2 []) ∷ []) (place 3 [])) (seq (call k (copy (place 3 []) ∷ []) (place 0 [])) return);
  }

module _ (R : RattleType) where
  abbrev pub plain-ended : Ended
  plain-ended = record {
    signature = record { lifetimes = 1; outlives = []; params = SliceRef 0 tt u8 tt ∷ plain (λ _. usize) ∷ []; result = plain (λ _. R) };
    kept = (yes, (yes, tt));
  }

  abbrev pub held-ended : Ended
  held-ended = record {
    signature = record { lifetimes = 1; outlives = []; params = plain (λ (κs : Lfts 1). T.the_row (named_lft 1 0 tt κs)) ∷ []; result = plain (λ _. R) };
    kept = (yes, tt);
  }

-- a reader's fields as arguments, and the reader of two arguments
abbrev pub parts_of : Reader → Bor (List ℕ) × (ℕ × Unit {0})
parts_of d = (d.script, (d.at, tt))

abbrev pub reader_of : Bor (List ℕ) → ℕ → Reader
reader_of s n = record { script = s; at = n }

-- that clauses say `φ` of a result, whatever the last values are
module _ {M : Type 1} (𝓤 : Ura M) (R : RattleType) where
  abbrev HeldSays : Clauses 𝓤 (held-ended R) → Lfts 1 → Reader → (R.Denot → Type 0) → Type 2
  HeldSays c κs d φ = (g : (c κs (d, tt)).ghost) (x : R.Denot) (z : AtExit (held-ended R) κs) → (c κs (d, tt)).ensures g x z ≡ fact 𝓤 (φ x)

  abbrev PlainSays : Clauses 𝓤 (plain-ended R) → Lfts 1 → Bor (List ℕ) → ℕ → (R.Denot → Type 0) → Type 2
  PlainSays c κs s n φ = (g : (c κs (s, (n, tt))).ghost) (x : R.Denot) (z : AtExit (plain-ended R) κs) → (c κs (s, (n, tt))).ensures g x z ≡ fact 𝓤 (φ x)

-- ---- and their walks
module _ {M : Type 1} {𝓤 : Ura M} (𝓛 : Logic 𝓤) (R : RattleType) (τ : Ty)
    (ok : (x : R.Denot) (v : Val) → Is R x (v ∷ []) → Holds (has_ty τ v) × WT v) (C : Calls 𝓤 𝓛.H) (Λ : Loops 𝓤 𝓛.H) (fm : FmC 𝓤 𝓛.H 𝓛.laws C) (k : Callee) where
  open 𝓛 use {H}

  module _ (c : Clauses 𝓤 (held-ended R)) (e : Clauses 𝓤 (plain-ended R)) where
    abbrev F : Contract 𝓤
    F = contract_of 𝓛 (held-ended R) c

    abbrev G : Contract 𝓤
    G = contract_of 𝓛 (plain-ended R) e

    module _ (known : Triple 𝓤 (C k) G) (κ : Lft) (q : Share) (d : Reader) (gf : (c (κ, tt) (d, tt)).ghost) (gg : (e (κ, tt) (parts_of d)).ghost)
        (asks : ent 𝓤 ((c (κ, tt) (d, tt)).requires gf) ((e (κ, tt) (parts_of d)).requires gg)) (φ ψ : R.Denot → Type 0)
        (says : PlainSays 𝓤 R e (κ, tt) d.script d.at φ) (to-say : HeldSays 𝓤 R c (κ, tt) d ψ) (gives : (r : R.Denot) → φ r → ψ r) where
      abbrev bound : F.Ghost
      bound = (((κ, tt), (q, tt), tt, (d, tt), (T'.lowered d ∷ [], tt)), gf)

      abbrev to : G.Ghost
      to = (((κ, tt), (q, tt), tt, parts_of d, (value_of d.script ∷ [], (vint w64 d.at ∷ [], tt))), gg)

      goes : ent 𝓤 (on_entry 𝓛 (held-ended R).signature (κ, tt) (q, tt) (d, tt) bound.0.4)
          (on_entry 𝓛 (plain-ended R).signature (κ, tt) (q, tt) (parts_of d) to.0.4)
      goes =
          qed 𝓛 ((‵ (flft κ q) ⊛ ‵ ftrue) ∷ ‵ (owns (Row κ ∷ []) (d, tt) bound.0.4) ∷ []) ∵ frame ! $ fsplit ! $
          use1 𝓛 (‵ (Slice κ d.script) ⊛ ‵ (Number d.at)) (opens 𝓛 κ d) $ split ! $
          move ! (1 ∷ 2 ∷ []) $ fjoin ! $ move ! (1 ∷ 0 ∷ []) $ fjoin ! $ done !

      apart : Is (Row κ) d (T'.lowered d ∷ []) → ent 𝓤 (F.pre bound) (WpFn 𝓤 H C Λ (apart-fn τ k) (T'.lowered d ∷ []) (F.post bound))
      apart is =
          let wt = typed 𝓛 κ d is in
          qed 𝓛 (raw (F.pre bound) ∷ []) ∵ use1 𝓛 (raw (G.pre to)) (mono∗ 𝓤 goes asks) $ enter ! C Λ (apart-fn τ k) (T'.lowered d ∷ []) _ $
          alloc1 ! (λ l₀. alloc1 ! (λ l₁. alloc1 ! (λ l₂. alloc1 ! (λ l₃. alloc0 ! $ params1 ! $ pass1 ! (init ! (loc 3 0 1) refl wt) $ pass0 ! $
          into ! (of_opd ! (part ! (loc 3 0 1) 0 refl refl refl)) (loc 3 0 2) refl (tt, wt.1.0) $
          into ! (of_opd ! (part ! (loc 3 0 1) 1 {d = 16} refl refl refl)) (loc 3 0 3) refl (tt, wt.1.1.0) $ move ! (8 ∷ []) $
          calls-fn ! fm (plain-ended R) e known to φ (λ r ws. says gg r _)
          (and_then ! (var ! (loc 3 1 2) refl) (and_then ! (var ! (loc 3 1 3) refl) (no_more !))) (λ u r x is'.
          lands-in ! (loc 3 2 0) refl (ok r u is') $ returns ! (look ! (loc 3 2 0) refl) $
          gone ! (loc 3 2 0) refl refl $ gone ! (loc 3 2 1) refl refl $ gone ! (loc 3 2 2) refl refl $ gone ! (loc 3 2 3) refl refl $ free0 ! $
          suffices ! _ (ends-fn 𝓛 (held-ended R) c bound u r (tt, tt) (tt, tt) (tt, tt) (ψ r) (to-say gf r _) (gives r x)) $
          move ! (1 ∷ 0 ∷ []) $ done !)))))

  module _ (c : Clauses 𝓤 (plain-ended R)) (e : Clauses 𝓤 (held-ended R)) where
    abbrev F₂ : Contract 𝓤
    F₂ = contract_of 𝓛 (plain-ended R) c

    abbrev G₂ : Contract 𝓤
    G₂ = contract_of 𝓛 (held-ended R) e

    module _ (mem : Memory → SProp 𝓤) (run : Routine → Fun 𝓤) (maker : Maker 𝓛 mem run C) (known : Triple 𝓤 (C k) G₂) (κ : Lft) (q : Share)
        (s : Bor (List ℕ)) (n : ℕ) (gf : (c (κ, tt) (s, (n, tt))).ghost) (gg : (e (κ, tt) (reader_of s n, tt)).ghost)
        (asked : ent 𝓤 ((c (κ, tt) (s, (n, tt))).requires gf) ((e (κ, tt) (reader_of s n, tt)).requires gg)) (φ ψ : R.Denot → Type 0)
        (says : HeldSays 𝓤 R e (κ, tt) (reader_of s n) φ) (to-say : PlainSays 𝓤 R c (κ, tt) s n ψ) (gives : (r : R.Denot) → φ r → ψ r) (fits : n < 2 ^ 64) where
      abbrev d : Reader
      d = reader_of s n

      abbrev args : List Val
      args = value_of s ∷ vint w64 n ∷ []

      abbrev bound₂ : F₂.Ghost
      bound₂ = (((κ, tt), (q, tt), tt, (s, (n, tt)), (value_of s ∷ [], (vint w64 n ∷ [], tt))), gf)

      abbrev to₂ : G₂.Ghost
      to₂ = (((κ, tt), (q, tt), tt, (d, tt), (T'.lowered d ∷ [], tt)), gg)

      abbrev Asks : SProp 𝓤
      Asks = (e (κ, tt) (d, tt)).requires gg

      goes₂ : ent 𝓤 (⋆ 𝓛 (‵ ((Row κ).own_val d (T'.lowered d ∷ [])) ∷ (‵ (flft κ q) ⊛ ‵ ftrue) ∷ raw Asks ∷ [])) (G₂.pre to₂)
      goes₂ =
          qed 𝓛 (‵ ((Row κ).own_val d (T'.lowered d ∷ [])) ∷ (‵ (flft κ q) ⊛ ‵ ftrue) ∷ raw Asks ∷ []) ∵
          nothing ! $ move ! (1 ∷ 0 ∷ []) $ fjoin ! $ move ! (1 ∷ []) $ join ! $ frame ! $ done !

      onward : Is (ShrSlice (named 0) κ u8) s (value_of s ∷ []) → ent 𝓤 (F₂.pre bound₂) (WpFn 𝓤 H C Λ (onward-fn τ k) args (F₂.post bound₂))
      onward is =
          qed 𝓛 (((‵ (flft κ q) ⊛ ‵ ftrue) ⊛ ‵ (owns (ShrSlice (named 0) κ u8 ∷ usize ∷ []) (s, (n, tt)) bound₂.0.4))
          ∷ raw ((c (κ, tt) (s, (n, tt))).requires gf) ∷ []) ∵
          enter ! C Λ (onward-fn τ k) args _ $ split ! $ move ! (1 ∷ []) $ fsplit ! $ keep ! (3 ∷ 0 ∷ 2 ∷ []) $ use1 𝓛 (raw Asks) asked $ move ! (1 ∷ 2 ∷ []) $
          use2 𝓛 (raw (Asked 𝓛 mem run κ q s n)) (asks 𝓛 mem run κ q s n fits) $
          -- [what `reader_at` asks; what g asks of the position]
          alloc1 ! (λ l₀. alloc1 ! (λ l₁. alloc1 ! (λ l₂. alloc1 ! (λ l₃. alloc0 ! $ params1 ! $
          pass1 ! (init ! (loc 3 0 1) refl ((shr_slice_Lawful 𝓛 (named 0) κ u8).typed s (value_of s ∷ []) is).0) $
          pass1 ! (init ! (loc 3 0 2) refl (tt, record { fits = fits })) $ pass0 ! $ move ! (8 ∷ 9 ∷ []) $
          calls-reader-at 𝓛 mem run κ q s n ! fm maker (and_then ! (var ! (loc 3 2 1) refl) (and_then ! (var ! (loc 3 2 2) refl) (no_more !))) (λ made.
          lands-in ! (loc 3 3 3) refl (typed-local 𝓛 κ d made) $ use3 𝓛 (raw (G₂.pre to₂)) goes₂ $
          calls-fn ! fm (held-ended R) e known to₂ φ (λ r ws. says gg r _) (and_then ! (var ! (loc 3 1 3) refl) (no_more !)) (λ u r x is'.
          lands-in ! (loc 3 2 0) refl (ok r u is') $ returns ! (look ! (loc 3 2 0) refl) $
          gone ! (loc 3 2 0) refl refl $ gone ! (loc 3 2 1) refl refl $ gone ! (loc 3 2 2) refl refl $ gone ! (loc 3 2 3) refl refl $ free0 ! $
          suffices ! _ (ends-fn 𝓛 (plain-ended R) c bound₂ u r (tt, (tt, tt)) (tt, (tt, tt)) (tt, (tt, tt)) (ψ r) (to-say gf r _) (gives r x)) $
          move ! (1 ∷ 0 ∷ []) $ done !))))))

module _ {M : Type 1} {𝓤 : Ura M} (𝓛 : Logic 𝓤) (𝓜 : Model 𝓤 𝓛.H) (𝓡 : Running 𝓤 𝓛.H 𝓜) (γ : Routines) (R : RattleType) (τ : Ty)
    (ok : (x : R.Denot) (v : Val) → Is R x (v ∷ []) → Holds (has_ty τ v) × WT v) (k : Callee) (r : Routine) (means : γ k ≡ r) (me : Callee) where
  open 𝓛 use {H}

  abbrev Cs : Calls 𝓤 H
  Cs = calls_of 𝓛 𝓜 𝓡 γ

  abbrev Λs : Loops 𝓤 H
  Λs = loops_of 𝓛 𝓜 𝓡 γ

  pub apart-meets : (c : Clauses 𝓤 (held-ended R)) (e : Clauses 𝓤 (plain-ended R))
      (gg : (κs : Lfts 1) (d : Reader) → (c κs (d, tt)).ghost → (e κs (parts_of d)).ghost)
      → ((κs : Lfts 1) (d : Reader) (g : (c κs (d, tt)).ghost) → ent 𝓤 ((c κs (d, tt)).requires g) ((e κs (parts_of d)).requires (gg κs d g)))
      → (φ : Lfts 1 → Reader → R.Denot → Type 0) → ((κs : Lfts 1) (d : Reader) → PlainSays 𝓤 R e κs d.script d.at (φ κs d))
      → (ψ : Lfts 1 → Reader → R.Denot → Type 0) → ((κs : Lfts 1) (d : Reader) → HeldSays 𝓤 R c κs d (ψ κs d))
      → ((κs : Lfts 1) (d : Reader) (x : R.Denot) → φ κs d x → ψ κs d x) → Triple 𝓤 (𝓡.run r) (contract_of 𝓛 (plain-ended R) e)
      → Closed 𝓤 H Cs Λs me (apart-fn τ k) → Triple 𝓤 (Cs me) (contract_of 𝓛 (held-ended R) c)
  apart-meets c e gg asked φ says ψ to-say gives met closed =
      proved-by 𝓛 𝓜 𝓡 γ (held-ended R) c me (apart-fn τ k) closed (λ κs. (vals κs.0, tt)) (λ κs. (tells κs.0, tt)) (λ κs qs bounds a g are.
      let d = a.0 in
      apart 𝓛 R τ ok Cs Λs (framed 𝓛 𝓜 𝓡 γ) k c e (known 𝓛 𝓜 𝓡 γ (plain-ended R) e k r means met) κs.0 qs.0 d g (gg κs d g)
      (asked κs d g) (φ κs d) (ψ κs d) (says κs d) (to-say κs d) (gives κs d) are.0)

  pub onward-meets : (c : Clauses 𝓤 (plain-ended R)) (e : Clauses 𝓤 (held-ended R))
      (gg : (κs : Lfts 1) (s : Bor (List ℕ)) (n : ℕ) → (c κs (s, (n, tt))).ghost → (e κs (reader_of s n, tt)).ghost)
      → ((κs : Lfts 1) (s : Bor (List ℕ)) (n : ℕ) (g : (c κs (s, (n, tt))).ghost)
      → ent 𝓤 ((c κs (s, (n, tt))).requires g) ((e κs (reader_of s n, tt)).requires (gg κs s n g)))
      → (φ : Lfts 1 → Bor (List ℕ) → ℕ → R.Denot → Type 0) → ((κs : Lfts 1) (s : Bor (List ℕ)) (n : ℕ) → HeldSays 𝓤 R e κs (reader_of s n) (φ κs s n))
      → (ψ : Lfts 1 → Bor (List ℕ) → ℕ → R.Denot → Type 0) → ((κs : Lfts 1) (s : Bor (List ℕ)) (n : ℕ) → PlainSays 𝓤 R c κs s n (ψ κs s n))
      → ((κs : Lfts 1) (s : Bor (List ℕ)) (n : ℕ) (x : R.Denot) → φ κs s n x → ψ κs s n x) → Wired 𝓡.env m-def.code → γ #m ≡ 𝓡.env #m
      → Triple 𝓤 (𝓡.run r) (contract_of 𝓛 (held-ended R) e) → Closed 𝓤 H Cs Λs me (onward-fn τ k) → Triple 𝓤 (Cs me) (contract_of 𝓛 (plain-ended R) c)
  onward-meets c e gg asked φ says ψ to-say gives wired makes met closed =
      proved-by 𝓛 𝓜 𝓡 γ (plain-ended R) c me (onward-fn τ k) closed
      (λ κs. (shr_slice_vals, (uint_vals w64, tt))) (λ κs. (shr_slice_Tells (named 0) κs.0 u8, (uint_Tells w64, tt))) (λ κs qs bounds a g are.
      let s = a.0 in
      let n = a.1.0 in
      onward 𝓛 R τ ok Cs Λs (framed 𝓛 𝓜 𝓡 γ) k c e 𝓜.mem 𝓡.run (known-maker 𝓛 𝓜 𝓡 γ wired makes)
      (known 𝓛 𝓜 𝓡 γ (held-ended R) e k r means met) κs.0 qs.0 s n g (gg κs s n g)
      (asked κs s n g) (φ κs s n) (ψ κs s n) (says κs s n) (to-say κs s n) (gives κs s n) are.1.0.1 are.0)
