-- A reader in a walk: what it owns, its machine value's type, and how one is made.
--     Row κ            the reader's type at the lifetime κ.        value_of s       the machine value of a slice
--     Slice, Number    what the reader's two fields own.        opens        what a reader owns is what its fields own
--     vals, tells      a reader's machine value, and that its type tells it
--     typed, typed-local       a reader's machine value has the reader's type, as a parameter has it and as a local has it
--     Maker            that `reader_at` meets its contract.        known-maker      it does, in any function that calls it
--     Asked, asks      what `reader_at` asks: the slice and the lifetime's token
--     calls-reader-at  a call of it: the reader then stands in front, and the token after it
-- Assumes nothing.
use mathlib.Core.Path.{◌≡◌, refl, sym, ap, subst, ◌∙◌}
use Prim.Native.Nat.{ℕ, ◌<◌, ◌^◌}
use mathlib.Core.List.{List, [], ◌∷◌}
use lib.Dec.{T as Holds}
use lib.ListN.{length}
use seplogic.Ra.Ura.{Ura}
use mir.Syntax.{Opd as Operand, Place, Body, named, erased, w64, seq, call}
use mir.Val.{Val, WT, has_ty, vint}
use base.Logic.{SProp, ent, sep, emp, id⊢}
use base.Fml.{Fml, Lft, Share, ftrue, flft}
use prog.Memory.{Memory}
use prog.Model.{Model}
use prog.Routine.{Routine, Env as Routines}
use prog.Wired.{Wired}
use prog.Wp.{Env, Calls, Loops}
use types.Logic.{Logic, sem}
use contract.Monad.{Fun}
use contract.Running.{Running}
use sound.WpLaws.{FmC}
use types.Kit.{Item, ‵, raw, ◌⊛◌, given, Post, runs, lands, Seq, ◌$◌, ◌∵◌, !, qed, move, drop, use1, learn, join, fsplit, fjoin, frame, done}
use types.Run.{Opds}
use denote.RattleType.{RattleType}
use denote.Laws.{Is, Tells}
use denote.Plain.{uint_Makes}
use denote.Builtin.{u8, usize}
use denote.Ref.{Bor, NamedLft}
use denote.Signature.{named_lft}
use denote.Slice.{slice_val, ShrSlice}
use denote.Steps.{only, nothing, owned}
use denote.Struct.Laws as LL
use denote.Struct.Rest.{all_own, own_open}
use denote.Triple.Statement.{Contract, Triple}
use Rattle.check_fields.specs.declared.reader.Reader.{Reader}
use Rattle.check_fields.proofs.Walk.{contract_of, calls-fn, calls_of, known}
use Rattle.check_fields.specs.contracts.reader.Reader as T
use Rattle.check_fields.proofs.reader.Reader.TheLaws as T'
use Rattle.check_fields.specs.contracts.reader.reader_at as m
use Rattle.check_fields.proofs.reader.reader_at.Symbol as m-def
use Rattle.check_fields.proofs.reader.reader_at.Symbol.{name as #m}
use Rattle.check_fields.proofs.reader.reader_at.Met as m-thm

-- the lifetime as a signature has it, and as a local has it
abbrev α : Lft → NamedLft
α κ = named_lft 1 0 tt (κ, tt)

abbrev β : Lft → NamedLft
β κ = record { mir = erased; lft = κ }

abbrev pub Row : Lft → RattleType
Row κ = T.the_row (α κ)

abbrev pub value_of : Bor (List ℕ) → Val
value_of s = slice_val s.ref_ptr (length s.now)

-- what the two fields own
abbrev pub Slice : Lft → Bor (List ℕ) → Fml
Slice κ s = (ShrSlice (named 0) κ u8).own_val s (value_of s ∷ [])

abbrev pub Number : ℕ → Fml
Number n = usize.own_val n (vint w64 n ∷ [])

abbrev pub vals : Lft → Reader → List Val
vals κ = LL.vals (T.the_type (α κ)) (T'.the_laws (α κ))

pub tells : (κ : Lft) → Tells (Row κ) (Is (Row κ)) (vals κ)
tells κ = LL.tells (T.the_type (α κ)) (T'.the_laws (α κ))

module _ {M : Type 1} {𝓤 : Ura M} (𝓛 : Logic 𝓤) (κ : Lft) (d : Reader) where
  pub typed : Is (Row κ) d (T'.lowered d ∷ []) → Holds (has_ty (T'.mir (named 0)) (T'.lowered d)) × WT (T'.lowered d)
  typed is = ((LL.lawful (T.the_type (α κ)) (T'.the_laws (α κ)) 𝓛).typed d _ is).0

  pub typed-local : Is (Row κ) d (T'.lowered d ∷ []) → Holds (has_ty (T'.mir erased) (T'.lowered d)) × WT (T'.lowered d)
  typed-local is = ((LL.lawful (T.the_type (β κ)) (T'.the_laws (β κ)) 𝓛).typed d _ is).0

  pub opens : ent 𝓤 (sem 𝓛 ((Row κ).own_val d (T'.lowered d ∷ []))) (sep 𝓤 (sem 𝓛 (Slice κ d.script)) (sem 𝓛 (Number d.at)))
  opens =
      qed 𝓛 (‵ ((Row κ).own_val d (T'.lowered d ∷ [])) ∷ []) ∵
      use1 𝓛 (given (T'.lowered d ∷ [] ≡ T'.lowered d ∷ []) (‵ (all_own (T.the_type (α κ)).parts (T'.the_laws (α κ)) (d.script, (d.at, tt)))))
      (own_open 𝓛 (T.the_type (α κ)) (T'.the_laws (α κ)) (d.script, (d.at, tt)) (T'.lowered d)) $
      learn ! (λ _. fsplit ! $ frame ! $ fsplit ! $ move ! (1 ∷ []) $ drop ! $ done !)

module _ {M : Type 1} {𝓤 : Ura M} (𝓛 : Logic 𝓤) (mem : Memory → SProp 𝓤) (run : Routine → Fun 𝓤) where
  open 𝓛 use {H}

  abbrev F : Contract 𝓤
  F = contract_of 𝓛 m.ended (m.clauses 𝓛 mem run)

  abbrev pub Maker : Calls 𝓤 H → Type 1
  Maker C = Triple 𝓤 (C #m) F

  module _ (κ : Lft) (q : Share) (s : Bor (List ℕ)) (n : ℕ) where
    abbrev made : Reader
    made = record { script = s; at = n }

    abbrev to : F.Ghost
    to = (((κ, tt), (q, tt), tt, (s, (n, tt)), (value_of s ∷ [], (vint w64 n ∷ [], tt))), tt)

    abbrev pub Asked : SProp 𝓤
    Asked = F.pre to

    pub asks : n < 2 ^ 64 → ent 𝓤 (sep 𝓤 (sem 𝓛 (Slice κ s)) (sep 𝓤 (sem 𝓛 (flft κ q)) (emp 𝓤))) Asked
    asks fits =
        qed 𝓛 (‵ (Slice κ s) ∷ (‵ (flft κ q) ⊛ ‵ ftrue) ∷ []) ∵ nothing ! $ owned ! usize (Is usize) (uint_Makes 𝓛 w64) n _ (refl, fits) $
        fjoin ! $ move ! (1 ∷ 0 ∷ []) $ fjoin ! $ move ! (1 ∷ []) $ join ! $ frame ! $ done !

    abbrev Said : Reader → Type 0
    Said d = (d.script ≡ s) × (d.at ≡ n)

    is_made : (d : Reader) → Said d → d ≡ made
    is_made d e = λ i. record { script = e.0 i; at = e.1 i }

    -- the reader d with the machine value u is the one made
    is-passed : (d : Reader) (u : Val) → Said d → Is (Row κ) d (u ∷ []) → ◌≡◌ {A = Reader × Val} (made, T'.lowered made) (d, u)
    is-passed d u e is = sym (λ i. (is_made d e i, ap only (tells κ d (u ∷ []) is ∙ ap (vals κ) (is_made d e)) i))

    module _ {K : Type 0} {Γ : List (Item 𝓤)} {E : Env 𝓤 H} {C : Calls 𝓤 H} {xs : List Operand} {Λ : Loops 𝓤 H} {z : Post 𝓤 H} {p : Place} {rest : Body} where
      pub calls-reader-at : K → FmC 𝓤 H 𝓛.laws C → Maker C → Opds K 𝓛 (raw Asked ∷ Γ) E xs (value_of s ∷ vint w64 n ∷ [])
          → (Is (Row κ) made (T'.lowered made ∷ [])
          → Seq K 𝓛 (‵ ((Row κ).own_val made (T'.lowered made ∷ [])) ∷ (‵ (flft κ q) ⊛ ‵ ftrue) ∷ Γ) (lands C Λ E p (T'.lowered made) rest z))
          → Seq K 𝓛 (raw Asked ∷ Γ) (runs C Λ E (seq (call #m xs p) rest) z)
      calls-reader-at t fm known os k = calls-fn t fm m.ended (m.clauses 𝓛 mem run) known to Said (λ d ws. refl) os (λ u d e is.
          move t (1 ∷ []) $ use1 𝓛 (‵ (flft κ q) ⊛ ‵ ftrue) (id⊢ 𝓤 _) $ move t (1 ∷ []) $
          subst (λ (x : Reader × Val). Is (Row κ) x.0 (x.1 ∷ [])
          → Seq K 𝓛 (‵ ((Row κ).own_val x.0 (x.1 ∷ [])) ∷ (‵ (flft κ q) ⊛ ‵ ftrue) ∷ Γ) (lands C Λ E p x.1 rest z)) (is-passed d u e is) k is)

pub known-maker : {M : Type 1} {𝓤 : Ura M} (𝓛 : Logic 𝓤) (𝓜 : Model 𝓤 𝓛.H) (𝓡 : Running 𝓤 𝓛.H 𝓜) (γ : Routines)
    → Wired 𝓡.env m-def.code → γ #m ≡ 𝓡.env #m → Maker 𝓛 𝓜.mem 𝓡.returns (calls_of 𝓛 𝓜 𝓡 γ)
known-maker {𝓤 = 𝓤} 𝓛 𝓜 𝓡 γ w e = known 𝓛 𝓜 𝓡 γ m.ended (m.clauses 𝓛 𝓜.mem 𝓡.returns) #m (𝓡.env #m) e (m-thm.met 𝓤 𝓛 𝓜 𝓡 w)
