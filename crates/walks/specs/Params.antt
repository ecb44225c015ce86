-- What a call is passed, parameter by parameter: plain data, which is had for nothing, and borrows in hand. From the list are computed what a signature's
-- triple speaks of (types, denotations, machine values, lifetimes, shares), and
-- the entries of the context.
--     Par              a parameter: `dat D x`, or `brw k h y`
--     rows, denots, valss, lfts, shares      as `Denote/Triple/Entry.antt` has them, lifetimes numbered in the order of the borrows.        vals     the
--         machine values in a row
--     ins              the borrows' entries.        Bounds, lasts    what a contract binds for the parameters at exit, and says of it.        outs     the
--         borrows' entries after that
--     Goods            each datum is one of its type's values
--     passes           the entries give the tokens, what the parameters own, and what is kept.        returns      and the way back
--     arrives          the way into a function: the tokens and what its parameters own are the entries.        hands-back       the way out: the last entries
--         give what the function has at exit
-- Assumes `Logic`.
use Rattle.std.specs.Prelude.{ℕ, zero, suc, List, [], ◌∷◌}
use seplogic.Ra.Ura.{Ura}
use mir.Syntax.{named}
use mir.Val.{Val}
use base.Logic.{SProp, ent, sep, emp, guard, via, mono∗, mono_l, mono_r, fst∗, snd∗, emp∗, comm∗, guard_i, ex∗}
use Rattle.std.specs.Borrow.{Fml, ftrue, fsep}
use contract.Lifetimes.{Lfts, Shares, toks}
use types.Logic.{Logic, sem}
use types.Kit.{Item, ‵, raw, ◌⊛◌, mean, ⋆, pop, push, ◌$◌, ◌∵◌, !, qed, move, split, split3, join, done}
use denote.RattleType.{RattleType, Denots, Valss, owns}
use denote.Exit.{yes, Last, left}
use Rattle.walks.specs.Data.{Datum, Good}
use Rattle.walks.specs.Loans.{Loan, Kind, Value, row, ref, token, owned, In, Out, Kept, Bound, left-of, last_of, Same, enters, leaves}

pub data Par : Type 2 where
  dat : (D : Datum) → D.type.Denot → Par
  brw : (k : Kind) → Loan → Value k → Par

abbrev pub rows : ℕ → List Par → List RattleType
rows j [] = []
rows j (dat D x ∷ ps) = D.type ∷ rows j ps
rows j (brw k h y ∷ ps) = row k (named j) h.lft ∷ rows (suc j) ps

abbrev pub denots : (j : ℕ) (ps : List Par) → Denots (rows j ps)
denots j [] = tt
denots j (dat D x ∷ ps) = (x, denots j ps)
denots j (brw k h y ∷ ps) = (ref (named j) h.lft h k y, denots (suc j) ps)

abbrev pub valss : (j : ℕ) (ps : List Par) → Valss (rows j ps)
valss j [] = tt
valss j (dat D x ∷ ps) = (D.val x ∷ [], valss j ps)
valss j (brw k h y ∷ ps) = (h.val ∷ [], valss (suc j) ps)

abbrev pub vals : List Par → List Val
vals [] = []
vals (dat D x ∷ ps) = D.val x ∷ vals ps
vals (brw k h y ∷ ps) = h.val ∷ vals ps

abbrev pub count : List Par → ℕ
count [] = zero
count (dat D x ∷ ps) = count ps
count (brw k h y ∷ ps) = suc (count ps)

abbrev pub lfts : (ps : List Par) → Lfts (count ps)
lfts [] = tt
lfts (dat D x ∷ ps) = lfts ps
lfts (brw k h y ∷ ps) = (h.lft, lfts ps)

abbrev pub shares : (ps : List Par) → Shares (count ps)
shares [] = tt
shares (dat D x ∷ ps) = shares ps
shares (brw k h y ∷ ps) = (h.share, shares ps)

-- ---- at exit
abbrev pub Bounds : ℕ → List Par → Type 0
Bounds j [] = Unit {0}
Bounds j (dat D x ∷ ps) = Last (D.type.exit yes) x × Bounds j ps
Bounds j (brw k h y ∷ ps) = Bound (named j) h k y × Bounds (suc j) ps

abbrev pub lasts : (j : ℕ) (ps : List Par) → Bounds j ps → Fml
lasts j [] ws = ftrue
lasts j (dat D x ∷ ps) ws = fsep (left (D.type.exit yes) x ws.0) (lasts j ps ws.1)
lasts j (brw k h y ∷ ps) ws = fsep (left-of (named j) h k y ws.0) (lasts (suc j) ps ws.1)

abbrev pub Sames : (j : ℕ) (ps : List Par) → Bounds j ps → Type 0
Sames j [] ws = Unit {0}
Sames j (dat D x ∷ ps) ws = Sames j ps ws.1
Sames j (brw k h y ∷ ps) ws = Same (named j) h k y ws.0 × Sames (suc j) ps ws.1

-- each datum is one of its type's values
abbrev pub Goods : List Par → Type 0
Goods [] = Unit {0}
Goods (dat D x ∷ ps) = Good D x × Goods ps
Goods (brw k h y ∷ ps) = Goods ps

abbrev pub kepts : List Par → Fml
kepts [] = ftrue
kepts (dat D x ∷ ps) = kepts ps
kepts (brw k h y ∷ ps) = fsep (Kept k h y) (kepts ps)

module _ {M : Type 1} (𝓤 : Ura M) where
  abbrev pub ins : List Par → List (Item 𝓤)
  ins [] = []
  ins (dat D x ∷ ps) = ins ps
  ins (brw k h y ∷ ps) = ‵ (In k h y) ∷ ins ps

  abbrev pub outs : (j : ℕ) (ps : List Par) → Bounds j ps → List (Item 𝓤)
  outs j [] ws = []
  outs j (dat D x ∷ ps) ws = outs j ps ws.1
  outs j (brw k h y ∷ ps) ws = ‵ (Out k h (last_of (named j) h k y ws.0)) ∷ outs (suc j) ps ws.1

module _ {M : Type 1} {𝓤 : Ura M} (𝓛 : Logic 𝓤) where
  abbrev pub alive : List Par → SProp 𝓤
  alive ps = toks 𝓛 (count ps) (lfts ps) (shares ps)

  abbrev pub owning : ℕ → List Par → SProp 𝓤
  owning j ps = sem 𝓛 (owns (rows j ps) (denots j ps) (valss j ps))

  abbrev ⟦◌⟧ : Fml → SProp 𝓤
  ⟦ F ⟧ = sem 𝓛 F

  abbrev ◌∗◌ : SProp 𝓤 → SProp 𝓤 → SProp 𝓤
  P ∗ Q = sep 𝓤 P Q

  infixr 35 ◌∗◌
  module _ where
    -- a datum is had for nothing
    with-datum : (P T O K : SProp 𝓤) → ent 𝓤 (emp 𝓤) P → ent 𝓤 ((T ∗ O) ∗ K) ((T ∗ (P ∗ O)) ∗ K)
    with-datum P T O K h = mono_l 𝓤 K (mono_r 𝓤 T (via 𝓤 (emp 𝓤 ∗ O) (emp∗ 𝓤 O) (mono_l 𝓤 O h)))

    sorted : (t o k T O K : SProp 𝓤) → ent 𝓤 ((t ∗ (o ∗ k)) ∗ ((T ∗ O) ∗ K)) (((t ∗ T) ∗ (o ∗ O)) ∗ (k ∗ K))
    sorted t o k T O K =
        qed 𝓛 ((raw t ⊛ raw o ⊛ raw k) ∷ ((raw T ⊛ raw O) ⊛ raw K) ∷ []) ∵ split3 ! $ move ! (3 ∷ []) $ split ! $ split ! $
        -- [T; O; K; t; o; k]
        move ! (4 ∷ 1 ∷ []) $ join ! $ move ! (3 ∷ 1 ∷ []) $ join ! $ move ! (0 ∷ 1 ∷ []) $ join ! $ move ! (2 ∷ 1 ∷ []) $ join ! $ move ! (1 ∷ 0 ∷ []) $
        done !

    pub passes : (j : ℕ) (ps : List Par) → Goods ps → ent 𝓤 (⋆ 𝓛 (ins 𝓤 ps)) ((alive ps ∗ owning j ps) ∗ ⟦ kepts ps ⟧)
    passes j [] r = via 𝓤 (emp 𝓤 ∗ emp 𝓤) (emp∗ 𝓤 (emp 𝓤)) (mono_l 𝓤 (emp 𝓤) (emp∗ 𝓤 (emp 𝓤)))
    passes j (dat D x ∷ ps) r = via 𝓤 ((alive ps ∗ owning j ps) ∗ ⟦ kepts ps ⟧) (passes j ps r.1) (with-datum ⟦ D.type.own_val x (D.val x ∷ []) ⟧ (alive ps)
        (owning j ps) ⟦ kepts ps ⟧ (D.makes 𝓛 x (D.val x ∷ []) r.0))
    passes j (brw k h y ∷ ps) r =
        via 𝓤 (⟦ In k h y ⟧ ∗ ⋆ 𝓛 (ins 𝓤 ps)) (pop 𝓛 (‵ (In k h y)) (ins 𝓤 ps))
        (via 𝓤 ((⟦ token h ⟧ ∗ (⟦ owned k (named j) h y ⟧ ∗ ⟦ Kept k h y ⟧)) ∗ ((alive ps ∗ owning (suc j) ps) ∗ ⟦ kepts ps ⟧))
        (mono∗ 𝓤 (enters 𝓛 (named j) h k y) (passes (suc j) ps r))
        (sorted ⟦ token h ⟧ ⟦ owned k (named j) h y ⟧ ⟦ Kept k h y ⟧ (alive ps) (owning (suc j) ps) ⟦ kepts ps ⟧))

    -- what comes back, sorted by parameter
    by_one : (t l k T L K : SProp 𝓤) → ent 𝓤 ((t ∗ T) ∗ ((l ∗ L) ∗ (k ∗ K))) ((t ∗ (l ∗ k)) ∗ (T ∗ (L ∗ K)))
    by_one t l k T L K =
        qed 𝓛 ((raw t ⊛ raw T) ∷ (raw l ⊛ raw L) ∷ (raw k ⊛ raw K) ∷ []) ∵ split ! $ move ! (2 ∷ []) $ split ! $ move ! (4 ∷ []) $ split ! $
        -- [k; K; l; L; t; T]
        move ! (2 ∷ 0 ∷ []) $ join ! $ move ! (3 ∷ 0 ∷ []) $ join ! $ move ! (2 ∷ 1 ∷ []) $ join ! $ move ! (2 ∷ 0 ∷ []) $ join ! $ move ! (1 ∷ 0 ∷ []) $
        done !

    with-guards : (φ ψ : Type 0) (i : Item 𝓤) (Γ : List (Item 𝓤)) → ent 𝓤 (guard 𝓤 φ (mean 𝓛 i) ∗ guard 𝓤 ψ (⋆ 𝓛 Γ))
        (guard 𝓤 (φ × ψ) (⋆ 𝓛 (i ∷ Γ)))
    with-guards φ ψ i Γ =
        ex∗ 𝓤 (λ (_ : φ). mean 𝓛 i) (guard 𝓤 ψ (⋆ 𝓛 Γ)) (λ a. via 𝓤 (guard 𝓤 ψ (⋆ 𝓛 Γ) ∗ mean 𝓛 i) (comm∗ 𝓤 (mean 𝓛 i)
        (guard 𝓤 ψ (⋆ 𝓛 Γ)))
        (ex∗ 𝓤 (λ (_ : ψ). ⋆ 𝓛 Γ) (mean 𝓛 i) (λ b. via 𝓤 (mean 𝓛 i ∗ ⋆ 𝓛 Γ) (comm∗ 𝓤 (⋆ 𝓛 Γ) (mean 𝓛 i))
        (via 𝓤 (⋆ 𝓛 (i ∷ Γ)) (push 𝓛 i Γ) (guard_i 𝓤 (φ × ψ) (⋆ 𝓛 (i ∷ Γ)) (a, b))))))

    pub returns : (j : ℕ) (ps : List Par) (ws : Bounds j ps) → ent 𝓤 (alive ps ∗ (⟦ lasts j ps ws ⟧ ∗ ⟦ kepts ps ⟧)) (guard 𝓤 (Sames j ps ws)
        (⋆ 𝓛 (outs 𝓤 j ps ws)))
    returns j [] ws = via 𝓤 (emp 𝓤) (fst∗ 𝓤 (emp 𝓤) (emp 𝓤 ∗ emp 𝓤)) (guard_i 𝓤 (Unit {0}) (emp 𝓤) tt)
    returns j (dat D x ∷ ps) ws =
        via 𝓤 (alive ps ∗ (⟦ lasts j ps ws.1 ⟧ ∗ ⟦ kepts ps ⟧)) (mono_r 𝓤 (alive ps) (mono_l 𝓤 ⟦ kepts ps ⟧ (snd∗ 𝓤 ⟦ left (D.type.exit yes) x
        ws.0 ⟧ ⟦ lasts j ps ws.1 ⟧))) (returns j ps ws.1)
    returns j (brw k h y ∷ ps) ws =
        via 𝓤 ((⟦ token h ⟧ ∗ (⟦ left-of (named j) h k y ws.0 ⟧ ∗ ⟦ Kept k h y ⟧)) ∗ (alive ps ∗ (⟦ lasts (suc j) ps ws.1 ⟧ ∗ ⟦ kepts ps ⟧)))
        (by_one ⟦ token h ⟧ ⟦ left-of (named j) h k y ws.0 ⟧ ⟦ Kept k h y ⟧ (alive ps) ⟦ lasts (suc j) ps ws.1 ⟧ ⟦ kepts ps ⟧)
        (via 𝓤 (guard 𝓤 (Same (named j) h k y ws.0) ⟦ Out k h (last_of (named j) h k y ws.0) ⟧ ∗ guard 𝓤 (Sames (suc j) ps ws.1)
        (⋆ 𝓛 (outs 𝓤 (suc j) ps ws.1)))
        (mono∗ 𝓤 (leaves 𝓛 (named j) h k y ws.0) (returns (suc j) ps ws.1))
        (with-guards (Same (named j) h k y ws.0) (Sames (suc j) ps ws.1) (‵ (Out k h (last_of (named j) h k y ws.0))) (outs 𝓤 (suc j) ps ws.1)))
