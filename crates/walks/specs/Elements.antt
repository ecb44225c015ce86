-- One element of a slice in hand, which is looked at or written. R's relation tells its machine values, `vals`, and R is plain data.
--     looks-at         a `&[T]` in hand becomes, where i is within, a share of the cell of element i, and what waits (`Looked`, an entry).        shuts-at     and back
--     looks-by         the same, by the laws of T that it needs
--     opens_at         a `&mut [T]` in hand becomes the cell of element i, and what waits.        closes_at    and back, with another value in the cell
-- Assumes `Logic`.
use Rattle.std.specs.Prelude.{ℕ, ◌<◌, List, [], ◌∷◌, length, get_or, set}
use Rattle.std.proofs.Common.{length-set}
use seplogic.Ra.Ura.{Ura}
use base.Fraction.{full_share}
use mir.Syntax.{named}
use mir.Val.{Val}
use base.Fml.{Share, Fml, fsep}
use types.Logic.{Logic}
use types.Kit.{Item, ‵, ◌⊛◌, Goal, Soaks, Seq, Step, step, ◌$◌, move, use1, drop, split, join, fsplit, fjoin}
use denote.RattleType.{RattleType, RowLaws}
use denote.Copied.{told_Cuts}
use denote.Opens.{Shut, Cuts, Opens, shr_open}
use denote.Laws.{Is, Tells, Makes, Copy, shows}
use denote.Memory.{cell_at, part_at, mem, shares}
use denote.Slice.{shr_slice_copy, elements_shared}
use denote.Index.{row, place, others, elem_out, elem_back, elem_put, shuts_slice}
use denote.Steps.{owned as makes-owned}
use Rattle.walks.specs.Loans.{Loan, mut_slice, shr_slice, owned, ref, In}
use Rattle.walks.specs.Rows.{Row, rows-opened}
use Rattle.walks.specs.Lends.{Open, opened, closed}

module _ (R : RattleType) (h : Loan) (ys : List R.Denot) (i : ℕ) where
  -- the cell of element i, with the machine values vs
  abbrev pub Cell : Share → List Val → Fml
  Cell q vs = cell_at q R.mir vs h.block (place (mem R).size h.off i)

  abbrev pub Opened : Fml
  Opened = fsep (others (shares R) full_share ys i h.block h.off) (Open R h ys)

module _ {M : Type 1} {𝓤 : Ura M} (𝓛 : Logic 𝓤) (R : RattleType) (L : RowLaws R) (h : Loan) (ys : List R.Denot) (i : ℕ) where
  abbrev pub Looked : Share → R.Denot → List Val → Item 𝓤
  Looked q d vs = ‵ (R.own_val (get_or ys i d) vs) ⊛ (‵ (others (shares R) q ys i h.block h.off) ⊛
      (Shut 𝓛 h.lft h.share (row R q ys h.block h.off) ⊛ ‵ (owned (shr_slice R L) (named 0) h ys)))

module _ {M : Type 1} {𝓤 : Ura M} {𝓛 : Logic 𝓤} {K : Type 0} {Γ : List (Item 𝓤)} {G : Goal 𝓤 𝓛.H} where
  -- by what is needed of the type alone: its shares are cut and joined, and a `&` to it is opened
  pub looks-by : K → Soaks G → (R : RattleType) (L : RowLaws R) (vals : R.Denot → List Val) → Tells R (Is R) vals
      → ((x : R.Denot) (b o : ℕ) → Cuts 𝓛 (λ q. part_at R q x b o)) → Opens 𝓛 R → (h : Loan) (ys : List R.Denot) (i : ℕ) (d : R.Denot) → i < length ys
      → ((q : Share) → Is R (get_or ys i d) (vals (get_or ys i d)) → Seq K 𝓛 (‵ (Cell R h ys i q (vals (get_or ys i d))) ∷
      Looked 𝓛 R L h ys i q d (vals (get_or ys i d)) ∷ Γ) G) → Seq K 𝓛 (‵ (In (shr_slice R L) h ys) ∷ Γ) G
  looks-by t z R L vals tl cuts op h ys i d l k =
      fsplit t $ use1 𝓛 (‵ (owned (shr_slice R L) (named 0) h ys) ⊛ ‵ (owned (shr_slice R L) (named 0) h ys)) ((shr_slice_copy 𝓛 (named 0) h.lft R L).twice
      (ref (named 0) h.lft h (shr_slice R L) ys) (h.val ∷ [])) $ split t $
      -- of the first copy the elements are taken: [them; the slice; the token]
      fsplit t $ drop t $ move t (0 ∷ 2 ∷ []) $
      shr_open t z (λ s. row R s ys h.block h.off) (elements_shared R ys h.block h.off) (rows-opened 𝓛 R cuts op ys h.block h.off) (λ q. move t (1 ∷ []) $
      elem_out t R (Is R) (shows 𝓛 R) vals tl q ys i d h.block h.off l (λ g.
      -- [the cell; what it owns; the others; what shuts; the slice]
      move t (3 ∷ 4 ∷ []) $ join t $ move t (3 ∷ 0 ∷ []) $ join t $ move t (2 ∷ 0 ∷ []) $ join t $ move t (1 ∷ 0 ∷ []) $ k q g))

  pub looks-at : K → Soaks G → (R : Row) (vals : R.type.Denot → List Val) → Tells R.type (Is R.type) vals → Copy 𝓛 R.type → (h : Loan) (ys : List R.type.Denot)
      (i : ℕ) (d : R.type.Denot) → i < length ys
      → ((q : Share) → Is R.type (get_or ys i d) (vals (get_or ys i d)) → Seq K 𝓛 (‵ (Cell R.type h ys i q (vals (get_or ys i d))) ∷
      Looked 𝓛 R.type R.laws h ys i q d (vals (get_or ys i d)) ∷ Γ) G) → Seq K 𝓛 (‵ (In (shr_slice R.type R.laws) h ys) ∷ Γ) G
  looks-at t z R vals tl cp = looks-by t z R.type R.laws vals tl (told_Cuts 𝓛 R.type vals tl cp) (R.opens M 𝓤 𝓛 vals tl cp)

  pub shuts-at : K → Soaks G → (R : RattleType) (L : RowLaws R) (h : Loan) (ys : List R.Denot) (i : ℕ) (d : R.Denot) (q : Share) (vs : List Val) → i < length ys
      → Step K 𝓛 (‵ (In (shr_slice R L) h ys) ∷ Γ) G (‵ (Cell R h ys i q vs) ∷ Looked 𝓛 R L h ys i q d vs ∷ Γ) G
  shuts-at t z R L h ys i d q vs l = step (λ s. move t (1 ∷ []) $ split t $ move t (1 ∷ []) $ split t $ move t (1 ∷ []) $ split t $
      -- [what shuts; the slice; the others; what it owns; the cell]
      move t (4 ∷ 3 ∷ 2 ∷ []) $ elem_back t R q ys i d vs h.block h.off l $ shuts_slice t z R q ys h.block h.off $ move t (1 ∷ 0 ∷ []) $ fjoin t $
      s)

  pub opens_at : K → Soaks G → (R : RattleType) (vals : R.Denot → List Val) → Tells R (Is R) vals → (h : Loan) (ys : List R.Denot) (i : ℕ) (d : R.Denot)
      → i < length ys
      → (Is R (get_or ys i d) (vals (get_or ys i d)) → Seq K 𝓛 (‵ (Cell R h ys i full_share (vals (get_or ys i d))) ∷ ‵ (Opened R h ys i) ∷ Γ) G)
      → Seq K 𝓛 (‵ (In (mut_slice R) h ys) ∷ Γ) G
  opens_at t z R vals tl h ys i d l k =
      opened t z R h ys (λ p. elem_out t R (Is R) (shows 𝓛 R) vals tl full_share ys i d h.block h.off l (λ g.
      -- [the cell; what it owns; the others; the open borrow]
      move t (1 ∷ []) $ drop t $ move t (1 ∷ 2 ∷ []) $ fjoin t $ move t (1 ∷ 0 ∷ []) $ k g))

  pub closes_at : K → Soaks G → (R : RattleType) → Makes 𝓛 R (Is R) → (h : Loan) (ys : List R.Denot) (i : ℕ) (y : R.Denot) (vs : List Val)
      → i < length ys → Is R y vs
      → Step K 𝓛 (‵ (In (mut_slice R) h (set ys i y)) ∷ Γ) G (‵ (Cell R h ys i full_share vs) ∷ ‵ (Opened R h ys i) ∷ Γ) G
  closes_at t z R mk h ys i y vs l is = step (λ s. move t (1 ∷ []) $ fsplit t $ makes-owned t R (Is R) mk y vs is $ move t (3 ∷ 0 ∷ []) $
      elem_put t R full_share ys i y vs h.block h.off l $ closed t z R h ys (set ys i y) (length-set ys i y) $ s)
