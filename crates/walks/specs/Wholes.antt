-- The laws that ask for a `Row` or for the laws of a `&`, at every type and with no law asked: at `whole R`. Its `&` is what each type's was in the older library; its
-- `&[T]` is a share of each element, where the older one had one share of all of them.
--     Row_open         the borrows of a row's elements, each open by its part of the token's share, while the share q of each is out.        row-opens, row-shuts
--     Looked_whole     what waits while element i is looked at: what it owns, the others, the row's borrows, open, and the slice
-- Assumes `Logic`.
use Rattle.std.specs.Prelude.{◌≡◌, ℕ, ◌+◌, ◌<◌, List, [], ◌∷◌, length, get_or}
use mathlib.Mathlib.Data.Part.{◌∈◌}
use seplogic.Ra.Ura.{Ura}
use mir.Syntax.{named}
use mir.Val.{Val}
use base.Fraction.{full_share}
use base.FractionLaws.{common}
use base.Share
use base.Share.{left, right}
use base.Logic.{SProp, ent, sep, ex, wand, wand_i, via, comm∗, apply∗}
use base.Fml.{GName, Share, Lft, Fml, fsep, fex, fwand, flft, fobor}
use types.Logic.{Logic, sem}
use types.Kit.{Item, ‵, ◌⊛◌, some, later, await, Goal, Soaks, Seq, Step, step, ◌$◌, !, qed, done, assume, updating, now, show, move, use1, use2, drop, split, pick, fsplit, fjoin, fpick, fpack}
use types.Tokens.{shr_bor-open, obor_close}
use denote.RattleType.{RattleType}
use denote.Laws.{Is, Tells, Copy, shows}
use denote.Ref.{mut_vals}
use denote.Memory.{mem, shares, part_at}
use denote.Slice.{shr_slice_copy, elements_shared}
use denote.Index.{row, others, elem_out, elem_back}
use denote.Opens.{Cuts, Cuts-Halves}
use denote.Copied.{told_Cuts}
use Rattle.walks.specs.Rows.{whole, rows-cut}
use Rattle.walks.specs.Loans.{Loan, Kind, mut_ref, shr_ref, mut_slice, shr_slice, mut_at, owned, ref, In, Out}
use Rattle.walks.specs.Lends.{relent, WaitsShared, WaitsSharedRef, shares-slice, unshares-slice, shares-ref, unshares-ref}
use Rattle.walks.specs.Elements.{Cell}

abbrev pub whole_ref : RattleType → Kind
whole_ref R = shr_ref (whole R).type (whole R).laws

abbrev pub whole_slice : RattleType → Kind
whole_slice R = shr_slice (whole R).type (whole R).laws

module _ {M : Type 1} {𝓤 : Ura M} {𝓛 : Logic 𝓤} {K : Type 0} {Γ : List (Item 𝓤)} {G : Goal 𝓤 𝓛.H} where
  pub shares-slice-whole : K → Soaks G → (R : RattleType) (h : Loan) (ys : List R.Denot)
      → ((ν : ℕ) (δ : GName) → Seq K 𝓛 (‵ (In (whole_slice R) (relent h ν δ) ys) ∷ ‵ (WaitsShared R h ys ν) ∷ Γ) G) → Seq K 𝓛 (‵ (In (mut_slice R) h ys) ∷ Γ) G
  shares-slice-whole t z R = shares-slice t z (whole R)

  pub shares-ref-whole : K → Soaks G → (R : RattleType) (h : Loan) (x : R.Denot)
      → (h.val ∷ [] ≡ mut_vals (mut_at h x) → (ν : ℕ) (δ : GName) → Seq K 𝓛 (‵ (In (whole_ref R) (relent h ν δ) x) ∷ ‵ (WaitsSharedRef R h x ν) ∷ Γ) G)
      → Seq K 𝓛 (‵ (In (mut_ref R) h x) ∷ Γ) G
  shares-ref-whole t z R = shares-ref t z (whole R)

  pub unshares-slice-whole : K → Soaks G → (R : RattleType) (h : Loan) (ys : List R.Denot) (ν : ℕ) (δ : GName)
      → Step K 𝓛 (‵ (In (mut_slice R) h ys) ∷ Γ) G (‵ (Out (whole_slice R) (relent h ν δ) ys) ∷ ‵ (WaitsShared R h ys ν) ∷ Γ) G
  unshares-slice-whole t z R = unshares-slice t z (whole R).type (whole R).laws

  pub unshares-ref-whole : K → Soaks G → (R : RattleType) (h : Loan) (x : R.Denot) (ν : ℕ) (δ : GName) → h.val ∷ [] ≡ mut_vals (mut_at h x)
      → Step K 𝓛 (‵ (In (mut_ref R) h x) ∷ Γ) G (‵ (Out (whole_ref R) (relent h ν δ) x) ∷ ‵ (WaitsSharedRef R h x ν) ∷ Γ) G
  unshares-ref-whole t z R = unshares-ref t z (whole R).type (whole R).laws

-- ---- the elements, all looked at
module _ (R : RattleType) (κ : Lft) where
  abbrev pub Row_open : Share → List R.Denot → ℕ → ℕ → Share → Fml
  Row_open q [] b o s = flft κ s
  Row_open q (x ∷ xs) b o s = fsep (fex Share (λ r. fsep (fobor κ (left s) (part_at R r x b o)) (fwand (part_at R q x b o) (part_at R r x b o))))
      (Row_open q xs b (o + (mem R).size) (right s))

module _ {M : Type 1} {𝓤 : Ura M} (𝓛 : Logic 𝓤) (R : RattleType) (κ : Lft) where
  open 𝓛 use {H, A}

  abbrev Waits : Share → R.Denot → ℕ → ℕ → Share → Share → Fml
  Waits q x b o s r = fsep (fobor κ s (part_at R r x b o)) (fwand (part_at R q x b o) (part_at R r x b o))

  row-shuts : (q : Share) (xs : List R.Denot) (b o : ℕ) (s : Share)
      → ent 𝓤 (sep 𝓤 (sem 𝓛 (row R q xs b o)) (sem 𝓛 (Row_open R κ q xs b o s))) (H.⇛ (A.lft κ s))
  row-shuts q [] b o s = qed 𝓛 (‵ (row R q [] b o) ∷ ‵ (flft κ s) ∷ []) {P = H.⇛ (A.lft κ s)} (drop ! $ updating ! $ now ! $ done !)
  row-shuts q (x ∷ xs) b o s =
      qed 𝓛 (‵ (row R q (x ∷ xs) b o) ∷ ‵ (Row_open R κ q (x ∷ xs) b o s) ∷ []) {P = H.⇛ (A.lft κ s)} (updating ! $ fsplit ! $ move ! (2 ∷ []) $ fsplit ! $ fpick ! (λ r. fsplit ! $
      -- [the borrow; what joins; the others' borrows; the element; the others]
      move ! (3 ∷ 1 ∷ []) $ use2 𝓛 (‵ (part_at R r x b o)) (apply∗ 𝓤 (sem 𝓛 (part_at R q x b o)) (sem 𝓛 (part_at R r x b o))) $
      move ! (1 ∷ 0 ∷ []) $ obor_close ! tt $ drop ! $ move ! (2 ∷ 1 ∷ []) $
      use2 𝓛 (later (‵ (flft κ (right s)))) (row-shuts q xs b (o + (mem R).size) (right s)) $ await ! tt $ move ! (1 ∷ 0 ∷ []) $
      use2 𝓛 (‵ (flft κ s)) (𝓛.lfts.lft_join κ s) $ now ! $ done !))

  module _ (cuts : (x : R.Denot) (b o : ℕ) → Cuts 𝓛 (λ q. part_at R q x b o)) where
    -- what joins a share to a borrow's, of a smaller share where the rest is in hand
    joins : (c d q : Share) → q ∈ Share.op c d → (x : R.Denot) (b o : ℕ) (r : Share) → ent 𝓤 (sep 𝓤 (sem 𝓛 (part_at R d x b o))
        (sem 𝓛 (fwand (part_at R q x b o) (part_at R r x b o)))) (sem 𝓛 (fwand (part_at R c x b o) (part_at R r x b o)))
    joins c d q m x b o r =
        qed 𝓛 (‵ (part_at R d x b o) ∷ ‵ (fwand (part_at R q x b o) (part_at R r x b o)) ∷ [])
        {P = wand 𝓤 (sem 𝓛 (part_at R c x b o)) (sem 𝓛 (part_at R r x b o))} (assume ! (‵ (part_at R c x b o)) $ move ! (0 ∷ 1 ∷ []) $
        use2 𝓛 (‵ (part_at R q x b o)) ((cuts x b o).join q c d m) $ use2 𝓛 (‵ (part_at R r x b o)) (apply∗ 𝓤 (sem 𝓛 (part_at R q x b o)) (sem 𝓛 (part_at R r x b o))) $ done !)

    less : (c d q : Share) → q ∈ Share.op c d → (xs : List R.Denot) (b o : ℕ) (s : Share)
        → ent 𝓤 (sep 𝓤 (sem 𝓛 (row R d xs b o)) (sem 𝓛 (Row_open R κ q xs b o s))) (sem 𝓛 (Row_open R κ c xs b o s))
    less c d q m [] b o s = qed 𝓛 (‵ (row R d [] b o) ∷ ‵ (flft κ s) ∷ []) {P = A.lft κ s} (drop ! $ done !)
    less c d q m (x ∷ xs) b o s =
        qed 𝓛 (‵ (row R d (x ∷ xs) b o) ∷ ‵ (Row_open R κ q (x ∷ xs) b o s) ∷ []) {P = sem 𝓛 (Row_open R κ c (x ∷ xs) b o s)} (fsplit ! $ move ! (2 ∷ []) $ fsplit ! $ fpick ! (λ r. fsplit ! $
        -- [the borrow; what joins; the others' borrows; the element; the others]
        move ! (3 ∷ 1 ∷ []) $ use2 𝓛 (‵ (fwand (part_at R c x b o) (part_at R r x b o))) (joins c d q m x b o r) $ move ! (1 ∷ 0 ∷ []) $ fjoin ! $
        fpack ! Share (Waits c x b o (left s)) r $ move ! (2 ∷ 1 ∷ []) $
        use2 𝓛 (‵ (Row_open R κ c xs b (o + (mem R).size) (right s))) (less c d q m xs b (o + (mem R).size) (right s)) $ move ! (1 ∷ 0 ∷ []) $ fjoin ! $ done !))

    row-opens : (xs : List R.Denot) (b o : ℕ) (s : Share) → ent 𝓤 (sep 𝓤 (sem 𝓛 (elements_shared (whole R).type xs b o κ)) (A.lft κ s))
        (H.⇛ (ex 𝓤 (λ (q : Share). sep 𝓤 (sem 𝓛 (row R q xs b o)) (sem 𝓛 (Row_open R κ q xs b o s)))))
    row-opens [] b o s =
        qed 𝓛 (‵ (elements_shared (whole R).type [] b o κ) ∷ ‵ (flft κ s) ∷ []) {P = H.⇛ (ex 𝓤 (Out [] b o s))} (updating ! $ now ! $ show ! (Out [] b o s) full_share $ done !)
      where
        Out : List R.Denot → ℕ → ℕ → Share → Share → SProp 𝓤
        Out xs b o s q = sep 𝓤 (sem 𝓛 (row R q xs b o)) (sem 𝓛 (Row_open R κ q xs b o s))
    row-opens (x ∷ xs) b o s =
        qed 𝓛 (‵ (elements_shared (whole R).type (x ∷ xs) b o κ) ∷ ‵ (flft κ s) ∷ []) {P = H.⇛ (ex 𝓤 Out)} (updating ! $ fsplit ! $ move ! (2 ∷ []) $
        use1 𝓛 (‵ (flft κ (left s)) ⊛ ‵ (flft κ (right s))) (𝓛.lfts.lft_split κ s) $ split ! $ move ! (2 ∷ 0 ∷ []) $
        shr_bor-open ! tt (Cuts-Halves 𝓛 (λ r. part_at R r x b o) (cuts x b o)) (λ r.
        -- [the borrow; the element; the token; the others]
        move ! (3 ∷ 2 ∷ []) $
        use2 𝓛 (later (some (λ (q : Share). ‵ (row R q xs b (o + (mem R).size)) ⊛ ‵ (Row_open R κ q xs b (o + (mem R).size) (right s)))))
        (row-opens xs b (o + (mem R).size) (right s)) $ await ! tt $ pick ! (λ q. split ! $
        -- [the others; their borrows; the borrow; the element]
        let c = (common r q).0 in
        let d = (common r q).1 in
        let e = (common r q).2 in
        use1 𝓛 (‵ (row R c xs b (o + (mem R).size)) ⊛ ‵ (row R e xs b (o + (mem R).size))) ((rows-cut 𝓛 R cuts xs b (o + (mem R).size)).cut q c e (common r q).4) $ split ! $
        move ! (1 ∷ 2 ∷ []) $ use2 𝓛 (‵ (Row_open R κ c xs b (o + (mem R).size) (right s))) (less c e q (common r q).4 xs b (o + (mem R).size) (right s)) $
        -- [the others' borrows; the others; the borrow; the element]
        move ! (3 ∷ []) $ use1 𝓛 (‵ (part_at R c x b o) ⊛ ‵ (part_at R d x b o)) ((cuts x b o).cut r c d (common r q).3) $ split ! $
        -- [the element; its rest; the others' borrows; the others; the borrow]
        move ! (0 ∷ 3 ∷ []) $ fjoin ! $ move ! (1 ∷ []) $ use1 𝓛 (‵ (fwand (part_at R c x b o) (part_at R r x b o))) (wand_i 𝓤 (sem 𝓛 (part_at R d x b o)) (sem 𝓛 (part_at R c x b o)) (sem 𝓛 (part_at R r x b o))
        (via 𝓤 (sep 𝓤 (sem 𝓛 (part_at R c x b o)) (sem 𝓛 (part_at R d x b o))) (comm∗ 𝓤 (sem 𝓛 (part_at R d x b o)) (sem 𝓛 (part_at R c x b o))) ((cuts x b o).join r c d (common r q).3))) $
        -- [what joins; the row; the others' borrows; the borrow]
        move ! (3 ∷ 0 ∷ []) $ fjoin ! $ fpack ! Share (Waits c x b o (left s)) r $ move ! (0 ∷ 2 ∷ []) $ fjoin ! $ move ! (1 ∷ 0 ∷ []) $ now ! $ show ! Out c $ done !)))
      where
        Out : Share → SProp 𝓤
        Out q = sep 𝓤 (sem 𝓛 (row R q (x ∷ xs) b o)) (sem 𝓛 (Row_open R κ q (x ∷ xs) b o s))

module _ (R : RattleType) (h : Loan) (ys : List R.Denot) (i : ℕ) where
  abbrev pub Looked_whole : Share → R.Denot → List Val → Fml
  Looked_whole q d vs = fsep (R.own_val (get_or ys i d) vs) (fsep (others (shares R) q ys i h.block h.off)
      (fsep (Row_open R h.lft q ys h.block h.off h.share) (owned (whole_slice R) (named 0) h ys)))

module _ {M : Type 1} {𝓤 : Ura M} {𝓛 : Logic 𝓤} {K : Type 0} {Γ : List (Item 𝓤)} {G : Goal 𝓤 𝓛.H} where
  pub looks-at-whole : K → Soaks G → (R : RattleType) (vals : R.Denot → List Val) → Tells R (Is R) vals → Copy 𝓛 R → (h : Loan) (ys : List R.Denot) (i : ℕ)
      (d : R.Denot) → i < length ys
      → ((q : Share) → Is R (get_or ys i d) (vals (get_or ys i d)) → Seq K 𝓛 (‵ (Cell R h ys i q (vals (get_or ys i d))) ∷ ‵
      (Looked_whole R h ys i q d (vals (get_or ys i d))) ∷ Γ) G) → Seq K 𝓛 (‵ (In (whole_slice R) h ys) ∷ Γ) G
  looks-at-whole t z R vals tl cp h ys i d l k =
      fsplit t $ use1 𝓛 (‵ (owned (whole_slice R) (named 0) h ys) ⊛ ‵ (owned (whole_slice R) (named 0) h ys)) ((shr_slice_copy 𝓛 (named 0) h.lft
      (whole R).type (whole R).laws).twice (ref (named 0) h.lft h (whole_slice R) ys) (h.val ∷ [])) $ split t $ fsplit t $ drop t $ move t (0 ∷ 2 ∷ []) $
      use2 𝓛 (later (some (λ (q : Share). ‵ (row R q ys h.block h.off) ⊛ ‵ (Row_open R h.lft q ys h.block h.off h.share))))
      (row-opens 𝓛 R h.lft (told_Cuts 𝓛 R vals tl cp) ys h.block h.off h.share) $ await t z $ pick t (λ q. split t $
      elem_out t R (Is R) (shows 𝓛 R) vals tl q ys i d h.block h.off l (λ g.
      -- [the cell; what it owns; the others; the row's borrows; the slice]
      move t (3 ∷ 4 ∷ []) $ fjoin t $ move t (3 ∷ 0 ∷ []) $ fjoin t $ move t (2 ∷ 0 ∷ []) $ fjoin t $ move t (1 ∷ 0 ∷ []) $ k q g))

  pub shuts-at-whole : K → Soaks G → (R : RattleType) (h : Loan) (ys : List R.Denot) (i : ℕ) (d : R.Denot) (q : Share) (vs : List Val) → i < length ys
      → Step K 𝓛 (‵ (In (whole_slice R) h ys) ∷ Γ) G (‵ (Cell R h ys i q vs) ∷ ‵ (Looked_whole R h ys i q d vs) ∷ Γ) G
  shuts-at-whole t z R h ys i d q vs l = step (λ s. move t (1 ∷ []) $ fsplit t $ move t (1 ∷ []) $ fsplit t $ move t (1 ∷ []) $ fsplit t $
      -- [the row's borrows; the slice; the others; what it owns; the cell]
      move t (4 ∷ 3 ∷ 2 ∷ []) $ elem_back t R q ys i d vs h.block h.off l $
      use2 𝓛 (later (‵ (flft h.lft h.share))) (row-shuts 𝓛 R h.lft q ys h.block h.off h.share) $ await t z $ move t (1 ∷ 0 ∷ []) $ fjoin t $ s)
