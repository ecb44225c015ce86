-- Words copied, and targets noted, one after another.
use Prim.Native.Nat.{ℕ, suc, ◌+◌, ◌-◌, ◌≤◌, ◌<◌}
use native.Mathlib.Omega.{arith}
use mathlib.Core.Bool.{Bool, true, false}
use mathlib.Core.List.{List}
use mathlib.Core.Logic.{◌⊎◌, inl, inr}
use mathlib.Core.Path.{◌≡◌, refl, sym, ap, ◌∙◌}
use borrow.Author.Tests.{eqb-true, eqb-false}
use lib.Dec.{eqb}
use lib.ListN.{get_or, set, length-set}
use lib.Seq.{get_or-set_same, get_or-set_other}
use Rattle.resolved.specs.Resolved.{level_in, position_in, direct}
use Rattle.copy_texts.specs.Texts.{renewed, Copied, noted, noted_from}
use Rattle.copy_texts.specs.Copying.{Renewable, Copyable}
use Rattle.copy_texts.proofs.Renewing.{renewed-kept, renewed-new, renewed-formal}

module _ (names : List ℕ) (lowest level : ℕ) where
  pub notes-done : (targets : List ℕ) (q end : ℕ) → end ≤ q → targets ≡ noted_from targets names lowest level q (end - q)
  unfolding noted_from
  notes-done targets q end h = let e : end - q ≡ 0 = omega arith in rw (e, noted_from)

  pub notes-more :
      (targets targets' : List ℕ) (q end w : ℕ) → q < end → w ≡ get_or names q 0 → targets' ≡ noted targets lowest level w →
      noted_from targets' names lowest level (q + 1) (end - (q + 1)) ≡ noted_from targets names lowest level q (end - q)
  unfolding noted_from
  notes-more targets targets' q end w h e t =
      let n : end - q ≡ suc (end - (q + 1)) = omega arith in
      let p : targets' ≡ noted targets lowest level (get_or names q 0) = t ∙ ap (noted targets lowest level) e in
      rw (n, noted_from, p)

-- a name becomes the same where its argument is the same
pub renewed-same :
    (area area' : List ℕ) (given level first w old : ℕ) →
    (level_in w ≡ level → direct w ≡ false → get_or area' (given + position_in w) 0 ≡ get_or area (given + position_in w) 0) →
    renewed area' given level first w old ≡ renewed area given level first w old
renewed-same area area' given level first w old same = go (eqb (level_in w) level) refl (direct w) refl
  where
    go : (t : Bool) → eqb (level_in w) level ≡ t → (d : Bool) → direct w ≡ d → renewed area' given level first w old ≡ renewed area given level first w old
    go true e true d =
        let l = eqb-true _ _ e in
        sym (renewed-new area' given level first w old l d) ∙ renewed-new area given level first w old l d
    go true e false d =
        let l = eqb-true _ _ e in
        sym (renewed-formal area' given level first w old l d) ∙ same l d ∙ renewed-formal area given level first w old l d
    go false e d f =
        let l = eqb-false _ _ e in
        sym (renewed-kept area' given level first w old l) ∙ renewed-kept area given level first w old l

module _ (area names : List ℕ) (from to given level first lowest place end : ℕ) (can : Copyable area names from to given level first lowest place end) where
  pub copied_none : Copied area area names from to given level first place place
  copied_none = record { as_long = refl; copied = λ q l h. absurd (omega arith); before = λ i h. refl; after = λ i h. refl }

  pub copied_all :
      (area' : List ℕ) (q : ℕ) → q ≤ end → end ≤ q → Copied area area' names from to given level first place q →
      Copied area area' names from to given level first place end
  copied_all area' q l h c = let e : q ≡ end = omega arith in rw e at c

  module _ (area' : List ℕ) (q : ℕ) (low : place ≤ q) (high : q < end) (c : Copied area area' names from to given level first place q) where
    -- the word that is copied is still the old one
    pub old-there : get_or area' (from + q) 0 ≡ get_or area (from + q) 0
    old-there = go can.apart
      where
        go : (from ≡ to) ⊎ (from + end ≤ to + place) → get_or area' (from + q) 0 ≡ get_or area (from + q) 0
        go (inl e) = c.after (from + q) (omega arith)
        go (inr l) = c.before (from + q) (omega arith)

    pub renewable : (w : ℕ) → w ≡ get_or names q 0 → Renewable area' given level first w
    renewable w e =
        record {
          fits = can.fits;
          argument = λ l d.
              let h = can.arguments q low high (ap level_in (sym e) ∙ l) (ap direct (sym e) ∙ d) in
              omega (arith, h, e, can.new-room, c.as_long);
        }

    pub copied_more :
        (w x : ℕ) → w ≡ get_or names q 0 → x ≡ renewed area' given level first w (get_or area' (from + q) 0) →
        Copied area (set area' (to + q) x) names from to given level first place (q + 1)
    copied_more w x e r =
        record {
          as_long = length-set area' (to + q) x ∙ c.as_long;
          copied = λ p l h. go p l h (eqb p q) refl;
          before = λ i h. get_or-set_other area' (to + q) i x 0 (λ n. omega arith) ∙ c.before i h;
          after = λ i h. get_or-set_other area' (to + q) i x 0 (λ n. omega arith) ∙ c.after i (omega arith);
        }
      where
        new : x ≡ renewed area given level first (get_or names q 0) (get_or area (from + q) 0)
        new =
            r ∙ ap (λ (v : ℕ). renewed area' given level first v (get_or area' (from + q) 0)) e ∙
            ap (renewed area' given level first (get_or names q 0)) old-there ∙
            renewed-same area area' given level first (get_or names q 0) (get_or area (from + q) 0)
            (λ l d. c.before (given + position_in (get_or names q 0)) (can.arguments q low high l d))

        go : (p : ℕ) → place ≤ p → p < q + 1 → (t : Bool) → eqb p q ≡ t →
            get_or (set area' (to + q) x) (to + p) 0 ≡ renewed area given level first (get_or names p 0) (get_or area (from + p) 0)
        go p l h true t =
            let s : p ≡ q = eqb-true p q t in
            rw s (get_or-set_same area' (to + q) x 0 (omega (arith, can.new-room, c.as_long)) ∙ new)
        go p l h false t =
            let s : p ≡ q → ⊥ = eqb-false p q t in
            get_or-set_other area' (to + q) (to + p) x 0 (λ n. s (omega arith)) ∙ c.copied p l (omega arith)
