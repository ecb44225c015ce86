-- Targets noted word by word. `noted-long`: as many cells as before; `from-below`: cells below the block's stay; `from-reached`: where all words
-- of a position have one target, and there is such a word, the position's cell has it.
use Rattle.std.specs.Prelude.{ℕ, zero, suc, ◌+◌, ◌≤◌, ◌<◌, true, false, List, ◌≡◌, eqb, length, get_or, set}
use Rattle.std.proofs.Common.{arith, sym, ap, ap₂, ◌∙◌, eqb-true, eq-eqb, length-set, get_or-set_same, get_or-set_other}
use Rattle.std.proofs.Math.Bool.{◌&&◌}
use Rattle.std.proofs.Math.Path.{refl}
use Rattle.std.proofs.lemmas.Bool.{eqb-false}
use Rattle.laws.specs.Tests.{split, both}
use Rattle.laws.specs.Lists.{get_d_set}
use Rattle.resolved.specs.Resolved.{position_in, level_in, target_in, direct}
use Rattle.copy_texts.specs.Texts.{noted, noted_from}

-- One word

module _ (targets : List ℕ) (lowest level w : ℕ) where
  noted_here : level_in w ≡ level → direct w ≡ true → noted targets lowest level w ≡ set targets (lowest + position_in w) (target_in w)
  unfolding noted
  noted_here l d = rw (ap₂ ◌&&◌ (eq-eqb (level_in w) level l) d, noted)

  noted-not : eqb (level_in w) level && direct w ≡ false → noted targets lowest level w ≡ targets
  unfolding noted
  noted-not f = rw (f, noted)

  by-noting : {X : Type 0} → (level_in w ≡ level → direct w ≡ true → noted targets lowest level w ≡ set targets (lowest + position_in w) (target_in w) → X)
      → (noted targets lowest level w ≡ targets → X) → X
  by-noting here not-here =
      split (eqb (level_in w) level && direct w)
      (λ t. let b = both (eqb (level_in w) level) (direct w) t in let l = eqb-true (level_in w) level b.0 in here l b.1 (noted_here l b.1))
      (λ f. not-here (noted-not f))

  noted-length : length (noted targets lowest level w) ≡ length targets
  noted-length = by-noting (λ l d e. ap length e ∙ length-set targets (lowest + position_in w) (target_in w)) (λ e. ap length e)

  noted-below : (i : ℕ) → i < lowest → get_or (noted targets lowest level w) i 0 ≡ get_or targets i 0
  noted-below i h =
      by-noting (λ l d e. ap (λ (ts : List ℕ). get_or ts i 0) e ∙ get_or-set_other targets (lowest + position_in w) i (target_in w) 0 (λ z. omega arith))
      (λ e. ap (λ (ts : List ℕ). get_or ts i 0) e)

-- what a word says of the name at position p of the level's block: that it leads to v
abbrev pub Leads : ℕ → ℕ → ℕ → ℕ → Type 0
Leads level p v w = level_in w ≡ level → direct w ≡ true → position_in w ≡ p → target_in w ≡ v

noted-stays : (targets : List ℕ) (lowest level p v w : ℕ) → Leads level p v w → get_or targets (lowest + p) 0 ≡ v → get_or (noted targets lowest level w) (lowest + p) 0 ≡ v
noted-stays targets lowest level p v w leads q =
    by-noting targets lowest level w
    (λ l d e. ap (λ (ts : List ℕ). get_or ts (lowest + p) 0) e ∙ split (eqb (position_in w) p)
    (λ t. get_d_set (λ x. x ≡ v) targets (lowest + position_in w) (lowest + p) (target_in w) 0 (leads l d (eqb-true (position_in w) p t)) q)
    (λ f. get_or-set_other targets (lowest + position_in w) (lowest + p) (target_in w) 0 (λ z. eqb-false (position_in w) p f (omega arith)) ∙ q))
    (λ e. ap (λ (ts : List ℕ). get_or ts (lowest + p) 0) e ∙ q)

noted-reached : (targets : List ℕ) (lowest level p v w : ℕ) → lowest + p < length targets → Leads level p v w → level_in w ≡ level → direct w ≡ true → position_in w ≡ p
    → get_or (noted targets lowest level w) (lowest + p) 0 ≡ v
noted-reached targets lowest level p v w room leads l d s =
    let z : lowest + position_in w ≡ lowest + p = ap (lowest +◌) s in
    ap (λ (ts : List ℕ). get_or ts (lowest + p) 0) (noted_here targets lowest level w l d ∙ ap (λ i. set targets i (target_in w)) z)
    ∙ get_or-set_same targets (lowest + p) (target_in w) 0 room ∙ leads l d s

-- Several

module _ (names : List ℕ) (lowest level : ℕ) where
  from-none : (targets : List ℕ) (q : ℕ) → noted_from targets names lowest level q 0 ≡ targets
  unfolding noted_from
  from-none targets q = refl

  from_next : (targets : List ℕ) (q n : ℕ) → noted_from targets names lowest level q (suc n) ≡ noted_from (noted targets lowest level (get_or names q 0)) names lowest level (q + 1) n
  unfolding noted_from
  from_next targets q n = refl

  pub noted-long : (targets : List ℕ) (q n : ℕ) → length (noted_from targets names lowest level q n) ≡ length targets
  noted-long targets q zero = ap length (from-none targets q)
  noted-long targets q (suc n) =
      ap length (from_next targets q n) ∙ noted-long (noted targets lowest level (get_or names q 0)) (q + 1) n ∙ noted-length targets lowest level (get_or names q 0)

  pub from-below : (targets : List ℕ) (q n i : ℕ) → i < lowest → get_or (noted_from targets names lowest level q n) i 0 ≡ get_or targets i 0
  from-below targets q zero i h = ap (λ (ts : List ℕ). get_or ts i 0) (from-none targets q)
  from-below targets q (suc n) i h =
      ap (λ (ts : List ℕ). get_or ts i 0) (from_next targets q n) ∙ from-below (noted targets lowest level (get_or names q 0)) (q + 1) n i h
      ∙ noted-below targets lowest level (get_or names q 0) i h

  module _ (p v : ℕ) where
    -- all words from place q on, n of them
    abbrev pub AllLead : ℕ → ℕ → Type 0
    AllLead q n = (i : ℕ) → q ≤ i → i < q + n → Leads level p v (get_or names i 0)

    from-stays : (targets : List ℕ) (q n : ℕ) → AllLead q n → get_or targets (lowest + p) 0 ≡ v → get_or (noted_from targets names lowest level q n) (lowest + p) 0 ≡ v
    from-stays targets q zero lead s = ap (λ (ts : List ℕ). get_or ts (lowest + p) 0) (from-none targets q) ∙ s
    from-stays targets q (suc n) lead s =
        ap (λ (ts : List ℕ). get_or ts (lowest + p) 0) (from_next targets q n)
        ∙ from-stays (noted targets lowest level (get_or names q 0)) (q + 1) n (λ i l h. lead i (omega arith) (omega arith))
        (noted-stays targets lowest level p v (get_or names q 0) (lead q (omega arith) (omega arith)) s)

    -- and one of them says so
    pub from-reached : (targets : List ℕ) (q n i : ℕ) → lowest + p < length targets → AllLead q n → q ≤ i → i < q + n
        → level_in (get_or names i 0) ≡ level → direct (get_or names i 0) ≡ true → position_in (get_or names i 0) ≡ p → get_or (noted_from targets names lowest level q n) (lowest + p) 0 ≡ v
    from-reached targets q zero i room lead low high l d s = absurd (omega arith)
    from-reached targets q (suc n) i room lead low high l d s =
        let after = noted targets lowest level (get_or names q 0) in
        let rest : AllLead (q + 1) n = λ j a b. lead j (omega arith) (omega arith) in
        let long : lowest + p < length after = omega (arith, noted-length targets lowest level (get_or names q 0)) in
        ap (λ (ts : List ℕ). get_or ts (lowest + p) 0) (from_next targets q n)
        ∙ split (eqb q i)
        (λ t.
        let same : i ≡ q = sym (eqb-true q i t) in
        let w : get_or names i 0 ≡ get_or names q 0 = ap (λ j. get_or names j 0) same in
        from-stays after (q + 1) n rest
        (noted-reached targets lowest level p v (get_or names q 0) room (lead q (omega arith) (omega arith)) (ap level_in (sym w) ∙ l) (ap direct (sym w) ∙ d) (ap position_in (sym w) ∙ s)))
        (λ f. from-reached after (q + 1) n i long rest (omega (arith, eqb-false q i f)) (omega arith) l d s)
