-- The search for the activation that declares a new name. `Narrowed`: it is not below `low`, and it is below `high` unless it is `low` itself;
-- where nothing is left between them, it is `low` (`owner-is`). The search begins with `narrowed-first` and goes on by `narrowed-up` and
-- `narrowed-down`. `cell-is`: the cell from what is noted of the activation found.
use Rattle.std.specs.Prelude.{ℕ, zero, suc, ◌+◌, ◌-◌, ◌≤◌, ◌<◌, Bool, true, false, List, ◌≡◌, refl, leb, get_or}
use Rattle.std.proofs.Common.{arith, ap, ◌∙◌, le-leb, leb-true, leb-false}
use Rattle.std.proofs.lemmas.Bool.{lt-leb}
use Rattle.copy_names.specs.Owner.{owner_in, cell_in, Sorted, Findable}

-- the outermost activation is the answer where no other is, whatever its first name
pub record Narrowed (firsts : List ℕ) (live low high x : ℕ) : Type 0 where
  pub within : low ≤ live
  pub from : 1 ≤ low → get_or firsts low 0 ≤ x
  pub below : (j : ℕ) → high ≤ j → low < j → j ≤ live → x < get_or firsts j 0

module _ (firsts : List ℕ) (live x : ℕ) where
  owner_here : leb (get_or firsts (suc live) 0) x ≡ true → owner_in firsts (suc live) x ≡ suc live
  unfolding owner_in
  owner_here t = rw (t, owner_in)

  owner-further : leb (get_or firsts (suc live) 0) x ≡ false → owner_in firsts (suc live) x ≡ owner_in firsts live x
  unfolding owner_in
  owner-further t = rw (t, owner_in)

pub owner-is : (firsts : List ℕ) (live low high x : ℕ) → high ≤ low + 1 → Narrowed firsts live low high x → owner_in firsts live x ≡ low
unfolding owner_in
owner-is firsts zero low high x h n = omega (arith, n.within)
owner-is firsts (suc live) low high x h n = go (leb (suc live) low) refl (owner-is firsts live low high x h)
  where
    go : (b : Bool) → leb (suc live) low ≡ b → (Narrowed firsts live low high x → owner_in firsts live x ≡ low) → owner_in firsts (suc live) x ≡ low
    go true t ih =
        let e : low ≡ suc live = omega (arith, n.within, leb-true (suc live) low t) in
        rw e (owner_here firsts live x (le-leb (get_or firsts (suc live) 0) x (rw e at (n.from (omega arith)))))
    go false t ih =
        let z = leb-false (suc live) low t in
        owner-further firsts live x (lt-leb (get_or firsts (suc live) 0) x (n.below (suc live) (omega arith) z (omega arith)))
        ∙ ih (record { within = omega arith; from = n.from; below = λ j a b c. n.below j a b (omega arith) })

-- the innermost activation's first name is not above x
pub owner-innermost : (firsts : List ℕ) (live x : ℕ) → get_or firsts live 0 ≤ x → owner_in firsts live x ≡ live
owner-innermost firsts live x h =
    owner-is firsts live live live x (omega arith) (record { within = omega arith; from = λ z. h; below = λ j a b c. absurd (omega arith) })

-- that of the activation above the program's is above x
pub owner-program : (firsts : List ℕ) (live x : ℕ) → Sorted firsts live → x < get_or firsts 1 0 → owner_in firsts live x ≡ 0
owner-program firsts live x sorted h =
    owner-is firsts live 0 1 x (omega arith)
    (record { within = omega arith; from = λ z. absurd (omega arith); below = λ j a b c. omega (arith, h, sorted 1 j a c) })

-- nor is that of the activation found
pub owner-reached : (firsts : List ℕ) (live x : ℕ) → get_or firsts 0 0 ≤ x → get_or firsts (owner_in firsts live x) 0 ≤ x
unfolding owner_in
owner-reached firsts zero x h = h
owner-reached firsts (suc live) x h = go (leb (get_or firsts (suc live) 0) x) refl (owner-reached firsts live x h)
  where
    go : (b : Bool) → leb (get_or firsts (suc live) 0) x ≡ b → get_or firsts (owner_in firsts live x) 0 ≤ x → get_or firsts (owner_in firsts (suc live) x) 0 ≤ x
    go true t ih = omega (arith, ap (λ (o : ℕ). get_or firsts o 0) (owner_here firsts live x t), leb-true (get_or firsts (suc live) 0) x t)
    go false t ih = omega (arith, ap (λ (o : ℕ). get_or firsts o 0) (owner-further firsts live x t))

-- the first name of the innermost activation is above x
pub narrowed-first : (firsts : List ℕ) (live x : ℕ) → x < get_or firsts live 0 → Narrowed firsts live 0 live x
narrowed-first firsts live x h =
    record {
      within = omega arith;
      from = λ z. absurd (omega arith);
      below = λ j a b c. let e : j ≡ live = omega arith in rw e h;
    }

module _ (firsts : List ℕ) (live low high x : ℕ) where
  pub narrowed-up : (middle : ℕ) → low ≤ middle → middle ≤ live → get_or firsts middle 0 ≤ x → Narrowed firsts live low high x → Narrowed firsts live middle high x
  narrowed-up middle up bound h n = record { within = bound; from = λ z. h; below = λ j a b c. n.below j a (omega arith) c }

  pub narrowed-down : (middle : ℕ) → Sorted firsts live → x < get_or firsts middle 0 → Narrowed firsts live low high x → Narrowed firsts live low middle x
  narrowed-down middle sorted h n =
      record { within = n.within; from = n.from; below = λ j a b c. omega (arith, sorted middle j a c) }

module _ (firsts starts : List ℕ) (live x home : ℕ) (owns : home ≡ owner_in firsts live x) where
  sum_is : get_or starts home 0 + (x - get_or firsts home 0) ≡ cell_in firsts starts live x
  unfolding cell_in
  sum_is = rw owns

  pub cell-is : (r : ℕ) → r ≡ get_or starts home 0 + (x - get_or firsts home 0) → r ≡ cell_in firsts starts live x
  cell-is r e = e ∙ sum_is

  -- what finding the cell there asks
  pub cell-asks : home ≤ 255 → Findable firsts starts live x
      → (home ≤ 255) × (get_or firsts home 0 ≤ x) × (get_or starts home 0 + (x - get_or firsts home 0) < 8192)
  cell-asks few w =
      (few, omega (arith, ap (λ (o : ℕ). get_or firsts o 0) owns, owner-reached firsts live x w.new), omega (arith, sum_is, w.has))
