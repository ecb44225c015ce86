-- A list agrees with a table and its limit exactly where it reads as places and zeros and each number is a full count.
use Rattle.std.specs.Prelude.{ℕ, zero, suc, ◌+◌, ◌*◌, ◌-◌, ◌/◌, ◌≤◌, ◌<◌, ◌≡◌, refl, Bool, true, false, ◌&&◌, List, [], ◌∷◌, ◌⊎◌, ℤ, pos, nat_abs, take, replicate, None}
use Rattle.std.proofs.Math.Path.{sym, ap, subst}
use Rattle.std.proofs.Common.{◌∙◌, ap₂, inl, inr}
use native.Mathlib.Omega.{arith}
use Rattle.std.proofs.Math.ListN.{length}
use Rattle.std.proofs.Math.Seq.{length-take-le}
use Rattle.language.specs.Basics.{eq_z}
use Rattle.language.specs.Table.{Table, members, size, numbers_right, groups_within}
use Rattle.language.specs.Groups.{list_words, list_right}
use Rattle.laws.specs.Tests.{both, split, eq_z-true}
use Rattle.laws.specs.Tables.{group_at, group_at-suc, member_at-suc}
use Rattle.table_laws.specs.Pairs.{members-where}
use Rattle.table_laws.specs.Places.{Tallies, by_order}
use Rattle.table_laws.specs.Rightness.{numbers-means, within-means, within-hold, within_all}
use Rattle.table_laws.specs.RightLists.{placed, Lists, list-means, list-holds}
use Rattle.table_places.specs.Places.{all_zero, read_places, group_in, number_in}
use Rattle.table_places.proofs.Naturals.{from_one, natural-is}
use Rattle.table_totals.specs.Totals.{total-alike}
use Rattle.table_totals.specs.Placed.{HasPlace, members_of, Placed, Tallied, member-itself, placed_total, tallied-placed}
use Rattle.table_lists.specs.Reads.{Reads, reads-words, reads-place, reads-rising, reads_total, reads_same, reads-right}

-- ---- from words to natural numbers

abbrev none : ℕ → List ℤ
none k = replicate k (pos 0)

zeros-none : (l : List ℤ) → all_zero l ≡ true → l ≡ none (length l)
unfolding all_zero
zeros-none [] e = refl
zeros-none (a ∷ l) e =
    let b = both (eq_z a (pos 0)) (all_zero l) e in
    ap₂ ◌∷◌ (eq_z-true a (pos 0) b.0) (zeros-none l b.1)

none-zero : (k : ℕ) → all_zero (none k) ≡ true
unfolding all_zero eq_z
none-zero zero = refl
none-zero (suc k) = none-zero k

-- the words of n places
abbrev naturals : ℕ → List ℤ → List ℕ
naturals zero l = []
naturals (suc n) [] = []
naturals (suc n) (a ∷ []) = []
naturals (suc n) (a ∷ b ∷ l) = nat_abs a ∷ nat_abs b ∷ naturals n l

module _ (limit : ℕ) where
  naturals-length : (last left n : ℕ) (l : List ℤ) → Reads limit last left n l → length (naturals n l) ≡ 2 * n
  naturals-length last left zero l h = refl
  naturals-length last left (suc n) [] h = absurd h
  naturals-length last left (suc n) (a ∷ []) h = absurd h
  naturals-length last left (suc n) (a ∷ b ∷ l) h = omega (arith, naturals-length (nat_abs a) (left - nat_abs b) n l h.1)

  naturals-placed : (last left n : ℕ) (l : List ℤ) → Reads limit last left n l → l ≡ placed (naturals n l) (length l - 2 * n)
  naturals-placed last left zero l h = let e : length l ≡ length l - 2 * 0 = omega arith in zeros-none l h.1 ∙ ap none e
  naturals-placed last left (suc n) [] h = absurd h
  naturals-placed last left (suc n) (a ∷ []) h = absurd h
  naturals-placed last left (suc n) (a ∷ b ∷ l) h =
      let e : length l - 2 * n ≡ suc (suc (length l)) - 2 * suc n = omega arith in
      let rest = naturals-placed (nat_abs a) (left - nat_abs b) n l h.1 ∙ ap (placed (naturals n l)) e in
      λ i. h.0.group-is i ∷ h.0.number_is i ∷ rest i

  module _ (f : ℕ → ℕ) where
    naturals-tally :
        (last left n : ℕ) (l : List ℤ) → Reads limit last left n l → ((p : ℕ) → p < n → number_in l p ≡ f (group_in l p)) →
        ((g : ℕ) → last < g → ((p : ℕ) → p < n → group_in l p ≡ g → ⊥) → f g ≡ 0) → Tallies last f (naturals n l)
    naturals-tally last left zero l h full others = λ g b. others g b (λ p c. absurd (omega arith))
    naturals-tally last left (suc n) [] h full others = absurd h
    naturals-tally last left (suc n) (a ∷ []) h full others = absurd h
    naturals-tally last left (suc n) (a ∷ b ∷ l) h full others =
        let above : (p : ℕ) → p < suc n → nat_abs a ≤ group_in (a ∷ b ∷ l) p = λ p c. first-least p c in (
          h.0.rises,
          (
            λ g c d. others g c (λ p e z. omega (arith, above p e)),
            (
              full 0 (omega arith),
              (
                h.0.some,
                naturals-tally (nat_abs a) (left - nat_abs b) n l h.1 (λ p c. shifted p ∙ full (suc p) (omega arith) ∙ ap f (ap nat_abs (group_at-suc p a b l)))
                    (λ g c d. others g (omega (arith, h.0.rises)) (λ p e z. further g c d p e z)),
              ),
            ),
          ),
        )
      where
        shifted : (p : ℕ) → number_in l p ≡ number_in (a ∷ b ∷ l) (suc p)
        shifted p = ap nat_abs (sym (member_at-suc p a b l))

        first-least : (p : ℕ) → p < suc n → nat_abs a ≤ group_in (a ∷ b ∷ l) p
        first-least zero c = omega arith
        first-least (suc p) c = rw (group_at-suc p a b l) (omega (arith, (reads-place limit (nat_abs a) (left - nat_abs b) n l h.1 p (omega arith)).above))

        further : (g : ℕ) → nat_abs a < g → ((p : ℕ) → p < n → group_in l p ≡ g → ⊥) → (p : ℕ) → p < suc n → group_in (a ∷ b ∷ l) p ≡ g → ⊥
        further g c d zero e z = omega arith
        further g c d (suc p) e z = d p (omega arith) (sym (ap nat_abs (group_at-suc p a b l)) ∙ z)

-- ---- from natural numbers to words

abbrev half : List ℕ → ℕ
half [] = 0
half (a ∷ []) = 0
half (a ∷ n ∷ ps) = suc (half ps)

abbrev sum_of : List ℕ → ℕ
sum_of [] = 0
sum_of (a ∷ []) = 0
sum_of (a ∷ n ∷ ps) = n + sum_of ps

module _ (f : ℕ → ℕ) (k : ℕ) where
  tally-reads : (limit : ℕ) → ((g : ℕ) → f g ≤ limit) → (lo : ℕ) (ps : List ℕ) → Tallies lo f ps → Reads limit lo (sum_of ps) (half ps) (placed ps k)
  tally-reads limit most lo [] h = (refl, none-zero k)
  tally-reads limit most lo (a ∷ []) h = absurd h
  tally-reads limit most lo (a ∷ n ∷ ps) h =
      let (up, (gap, (is, (some, rest)))) = h in
      let e : sum_of ps ≡ n + sum_of ps - n = omega arith in (
        record {
          group-natural = refl;
          number-natural = refl;
          group-is = refl;
          number_is = refl;
          some = some;
          rises = up;
          limited = omega (arith, is, most a);
          within = omega arith;
        },
        subst (λ (s : ℕ). Reads limit a s (half ps) (placed ps k)) e (tally-reads limit most a ps rest),
      )

  tally-full : (lo : ℕ) (ps : List ℕ) → Tallies lo f ps → (p : ℕ) → p < half ps → number_in (placed ps k) p ≡ f (group_in (placed ps k) p)
  tally-full lo [] h p b = absurd (omega arith)
  tally-full lo (a ∷ []) h p b = absurd h
  tally-full lo (a ∷ n ∷ ps) h zero b = h.1.1.0
  tally-full lo (a ∷ n ∷ ps) h (suc p) b =
      rw (group_at-suc p (pos a) (pos n) (placed ps k), member_at-suc p (pos a) (pos n) (placed ps k)) (tally-full a ps h.1.1.1.1 p (omega arith))

  -- a group that has members has a place
  tally-place : (lo : ℕ) (ps : List ℕ) → Tallies lo f ps → (g : ℕ) → lo < g → 1 ≤ f g → HasPlace (placed ps k) (half ps) (pos g)
  tally-place lo [] h g b some = absurd (omega (arith, h g b))
  tally-place lo (a ∷ []) h g b some = absurd h
  tally-place lo (a ∷ n ∷ ps) h g b some =
      by_order a g
      (λ c. let r = tally-place a ps h.1.1.1.1 g c some in
      record { place = suc r.place; within = omega (arith, r.within); group = group_at-suc r.place (pos a) (pos n) (placed ps k) ∙ r.group })
      (λ e. record { place = 0; within = omega arith; group = ap pos e })
      (λ c. absurd (omega (arith, h.1.0 g b c)))

-- ---- a table and its list

module _ (limit : ℕ) (ws : List ℤ) (count : ℕ) (fits : 2 * count ≤ length ws) (numbers : numbers_right count ws ≡ true) (lent : List ℤ) where
  abbrev t : Table
  t = record { words = ws; used = count }

  -- the words that are judged
  abbrev l : List ℤ
  l = take (2 * (length ws / 2)) lent

  abbrev size_of : ℕ → ℕ
  size_of g = members (pos g) count ws

  pub record Agreed : Type 0 where
    pub number : ℕ
    pub reads : Reads limit 0 count number l
    pub tallied : Tallied ws count l number

  abbrev agree : Bool
  agree = groups_within limit t count ws && list_right t lent

  module _ (long : 2 * (length ws / 2) ≤ length lent) where
    -- ---- what reads and tallies is right

    module _ (a : Agreed) where
      placed-all : Placed ws count l a.number
      placed-all = tallied-placed (reads-rising limit 0 count a.number l a.reads) ws count fits (reads_total limit 0 count a.number l a.reads) a.tallied

      full : (p : ℕ) → p < a.number → number_in l p ≡ size_of (group_in l p)
      full p b = a.tallied p b ∙ ap (λ (g : ℤ). members g count ws) (natural-is (group_at p l) (reads-place limit 0 count a.number l a.reads p b).group-natural)

      others : (g : ℕ) → 0 < g → ((p : ℕ) → p < a.number → group_in l p ≡ g → ⊥) → size_of g ≡ 0
      others g b h = go (members-where (pos g) count ws fits)
        where
          go : (size_of g ≡ 0) ⊎ ((i : ℕ) × (i < count) × (group_at i ws ≡ pos g)) → size_of g ≡ 0
          go (inl e) = e
          go (inr w) = let p = placed-all w.0 w.1 in absurd (h p.place p.within (ap nat_abs (p.group ∙ w.2)))

      lists : Lists t fits numbers lent
      unfolding list_words size
      lists =
          let n = a.number in
          let e = naturals-length limit 0 count n l a.reads in
          let few = reads-words limit 0 count n l a.reads in
          let whole = length-take-le (2 * (length ws / 2)) lent long in
          let rest : length l - 2 * n ≡ 2 * (length ws / 2) - length (naturals n l) = omega arith in
          record {
            places = naturals n l;
            tallies = naturals-tally limit size_of 0 count n l a.reads full others;
            within = omega arith;
            are = naturals-placed limit 0 count n l a.reads ∙ ap (placed (naturals n l)) rest;
          }

      within : (g : ℤ) → size g t ≤ limit
      unfolding size
      within g = go (members-where g count ws fits)
        where
          go : (members g count ws ≡ 0) ⊎ ((i : ℕ) × (i < count) × (group_at i ws ≡ g)) → members g count ws ≤ limit
          go (inl e) = omega arith
          go (inr w) =
              let p = placed-all w.0 w.1 in
              rw (sym w.2, sym p.group)
              (omega (arith, a.tallied p.place p.within, (reads-place limit 0 count a.number l a.reads p.place p.within).limited))

      pub agreed-true : agree ≡ true
      unfolding list_words
      agreed-true = rw (within-hold limit t count ws within, list-holds t fits numbers lent long lists)

    -- ---- what is right reads and tallies

    module _ (e : agree ≡ true) where
      found : Lists t fits numbers lent
      unfolding list_words
      found = list-means t fits numbers lent long (both (groups_within limit t count ws) (list_right t lent) e).1

      ps : List ℕ
      ps = found.places

      -- the words in question, as places and zeros
      judged : List ℤ
      judged = placed ps (2 * (length ws / 2) - length ps)

      same : l ≡ judged
      unfolding list_words judged ps
      same = found.are

      tallies : Tallies 0 size_of ps
      unfolding size ps
      tallies = found.tallies

      most : (g : ℕ) → size_of g ≤ limit
      unfolding size
      most g = within_all limit t fits (within-means limit t count ws fits (both (groups_within limit t count ws) (list_right t lent) e).0) (pos g)

      reads : Reads limit 0 (sum_of ps) (half ps) judged
      unfolding judged
      reads = tally-reads size_of (2 * (length ws / 2) - length ps) limit most 0 ps tallies

      counted : Tallied ws count judged (half ps)
      unfolding judged
      counted p b =
          tally-full size_of (2 * (length ws / 2) - length ps) 0 ps tallies p b ∙
          ap (λ (g : ℤ). members g count ws) (sym (natural-is (group_at p judged) (reads-place limit 0 (sum_of ps) (half ps) judged reads p b).group-natural))

      there : Placed ws count judged (half ps)
      unfolding judged
      there j b =
          let (natural, some, is) = from_one (group_at j ws) (numbers-means count ws fits numbers j b).0 in
          let one = subst (λ (g : ℤ). 1 ≤ members g count ws) is (member-itself ws j count b fits) in
          subst (HasPlace judged (half ps)) (sym is) (tally-place size_of (2 * (length ws / 2) - length ps) 0 ps tallies (nat_abs (group_at j ws)) some one)

      sum : sum_of ps ≡ count
      sum =
          sym (reads_total limit 0 (sum_of ps) (half ps) judged reads) ∙ total-alike (number_in judged) (members_of ws count judged) (half ps) counted ∙
          placed_total (reads-rising limit 0 (sum_of ps) (half ps) judged reads) ws count fits there

      pub true-agreed : Agreed
      true-agreed =
          record {
            number = half ps;
            reads = subst (λ (T : Type 0). T) (λ i. Reads limit 0 (sum i) (half ps) (sym same i)) reads;
            tallied = subst (λ (m : List ℤ). Tallied ws count m (half ps)) (sym same) counted;
          }

    pub wrong-false : read_places limit 0 count 0 l ≡ None → agree ≡ false
    wrong-false w = split agree (λ e. let a = true-agreed e in reads-right limit 0 count a.number l a.reads w) (λ e. e)

    pub untallied-false : (n : ℕ) → Reads limit 0 count n l → (Tallied ws count l n → ⊥) → agree ≡ false
    untallied-false n r h =
        split agree
        (λ e. let a = true-agreed e in absurd (h (subst (Tallied ws count l) (reads_same limit 0 count a.number n l a.reads r) a.tallied)))
        (λ e. e)
