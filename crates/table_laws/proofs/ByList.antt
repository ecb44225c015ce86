-- AD and RM by the list of groups: beside a right list both come to what the definitions come to (`added-by-list`, `removed-by-list`; between two steps
-- `added-beside`, `removed-beside`). `list-added`, `list-removed`: what a right table's list becomes, said of the list.
use Rattle.std.specs.Prelude.{ℕ, zero, suc, ◌*◌, ◌/◌, ◌≤◌, ◌<◌, Bool, true, false, ◌&&◌, List, [], ◌∷◌, map, ◌≡◌, refl, eqb, pos, ◌-ℤ◌, length}
use Rattle.std.proofs.Common.{arith, sym, ◌∙◌, subst, eqb-true, ne_eqb}
use Rattle.std.proofs.Math.Bool.{not}
use Rattle.std.proofs.Math.Option.{none}
use Rattle.std.proofs.Math.Path.{ap}
use Rattle.std.proofs.lemmas.Bool.{eqb-false}
use Rattle.std.proofs.Math.IntN.{ℤ, -ℤ_one}
use Rattle.language.specs.Basics.{eq_z}
use Rattle.language.specs.Table.{Table, leaves, find, is_some, holds, size, at_least_one, numbers_right, right, full, add, remove, added, removed}
use Rattle.language.specs.Groups.{list_words, list_right, raise, tallied, filled, group_list}
use Rattle.laws.specs.Tests.{split, both, by-lookup, never}
use Rattle.laws.specs.Tables.{full-room, add-length}
use Rattle.table_laws.specs.Pairs.{find-some, group-none}
use Rattle.table_laws.specs.Rightness.{right-means, right-numbers}
use Rattle.table_laws.specs.Changes.{add_right, remove_absent, remove-right, remove-length}
use Rattle.table_laws.specs.Places.{Rises, Tallies, one_more, one_less, less-gone, less-there, less-after, tallies-rise}
use Rattle.table_laws.specs.Tallied.{natural, Placed, raise-places}
use Rattle.table_laws.specs.RightLists.{reads-count, tallied-of}
use Rattle.table_laws.specs.Listing.{Beside, sizes, computed-of, added-tallies, removed-tallies, beside-right}
use Rattle.table_laws.specs.ByList.{listed, added_by_list, removed_by_list, place_left, lowered}

-- AD and RM beside a right list

module _ (t : Table) (fits : 2 * t.used ≤ length t.words) (numbers : numbers_right t.used t.words ≡ true) (ws : List ℤ) (long : list_words t ≤ length ws) (lists : list_right t ws ≡ true) (g m : ℤ) where
  listed-size : (z : ℤ) → listed z t ws ≡ pos (size z t)
  unfolding listed
  listed-size = reads-count t fits numbers ws long lists

  -- where the list says 0 the pair is not there
  none_found : eq_z (listed g t ws) (pos 0) ≡ true → find g m t.used t.words ≡ none
  unfolding eq_z size
  none_found e = group-none g m t.used t.words fits (eqb-true (size g t) 0 (ap (λ (z : ℤ). eq_z z (pos 0)) (sym (listed-size g)) ∙ e))

  held-by-list : not (eq_z (listed g t ws) (pos 0)) && holds g m t ≡ holds g m t
  unfolding holds is_some
  held-by-list =
      split (eq_z (listed g t ws) (pos 0)) (λ e. ap (λ (b : Bool). not b && holds g m t) e ∙ ap is_some (sym (none_found e))) (λ e. ap (λ (b : Bool). not b && holds g m t) e)

  pub added-by-list : (limit : ℕ) → added_by_list limit g m t ws ≡ added limit g m t
  unfolding added_by_list added
  added-by-list limit =
      split (at_least_one g && at_least_one m)
      (λ e. split (holds g m t) (λ h. rw (e, added_by_list, added) (rw (held-by-list, h))) (λ h. rw (e, added_by_list, added) (rw (held-by-list, h) (rw listed-size))))
      (λ e. rw (e, added_by_list, added))

  pub removed-by-list : removed_by_list g m t ws ≡ removed g m t
  unfolding removed_by_list removed
  removed-by-list =
      split (at_least_one g && at_least_one m)
      (λ e. split (eq_z (listed g t ws) (pos 0)) (λ z. rw (e, removed_by_list, removed) (rw z (ap leaves (sym (remove_absent g m t (none_found z)))))) (λ z. rw (e, removed_by_list, removed) (rw z)))
      (λ e. rw (e, removed_by_list, removed))

-- the same of table and list between two steps
module _ {limit : ℕ} {past : List ℤ} {t : Table} {ws : List ℤ} (b : Beside limit past t ws) (g m : ℤ) where
  pub added-beside : added_by_list limit g m t ws ≡ added limit g m t
  added-beside = let r = b.table-right in let l = beside-right b in added-by-list t (right-means limit t r).fits (right-numbers limit t r) ws l.0 l.1 g m limit

  pub removed-beside : removed_by_list g m t ws ≡ removed g m t
  removed-beside = let r = b.table-right in let l = beside-right b in removed-by-list t (right-means limit t r).fits (right-numbers limit t r) ws l.0 l.1 g m

-- What the list becomes

place-stays : (a n : ℤ) (ws : List ℤ) → eq_z n (pos 0) ≡ false → place_left a n ws ≡ a ∷ n ∷ ws
unfolding place_left
place-stays a n ws e = rw (e, place_left)

-- the place of the group itself
lowered-place : (g a n : ℕ) (ps : List ℕ) → a ≡ g → place_left (pos a) (pos (suc n) -ℤ pos 1) (map pos ps) ≡ map pos (one_less g (a ∷ suc n ∷ ps))
unfolding place_left eq_z
lowered-place g a zero ps e = ap (map pos) (sym (less-gone g a 1 ps e refl))
lowered-place g a (suc n) ps e =
    rw (less-there g a (suc (suc n)) ps e (λ o. omega arith)) (ap (λ (z : ℤ). place_left (pos a) z (map pos ps)) (-ℤ_one (pos (suc (suc n)))) ∙ place-stays (pos a) (pos (suc n)) (map pos ps) (ne_eqb (suc n) 0 (λ o. omega arith)))

lowered-places : (g lo : ℕ) (ps : List ℕ) → Rises lo ps → lowered (pos g) (map pos ps) ≡ map pos (one_less g ps)
unfolding lowered one_less eq_z
lowered-places g lo [] r = refl
lowered-places g lo (a ∷ []) r = refl
lowered-places g lo (a ∷ zero ∷ ps) r = absurd (omega (arith, r.1.0))
lowered-places g lo (a ∷ suc n ∷ ps) r =
    split (eqb a g) (λ e. ap cases e ∙ lowered-place g a n ps (eqb-true a g e))
    (λ e. rw (less-after g a (suc n) ps (eqb-false a g e)) (ap cases e ∙ ap (λ (l : List ℤ). pos a ∷ pos (suc n) ∷ l) (lowered-places g a ps r.1.1)))
  where
    cases : Bool → List ℤ
    cases s = elim s [ true ↦ place_left (pos a) (pos (suc n) -ℤ pos 1) (map pos ps) | false ↦ pos a ∷ pos (suc n) ∷ lowered (pos g) (map pos ps) ]

module _ (limit : ℕ) (t : Table) (r : right limit t ≡ true) where
  counted : Placed t.used t.words
  counted = tallied-of t (right-means limit t r).fits (right-numbers limit t r)

  tallies-counted : Tallies 0 (sizes t) counted.places
  unfolding size
  tallies-counted = counted.tallies

  -- places that a table with as many words has by its count, and what they are in words
  becomes : (t' : Table) → right limit t' ≡ true → length t'.words ≡ length t.words → (ps : List ℕ) → Tallies 0 (sizes t') ps → {l : List ℤ} → map pos ps ≡ l → group_list t' ≡ filled (list_words t) l
  unfolding list_words
  becomes t' r' k ps h e = computed-of limit t' r' ps h ∙ (λ i. filled (2 * (k i / 2)) (e i))

  -- one member more of the new pair's group
  pub list-added : (g m : ℤ) → at_least_one g && at_least_one m ≡ true → holds g m t ≡ false → size g t < limit → full t ≡ false → group_list (add g m t) ≡ filled (list_words t) (raise g (tallied t.used t.words))
  list-added g m ones new below room =
      let n = natural g (both (at_least_one g) (at_least_one m) ones).0 in
      let ps = counted.places in
      becomes (add g m t) (add_right limit g m t r ones new below room) (add-length g m t) (one_more (suc n.0) ps)
      (subst (λ (z : ℤ). Tallies 0 (sizes (add z m t)) (one_more (suc n.0) ps)) (sym n.1) (added-tallies (suc n.0) m t (omega arith) (full-room t room) ps tallies-counted))
      (sym (raise-places (suc n.0) ps) ∙ (λ i. raise (sym n.1 i) (sym counted.are i)))

  -- a pair's group is a number of at least 1
  held-natural : (g m : ℤ) → holds g m t ≡ true → (n : ℕ) × (g ≡ pos (suc n))
  unfolding holds is_some
  held-natural g m there =
      let q = right-means limit t r in
      by-lookup (find g m t.used t.words) (λ e. never there (ap is_some e)) (λ i e. let p = find-some g m t.used t.words i q.fits e in natural g (ap at_least_one (sym p.1.0) ∙ (q.numbers i p.0).0))

  -- one member less of the group of the pair taken out
  pub list-removed : (g m : ℤ) → holds g m t ≡ true → group_list (remove g m t) ≡ filled (list_words t) (lowered g (tallied t.used t.words))
  list-removed g m there =
      let n = held-natural g m there in
      let ps = counted.places in
      becomes (remove g m t) (remove-right limit g m t r) (remove-length g m t) (one_less (suc n.0) ps)
      (subst (λ (z : ℤ). Tallies 0 (sizes (remove z m t)) (one_less (suc n.0) ps)) (sym n.1)
      (removed-tallies (suc n.0) m t (omega arith) (right-means limit t r).fits (ap (λ (z : ℤ). holds z m t) (sym n.1) ∙ there) ps tallies-counted))
      (sym (lowered-places (suc n.0) 0 ps (tallies-rise 0 (sizes t) ps tallies-counted)) ∙ (λ i. lowered (sym n.1 i) (sym counted.are i)))
