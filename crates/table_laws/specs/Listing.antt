-- A lent list that holds places in natural numbers (`Listing`), and one that is the list of a right table, with the words past it (`Beside`): what
-- holds of table and list between two steps. `beside-lists`: its places are those that the count gives. `beside-added`, `beside-removed`: it stays so
-- where a pair is added or taken out and its group has one member more or less.
use Rattle.std.specs.Prelude.{ℕ, suc, ◌+◌, ◌*◌, ◌/◌, ◌≤◌, ◌<◌, Bool, ◌&&◌, eqb, ℤ, pos, length, take, drop}
use Rattle.std.proofs.Common.{arith, sym, ◌∙◌, subst, eq-eqb, ne_eqb, length-append, take-append-drop, take_at}
use Rattle.std.proofs.Math.Bool.{true, false, cond}
use mathlib.Core.List.{List, ◌++◌, map}
use Rattle.std.proofs.Math.Path.{◌≡◌, refl, ap}
use Rattle.language.specs.Basics.{eq_z}
use Rattle.language.specs.Table.{Table, size, holds, full, at_least_one, right, add, remove}
use Rattle.language.specs.Groups.{list_words, list_right, filled, group_list, relisted}
use Rattle.laws.specs.Tables.{full-room, add-length}
use Rattle.table_laws.specs.Rightness.{right-means, right-numbers}
use Rattle.table_laws.specs.Changes.{add-size, add_right, remove-size, remove-right, remove-length}
use Rattle.table_laws.specs.Places.{Rises, Tallies, number_in, one_more, one_less, tallies-rise, tallies-number, tallies-more, tallies-less, one_list}
use Rattle.table_laws.specs.RightLists.{tallied-of, right-is-computed, computed-long}

-- so many places, of which the first hold ps and the others 0, 0
pub record Listing (places : ℕ) (ps : List ℕ) (past ws : List ℤ) : Type 0 where
  pub rises : Rises 0 ps
  pub room : length ps ≤ 2 * places
  pub is : ws ≡ filled (2 * places) (map pos ps) ++ past

-- what holds between two steps of the table and the list
pub record Beside (limit : ℕ) (past : List ℤ) (t : Table) (ws : List ℤ) : Type 0 where
  pub small : limit ≤ 65535
  pub table-right : right limit t ≡ true
  pub listed : ws ≡ group_list t ++ past

-- The same of words and a count, as functions have them: a list stands beside the table, and what they do to both keeps it there.
abbrev pub HasList : ℕ → List ℤ → ℕ → List ℤ → Type 0
HasList limit table count groups = (past : List ℤ) × Beside limit past (record { words = table; used = count }) groups

abbrev pub KeepsList : ℕ → List ℤ → ℕ → List ℤ → List ℤ → ℕ → List ℤ → Type 0
KeepsList limit table count groups table' count' groups' =
    (past : List ℤ) → Beside limit past (record { words = table; used = count }) groups → Beside limit past (record { words = table'; used = count' }) groups'

-- how many places a table's list has
abbrev pub places_of : Table → ℕ
places_of t = length t.words / 2

abbrev pub sizes : Table → ℕ → ℕ
sizes t g = size (pos g) t

-- the computed list has the places that the count gives
pub computed-of : (limit : ℕ) (t : Table) → right limit t ≡ true → (ps : List ℕ) → Tallies 0 (sizes t) ps → group_list t ≡ filled (2 * places_of t) (map pos ps)
unfolding group_list list_words size
computed-of limit t r ps h =
    let p = tallied-of t (right-means limit t r).fits (right-numbers limit t r) in
    ap (filled (2 * places_of t)) (p.are ∙ ap (map pos) (one_list 0 (sizes t) p.places ps p.tallies h))

-- the places of a right table's list
pub record Counted (t : Table) (past ws : List ℤ) : Type 0 where
  pub places : List ℕ
  pub listing : Listing (places_of t) places past ws
  pub tallies : Tallies 0 (sizes t) places
  pub few : length places ≤ 2 * t.used

module _ {limit : ℕ} {past : List ℤ} {t : Table} {ws : List ℤ} (b : Beside limit past t ws) where
  fits : 2 * t.used ≤ length t.words
  fits = (right-means limit t b.table-right).fits

  pub beside-lists : Counted t past ws
  unfolding size
  beside-lists =
      let p = tallied-of t fits (right-numbers limit t b.table-right) in
      record {
        places = p.places;
        listing = record {
          rises = tallies-rise 0 (sizes t) p.places p.tallies;
          room = omega (arith, p.few, fits);
          is = b.listed ∙ ap (λ (l : List ℤ). l ++ past) (computed-of limit t b.table-right p.places p.tallies);
        };
        tallies = p.tallies;
        few = p.few;
      }

-- back from places that the count gives
pub beside-from : {limit : ℕ} {past : List ℤ} {t : Table} {ws : List ℤ} (ps : List ℕ) → limit ≤ 65535 → right limit t ≡ true → Listing (places_of t) ps past ws → Tallies 0 (sizes t) ps → Beside limit past t ws
beside-from {limit} {past} {t} ps small r l h =
    record { small = small; table-right = r; listed = l.is ∙ ap (λ (x : List ℤ). x ++ past) (sym (computed-of limit t r ps h)) }

-- what the count gives where a pair is added or taken out
module _ (g : ℕ) (m : ℤ) (t : Table) (some : 0 < g) where
  -- one group's number is another's where the two are not the same
  apart : (h : ℕ) (x : Bool) → (h ≡ g → ⊥) → ◌≡◌ {A = ℕ} (cond (x && eq_z (pos g) (pos h)) 1 0) 0
  unfolding eq_z
  apart h x d = go x (eqb g h) (ne_eqb g h (λ e. d (sym e)))
    where
      go : (x y : Bool) → y ≡ false → ◌≡◌ {A = ℕ} (cond (x && y) 1 0) 0
      go true y e = ap (λ (z : Bool). cond z 1 0) e
      go false y e = refl

  alike : ◌≡◌ {A = ℕ} (cond (eq_z (pos g) (pos g)) 1 0) 1
  unfolding eq_z
  alike = ap (λ (z : Bool). cond z 1 0) (eq-eqb g g refl)

  pub added-tallies : 2 * suc t.used ≤ length t.words → (ps : List ℕ) → Tallies 0 (sizes t) ps → Tallies 0 (sizes (add (pos g) m t)) (one_more g ps)
  added-tallies r =
      tallies-more g (sizes t) (sizes (add (pos g) m t)) (λ h d. add-size (pos h) (pos g) m t r ∙ ap (λ (n : ℕ). size (pos h) t + n) (apart h true d) ∙ omega arith)
      (add-size (pos g) (pos g) m t r ∙ ap (λ (n : ℕ). size (pos g) t + n) alike ∙ omega arith) 0 some

  pub removed-tallies : 2 * t.used ≤ length t.words → holds (pos g) m t ≡ true → (ps : List ℕ) → Tallies 0 (sizes t) ps → Tallies 0 (sizes (remove (pos g) m t)) (one_less g ps)
  removed-tallies f there =
      tallies-less g (sizes t) (sizes (remove (pos g) m t)) (λ h d. sym (remove-size (pos h) (pos g) m t f ∙ ap (λ (n : ℕ). size (pos h) (remove (pos g) m t) + n) (apart h (holds (pos g) m t) d) ∙ omega arith))
      (remove-size (pos g) (pos g) m t f ∙ ap (λ (n : ℕ). size (pos g) (remove (pos g) m t) + n) (ap (λ (x : Bool). cond (x && eq_z (pos g) (pos g)) 1 0) there ∙ alike) ∙ omega arith) 0 some

module _ {limit : ℕ} {past : List ℤ} {t : Table} {ws : List ℤ} (b : Beside limit past t ws) (g : ℕ) (m : ℤ) (some : 0 < g) (ws' : List ℤ) where
  pub beside-added : at_least_one (pos g) && at_least_one m ≡ true → holds (pos g) m t ≡ false → size (pos g) t < limit → full t ≡ false
      → ((ps : List ℕ) → Listing (places_of t) ps past ws → number_in g ps ≡ size (pos g) t → length ps ≤ 2 * t.used → Listing (places_of t) (one_more g ps) past ws')
      → Beside limit past (add (pos g) m t) ws'
  beside-added ones new below room raised =
      let c = beside-lists b in
      let k : length (add (pos g) m t).words ≡ length t.words = add-length (pos g) m t in
      beside-from (one_more g c.places) b.small (add_right limit (pos g) m t b.table-right ones new below room)
      (subst (λ (n : ℕ). Listing (n / 2) (one_more g c.places) past ws') (sym k)
      (raised c.places c.listing (tallies-number 0 (sizes t) c.places c.tallies g some) c.few))
      (added-tallies g m t some (full-room t room) c.places c.tallies)

  pub beside-removed : holds (pos g) m t ≡ true
      → ((ps : List ℕ) → Listing (places_of t) ps past ws → number_in g ps ≡ size (pos g) t → length ps ≤ 2 * t.used → Listing (places_of t) (one_less g ps) past ws')
      → Beside limit past (remove (pos g) m t) ws'
  beside-removed there lowered =
      let c = beside-lists b in
      let k : length (remove (pos g) m t).words ≡ length t.words = remove-length (pos g) m t in
      beside-from (one_less g c.places) b.small (remove-right limit (pos g) m t b.table-right)
      (subst (λ (n : ℕ). Listing (n / 2) (one_less g c.places) past ws') (sym k)
      (lowered c.places c.listing (tallies-number 0 (sizes t) c.places c.tallies g some) c.few))
      (removed-tallies g m t some (fits b) there c.places c.tallies)

-- A lent list that admission found right, and what a run leaves of it

module _ {limit : ℕ} {t : Table} {ws : List ℤ} (long : list_words t ≤ length ws) where
  pub beside-lent : limit ≤ 65535 → right limit t ≡ true → list_right t ws ≡ true → Beside limit (drop (list_words t) ws) t ws
  beside-lent small r e =
      let f = (right-means limit t r).fits in
      let q = (right-is-computed t f (right-numbers limit t r) ws long).0 e in
      record { small = small; table-right = r; listed = sym (take-append-drop (list_words t) ws) ∙ ap (λ (l : List ℤ). l ++ drop (list_words t) ws) q }

-- back: the list beside a table is long enough and right
pub beside-right : {limit : ℕ} {past : List ℤ} {t : Table} {ws : List ℤ} → Beside limit past t ws → (list_words t ≤ length ws) × (list_right t ws ≡ true)
beside-right {limit} {past} {t} {ws} b =
    let n = right-numbers limit t b.table-right in
    let k = computed-long t (fits b) n in
    let long : list_words t ≤ length ws = omega (arith, k, ap length b.listed ∙ length-append (group_list t) past) in
    (long, (right-is-computed t (fits b) n ws long).1 (ap (take (list_words t)) b.listed ∙ take_at (group_list t) past (list_words t) k))

pub beside-relisted : {limit : ℕ} (t : Table) {t' : Table} (ws : List ℤ) {ws' : List ℤ} → length t'.words ≡ length t.words → Beside limit (drop (list_words t) ws) t' ws' → ws' ≡ relisted t' ws
unfolding relisted list_words
beside-relisted t {t'} ws e b = b.listed ∙ ap (λ (n : ℕ). group_list t' ++ drop (2 * (n / 2)) ws) (sym e)
