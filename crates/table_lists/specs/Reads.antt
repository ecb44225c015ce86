-- What it says of a list that its reading gives n places.
use Rattle.std.specs.Prelude.{ℕ, zero, suc, ◌+◌, ◌*◌, ◌-◌, ◌≤◌, ◌<◌, ◌≡◌, true, false, List, [], ◌∷◌, ℤ, pos, nat_abs, length, drop, Some, None}
use Rattle.std.proofs.Common.{sym, ◌∙◌, ap, arith}
use Rattle.language.specs.Basics.{eq_z}
use Rattle.laws.specs.Lists.{twice-suc}
use Rattle.laws.specs.Tests.{both, split, ne-eq_z}
use Rattle.laws.specs.Tables.{group_at, member_at, group_at-suc, member_at-suc}
use Rattle.table_places.specs.Places.{Natural, all_zero, place_fits, ended, read_places, group_in, number_in, Rising}
use Rattle.table_places.proofs.Reading.{Fitting, fitting, fits-place, at_zero, at-wrong, at_place, at-short, ended-right, ended-used}
use Rattle.table_totals.specs.Totals.{total, total-none, total-alike, total_first}

-- n places that fit one after the other, and zeros; the numbers together are `left`
abbrev pub Reads : ℕ → ℕ → ℕ → ℕ → List ℤ → Type 0
Reads limit last left zero l = (left ≡ 0) × (all_zero l ≡ true)
Reads limit last left (suc n) [] = ⊥
Reads limit last left (suc n) (a ∷ []) = ⊥
Reads limit last left (suc n) (a ∷ b ∷ l) = Fitting limit last left a b × Reads limit (nat_abs a) (left - nat_abs b) n l

-- ---- reading, to and fro

pub record Read (limit last left k m : ℕ) (l : List ℤ) : Type 0 where
  pub number : ℕ
  pub is : m ≡ k + number
  pub reads : Reads limit last left number l

used-same : {m n : ℕ} → Some m ≡ Some n → m ≡ n
used-same e = cc

wrong-used {ℓ} : {X : Type ℓ} {m : ℕ} → None ≡ Some m → X
wrong-used e = let z : ◌≡◌ {A = ℕ} 0 1 = cc in absurd (omega arith)

none_read : (limit last left k m : ℕ) (l : List ℤ) → ended left k l ≡ Some m → Read limit last left k m l
none_read limit last left k m l e =
    let (zeros, same) = ended-used left k m l e in
    record { number = 0; is = omega arith; reads = zeros }

pub used-reads : (limit last left k m : ℕ) (l : List ℤ) → read_places limit last left k l ≡ Some m → Read limit last left k m l
used-reads limit last left k m [] e = none_read limit last left k m [] (sym (at-short limit last left k [] (omega arith)) ∙ e)
used-reads limit last left k m (a ∷ []) e = none_read limit last left k m (a ∷ []) (sym (at-short limit last left k (a ∷ []) (omega arith)) ∙ e)
used-reads limit last left k m (a ∷ b ∷ l) e =
    split (eq_z a (pos 0))
    (λ z. none_read limit last left k m (a ∷ b ∷ l) (sym (at_zero limit last left k a b l z) ∙ e))
    (λ z. split (place_fits limit last left a b)
    (λ f.
    let r = used-reads limit (nat_abs a) (left - nat_abs b) (suc k) m l (sym (at_place limit last left k a b l z f) ∙ e) in
    record { number = suc r.number; is = omega (arith, r.is); reads = (fitting limit last left a b f, r.reads) })
    (λ f. wrong-used (sym (at-wrong limit last left k a b l z f) ∙ e)))

none-used : (limit last left k : ℕ) (l : List ℤ) → left ≡ 0 → all_zero l ≡ true → read_places limit last left k l ≡ Some k
unfolding all_zero
none-used limit last left k [] z e = at-short limit last left k [] (omega arith) ∙ ended-right left k [] z e
none-used limit last left k (a ∷ []) z e = at-short limit last left k (a ∷ []) (omega arith) ∙ ended-right left k (a ∷ []) z e
none-used limit last left k (a ∷ b ∷ l) z e =
    at_zero limit last left k a b l (both (eq_z a (pos 0)) (all_zero (b ∷ l)) e).0 ∙ ended-right left k (a ∷ b ∷ l) z e

pub reads-used : (limit last left k n : ℕ) (l : List ℤ) → Reads limit last left n l → read_places limit last left k l ≡ Some (k + n)
reads-used limit last left k zero l h =
    let e : k ≡ k + 0 = omega arith in
    none-used limit last left k l h.0 h.1 ∙ ap Some e
reads-used limit last left k (suc n) [] h = absurd h
reads-used limit last left k (suc n) (a ∷ []) h = absurd h
reads-used limit last left k (suc n) (a ∷ b ∷ l) h =
    let other : eq_z a (pos 0) ≡ false = ne-eq_z a (pos 0) (λ z. omega (arith, h.0.rises, ap nat_abs z)) in
    let e : suc k + n ≡ k + suc n = omega arith in
    at_place limit last left k a b l other (fits-place limit last left a b h.0) ∙ reads-used limit (nat_abs a) (left - nat_abs b) (suc k) n l h.1 ∙ ap Some e

-- a list reads in one way
pub reads_same : (limit last left n m : ℕ) (l : List ℤ) → Reads limit last left n l → Reads limit last left m l → n ≡ m
reads_same limit last left n m l h k =
    let e : 0 + n ≡ 0 + m = used-same (sym (reads-used limit last left 0 n l h) ∙ reads-used limit last left 0 m l k) in
    omega arith

pub reads-right {ℓ} : {X : Type ℓ} (limit last left n : ℕ) (l : List ℤ) → Reads limit last left n l → read_places limit last left 0 l ≡ None → X
reads-right limit last left n l h e = wrong-used (sym e ∙ reads-used limit last left 0 n l h)

-- ---- what is so of each place

pub reads-words : (limit last left n : ℕ) (l : List ℤ) → Reads limit last left n l → 2 * n ≤ length l
reads-words limit last left zero l h = omega arith
reads-words limit last left (suc n) [] h = absurd h
reads-words limit last left (suc n) (a ∷ []) h = absurd h
reads-words limit last left (suc n) (a ∷ b ∷ l) h = omega (arith, reads-words limit (nat_abs a) (left - nat_abs b) n l h.1)

pub record PlaceIs (limit last : ℕ) (l : List ℤ) (p : ℕ) : Type 0 where
  pub group-natural : Natural (group_at p l)
  pub number-natural : Natural (member_at p l)
  pub above : last < group_in l p
  pub some : 1 ≤ number_in l p
  pub limited : number_in l p ≤ limit

pub reads-place : (limit last left n : ℕ) (l : List ℤ) → Reads limit last left n l → (p : ℕ) → p < n → PlaceIs limit last l p
reads-place limit last left zero l h p b = absurd (omega arith)
reads-place limit last left (suc n) [] h p b = absurd h
reads-place limit last left (suc n) (a ∷ []) h p b = absurd h
reads-place limit last left (suc n) (a ∷ b ∷ l) h zero c =
    let f = h.0 in
    record { group-natural = f.group-natural; number-natural = f.number-natural; above = f.rises; some = f.some; limited = f.limited }
reads-place limit last left (suc n) (a ∷ b ∷ l) h (suc p) c =
    let r = reads-place limit (nat_abs a) (left - nat_abs b) n l h.1 p (omega arith) in
    record {
      group-natural = rw (group_at-suc p a b l) r.group-natural;
      number-natural = rw (member_at-suc p a b l) r.number-natural;
      above = rw (group_at-suc p a b l) (omega (arith, r.above, h.0.rises));
      some = rw (member_at-suc p a b l) r.some;
      limited = rw (member_at-suc p a b l) r.limited;
    }

reads-rises : (limit last left n : ℕ) (l : List ℤ) → Reads limit last left n l → (p q : ℕ) → p < q → q < n → group_in l p < group_in l q
reads-rises limit last left zero l h p q c b = absurd (omega arith)
reads-rises limit last left (suc n) [] h p q c b = absurd h
reads-rises limit last left (suc n) (a ∷ []) h p q c b = absurd h
reads-rises limit last left (suc n) (a ∷ m ∷ l) h p zero c b = absurd (omega arith)
reads-rises limit last left (suc n) (a ∷ m ∷ l) h zero (suc q) c b =
    rw (group_at-suc q a m l) (reads-place limit (nat_abs a) (left - nat_abs m) n l h.1 q (omega arith)).above
reads-rises limit last left (suc n) (a ∷ m ∷ l) h (suc p) (suc q) c b =
    rw (group_at-suc p a m l, group_at-suc q a m l) (reads-rises limit (nat_abs a) (left - nat_abs m) n l h.1 p q (omega arith) (omega arith))

pub reads-rising : (limit last left n : ℕ) (l : List ℤ) → Reads limit last left n l → Rising n l
reads-rising limit last left n l h =
    record {
      words = reads-words limit last left n l h;
      groups = λ p b. (reads-place limit last left n l h p b).group-natural;
      numbers = λ p b. (reads-place limit last left n l h p b).number-natural;
      rises = reads-rises limit last left n l h;
    }

pub reads_total : (limit last left n : ℕ) (l : List ℤ) → Reads limit last left n l → total (number_in l) n ≡ left
reads_total limit last left zero l h = total-none (number_in l) ∙ sym h.0
reads_total limit last left (suc n) [] h = absurd h
reads_total limit last left (suc n) (a ∷ []) h = absurd h
reads_total limit last left (suc n) (a ∷ b ∷ l) h =
    let same = total-alike (λ p. number_in (a ∷ b ∷ l) (suc p)) (number_in l) n (λ p c. ap nat_abs (member_at-suc p a b l)) in
    omega (arith, total_first (number_in (a ∷ b ∷ l)) n, same, reads_total limit (nat_abs a) (left - nat_abs b) n l h.1, h.0.within)

pub reads-zero : (limit last left n : ℕ) (l : List ℤ) → Reads limit last left n l → all_zero (drop (2 * n) l) ≡ true
reads-zero limit last left zero l h = h.1
reads-zero limit last left (suc n) [] h = absurd h
reads-zero limit last left (suc n) (a ∷ []) h = absurd h
reads-zero limit last left (suc n) (a ∷ b ∷ l) h = rw (twice-suc n) (reads-zero limit (nat_abs a) (left - nat_abs b) n l h.1)
