-- A search for a key among slots goes from the key's own slot, its home, on to the next one until it meets an empty slot or the key.
-- `key_in` gives the key of a slot's word, and `home_of` a key's home. A slot with the word 0 is empty.
use Rattle.std.specs.Prelude.{ℕ, zero, suc, ◌+◌, ◌-◌, ◌≤◌, ◌<◌, ◌≡◌, refl, Bool, true, false, List, eqb, ltb, length, get_or, set, replicate}
use Rattle.std.proofs.Common.{sym, ◌∙◌, ap, subst, arith, ltb-true, ltb-false, eqb-true, length-set, get_or-set_same, get_or-set_other}
use Rattle.std.proofs.lemmas.Bool.{eqb-false}
use Rattle.std.proofs.Math.ListN.{get_or-eq_default}
use Rattle.table_probes.specs.Ring.{next, ahead, next-below, ahead-self, ahead-below, ahead-next, ahead-last, ahead-same}
use Rattle.table_probes.specs.Room.{room, Empty, some-empty}

abbrev pub Used : List ℕ → ℕ → Type 0
Used slots q = get_or slots q 0 ≡ 0 → ⊥

abbrev pub steps : List ℕ → ℕ → ℕ → ℕ
steps slots a q = ahead (length slots) a q

-- a search from slot a has come to slot q: those that it passed are in use
pub record Reached (a : ℕ) (slots : List ℕ) (q : ℕ) : Type 0 where
  pub home : a < length slots
  pub within : q < length slots
  pub used : (x : ℕ) → x < length slots → steps slots a x < steps slots a q → Used slots x

-- and none of them has the key
pub record Passed (key_in : ℕ → ℕ) (key a : ℕ) (slots : List ℕ) (q : ℕ) : Type 0 where
  pub reached : Reached a slots q
  pub others : (x : ℕ) → x < length slots → steps slots a x < steps slots a q → key_in (get_or slots x 0) ≡ key → ⊥

-- each word is where a search for its key comes to it
pub record Kept (key_in home_of : ℕ → ℕ) (slots : List ℕ) : Type 0 where
  pub reached : (q : ℕ) → Used slots q → Reached (home_of (key_in (get_or slots q 0))) slots q

-- no two words have one key
pub record Apart (key_in : ℕ → ℕ) (slots : List ℕ) : Type 0 where
  pub apart : (x y : ℕ) → Used slots x → Used slots y → key_in (get_or slots x 0) ≡ key_in (get_or slots y 0) → x ≡ y

-- no word has the key
abbrev pub Absent : (ℕ → ℕ) → ℕ → List ℕ → Type 0
Absent key_in key slots = (x : ℕ) → Used slots x → key_in (get_or slots x 0) ≡ key → ⊥

-- ---- words in slots

pub used-below : (slots : List ℕ) (q : ℕ) → Used slots q → q < length slots
used-below slots q u = go (ltb q (length slots)) refl
  where
    go : (b : Bool) → ltb q (length slots) ≡ b → q < length slots
    go true e = ltb-true q (length slots) e
    go false e = absurd (u (get_or-eq_default slots 0 (ltb-false q (length slots) e)))

-- what stands at x after v was put into slot q
pub by-set {ℓ} : {X : Type ℓ} (slots : List ℕ) (q v x : ℕ) → q < length slots → (x ≡ q → get_or (set slots q v) x 0 ≡ v → X) →
    ((x ≡ q → ⊥) → get_or (set slots q v) x 0 ≡ get_or slots x 0 → X) → X
by-set {X} slots q v x l f g = go (eqb x q) refl
  where
    go : (b : Bool) → eqb x q ≡ b → X
    go true e = let z = eqb-true x q e in f z (rw z (get_or-set_same slots q v 0 l))
    go false e = let n = eqb-false x q e in g n (get_or-set_other slots q x v 0 n)

-- a slot in use stays so
pub used-set : (slots : List ℕ) (q v x : ℕ) → q < length slots → (v ≡ 0 → ⊥) → Used slots x → Used (set slots q v) x
used-set slots q v x l n u z = by-set slots q v x l (λ i e. n (sym e ∙ z)) (λ i e. u (sym e ∙ z))

zeros : (n q : ℕ) → get_or {A = ℕ} (replicate n 0) q 0 ≡ 0
zeros zero q = refl
zeros (suc n) zero = refl
zeros (suc n) (suc q) = zeros n q

-- ---- a search

module _ {a : ℕ} {slots : List ℕ} where
  pub reached-home : a < length slots → Reached a slots a
  reached-home h = record { home = h; within = h; used = λ x l k. absurd (omega (arith, ahead-self (length slots) a)) }

  module _ {q : ℕ} (r : Reached a slots q) (u : Used slots q) (some : 0 < room slots) where
    -- it does not come round to where it began, since a slot is empty
    pub not_round : next (length slots) q ≡ a → ⊥
    not_round e = go (eqb o.slot q) refl
      where
        o : Empty slots
        o = some-empty slots some

        same : steps slots a q ≡ steps slots a o.slot → q ≡ o.slot
        same = ahead-same (length slots) a r.home q o.slot r.within o.within

        go : (b : Bool) → eqb o.slot q ≡ b → ⊥
        go true i = u (rw (eqb-true o.slot q i) at o.empty)
        go false i =
            let other : steps slots a q ≡ steps slots a o.slot → ⊥ = λ z. eqb-false o.slot q i (sym (same z)) in
            r.used o.slot o.within (omega (arith, ahead-last (length slots) a r.home q o.slot r.within o.within e)) o.empty

    pub steps_next : steps slots a (next (length slots) q) ≡ suc (steps slots a q)
    steps_next = ahead-next (length slots) a r.home q r.within not_round

    -- what is left of the slots falls with each step
    pub steps-less : length slots - steps slots a (next (length slots) q) < length slots - steps slots a q
    steps-less = omega (arith, steps_next, ahead-below (length slots) a r.home q r.within)

    -- what holds of the slots passed and of q holds of all passed after the next step
    one_more : (P : ℕ → Type 0) → ((x : ℕ) → x < length slots → steps slots a x < steps slots a q → P x) → P q →
        (x : ℕ) → x < length slots → steps slots a x < steps slots a (next (length slots) q) → P x
    one_more P f p x l k = go (ltb (steps slots a x) (steps slots a q)) refl
      where
        go : (b : Bool) → ltb (steps slots a x) (steps slots a q) ≡ b → P x
        go true e = f x l (ltb-true (steps slots a x) (steps slots a q) e)
        go false e =
            let z : steps slots a q ≡ steps slots a x = omega (arith, ltb-false (steps slots a x) (steps slots a q) e, steps_next) in
            subst P (ahead-same (length slots) a r.home q x r.within l z) p

    pub reached-next : Reached a slots (next (length slots) q)
    reached-next = record { home = r.home; within = next-below (length slots) q r.within; used = one_more (Used slots) r.used u }

module _ {key_in : ℕ → ℕ} {key a : ℕ} {slots : List ℕ} where
  pub passed-home : a < length slots → Passed key_in key a slots a
  passed-home h = record { reached = reached-home h; others = λ x l k. absurd (omega (arith, ahead-self (length slots) a)) }

  pub passed-next : {q : ℕ} (p : Passed key_in key a slots q) → Used slots q → (key_in (get_or slots q 0) ≡ key → ⊥) → 0 < room slots →
      Passed key_in key a slots (next (length slots) q)
  passed-next p u n some =
      record {
        reached = reached-next p.reached u some;
        others = one_more p.reached u some (λ x. key_in (get_or slots x 0) ≡ key → ⊥) p.others n;
      }

  -- and what is left of the slots falls, where the code has the next slot as y
  pub passed_on : {q y : ℕ} → Passed key_in key a slots q → Used slots q → (key_in (get_or slots q 0) ≡ key → ⊥) → 0 < room slots → next (length slots) q ≡ y →
      Passed key_in key a slots y × (length slots - steps slots a y < length slots - steps slots a q)
  passed_on {q} p u n some e =
      subst (λ (x : ℕ). Passed key_in key a slots x × (length slots - steps slots a x < length slots - steps slots a q)) e
      (passed-next p u n some, steps-less p.reached u some)

-- ---- what slots keep

module _ {key_in home_of : ℕ → ℕ} where
  pub kept-none : (n : ℕ) → Kept key_in home_of (replicate n 0)
  kept-none n = record { reached = λ q u. absurd (u (zeros n q)) }

  module _ {slots : List ℕ} (kept : Kept key_in home_of slots) where
    -- a search that ends at an empty slot: no word has the key
    pub absent : {key q : ℕ} → Passed key_in key (home_of key) slots q → get_or slots q 0 ≡ 0 → Absent key_in key slots
    absent {key} {q} p e x u k = go (ltb (steps slots (home_of key) x) (steps slots (home_of key) q)) refl
      where
        below : x < length slots
        below = used-below slots x u

        there : Reached (home_of key) slots x
        there = subst (λ (c : ℕ). Reached (home_of c) slots x) k (kept.reached x u)

        same : steps slots (home_of key) x ≡ steps slots (home_of key) q → ⊥
        same z = u (rw (ahead-same (length slots) (home_of key) p.reached.home x q below p.reached.within z) e)

        go : (b : Bool) → ltb (steps slots (home_of key) x) (steps slots (home_of key) q) ≡ b → ⊥
        go true l = p.others x below (ltb-true (steps slots (home_of key) x) (steps slots (home_of key) q) l) k
        go false l =
            there.used q p.reached.within (omega (arith, ltb-false (steps slots (home_of key) x) (steps slots (home_of key) q) l, same)) e

    -- the slots in use stay so
    stays : {a q v x : ℕ} → q < length slots → (v ≡ 0 → ⊥) → Reached a slots x → Reached a (set slots q v) x
    stays {q} {v} l n d =
        let same = length-set slots q v in
        record {
          home = rw same d.home;
          within = rw same d.within;
          used = λ y b k. used-set slots q v y l n (d.used y (rw same at b) (rw same at k));
        }

    -- a word is put into the empty slot that the search for its key has come to
    pub kept_put : {q v : ℕ} → Reached (home_of (key_in v)) slots q → (v ≡ 0 → ⊥) → Kept key_in home_of (set slots q v)
    kept_put {q} {v} r n =
        record {
          reached =
              λ x u. by-set slots q v x r.within
              (λ i z. rw (z, i) (stays r.within n r))
              (λ i z. rw z (stays r.within n (kept.reached x (λ w. u (z ∙ w)))));
        }

    -- a word is replaced by one with the same key
    pub kept_same : (q v : ℕ) → Used slots q → (v ≡ 0 → ⊥) → key_in v ≡ key_in (get_or slots q 0) → Kept key_in home_of (set slots q v)
    kept_same q v u n k = kept_put (rw k (kept.reached q u)) n

-- ---- one word for a key

module _ {key_in : ℕ → ℕ} where
  pub apart_none : (n : ℕ) → Apart key_in (replicate n 0)
  apart_none n = record { apart = λ x y u w e. absurd (u (zeros n x)) }

  module _ {slots : List ℕ} (apart : Apart key_in slots) where
    -- a word with a new key is put into a slot
    pub apart-put : (q v : ℕ) → q < length slots → Absent key_in (key_in v) slots → Apart key_in (set slots q v)
    apart-put q v l new =
        record {
          apart =
              λ x y u w e. by-set slots q v x l
              (λ i z. by-set slots q v y l (λ j t. i ∙ sym j) (λ j t. absurd (new y (λ o. w (t ∙ o)) (ap key_in (sym t) ∙ sym e ∙ ap key_in z))))
              (λ i z. by-set slots q v y l
              (λ j t. absurd (new x (λ o. u (z ∙ o)) (ap key_in (sym z) ∙ e ∙ ap key_in t)))
              (λ j t. apart.apart x y (λ o. u (z ∙ o)) (λ o. w (t ∙ o)) (ap key_in (sym z) ∙ e ∙ ap key_in t)));
        }

    -- a word is replaced by one with the same key
    pub apart-same : (q v : ℕ) → Used slots q → key_in v ≡ key_in (get_or slots q 0) → Apart key_in (set slots q v)
    apart-same q v s k =
        record {
          apart =
              λ x y u w e. by-set slots q v x l
              (λ i z. by-set slots q v y l (λ j t. i ∙ sym j) (λ j t. i ∙ apart.apart q y s (λ o. w (t ∙ o)) (sym k ∙ ap key_in (sym z) ∙ e ∙ ap key_in t)))
              (λ i z. by-set slots q v y l
              (λ j t. apart.apart x q (λ o. u (z ∙ o)) s (ap key_in (sym z) ∙ e ∙ ap key_in t ∙ k) ∙ sym j)
              (λ j t. apart.apart x y (λ o. u (z ∙ o)) (λ o. w (t ∙ o)) (ap key_in (sym z) ∙ e ∙ ap key_in t)));
        }
      where
        l : q < length slots
        l = used-below slots q s

-- ---- the words that are there

-- the word stands in a slot
pub record Has (slots : List ℕ) (w : ℕ) : Type 0 where
  pub slot : ℕ
  pub used : Used slots slot
  pub there : get_or slots slot 0 ≡ w

module _ (slots : List ℕ) (q v : ℕ) (l : q < length slots) (n : v ≡ 0 → ⊥) where
  pub has_new : Has (set slots q v) v
  has_new = let e = get_or-set_same slots q v 0 l in record { slot = q; used = λ z. n (sym e ∙ z); there = e }

  pub has-still : {w : ℕ} → get_or slots q 0 ≡ 0 → Has slots w → Has (set slots q v) w
  has-still e h =
      record {
        slot = h.slot;
        used = used-set slots q v h.slot l n h.used;
        there = get_or-set_other slots q h.slot v 0 (λ z. h.used (rw z e)) ∙ h.there;
      }
