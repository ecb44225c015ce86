-- Counting by key in slots, for any sameness of places that has keys: what a search finds, and that each step keeps the slots good.
use Prim.Native.Nat.{ℕ, suc, ◌+◌, ◌-◌, ◌≤◌, ◌<◌}
use mathlib.Core.Path.{◌≡◌, refl, sym, ◌∙◌, ap, subst}
use mathlib.Core.Bool.{Bool, true, false}
use mathlib.Core.List.{List}
use native.Mathlib.Omega.{arith}
use borrow.Author.Tests.{ltb-true, ltb-false}
use lib.Dec.{ltb}
use lib.ListN.{length, get_or, set}
use lib.Seq.{get_or-set_same, get_or-set_other}
use Rattle.laws.specs.Tests.{never}
use Rattle.table_slots.specs.Slots.{Passed, EndsEmpty, EndsHeld, Kept}

-- ---- one key, told by two of its places

pub passed-key : (first : List ℕ) (t : ℕ) (f h : ℕ → Bool) {a b : ℕ} → a ≡ b → ((k : ℕ) → f k ≡ h k) → Passed f a first t → Passed h b first t
passed-key first t f h e k p s l =
    subst (λ (x : ℕ). (get_or first (x + s) 0 ≡ 0 → ⊥) × (h (get_or first (x + s) 0 - 1) ≡ false)) e ((p s l).0, sym (k _) ∙ (p s l).1)

kept-key :
    (first number : List ℕ) (f h : ℕ → Bool) {a b n m : ℕ} → a ≡ b → ((k : ℕ) → f k ≡ h k) → n ≡ m → Kept f a first number n → Kept h b first number m
kept-key first number f h {m} e k q kept t l p =
    let r = kept t l (passed-key first t h f (sym e) (λ i. sym (k i)) p) in
    subst (λ (x : ℕ). (get_or first (x + t) 0 ≡ 0 → ⊥) × (h (get_or first (x + t) 0 - 1) ≡ true → get_or number (x + t) 0 ≡ m)) e (r.0, λ o. r.1 (k _ ∙ o) ∙ q)

-- ---- the first place of a search

-- A search that is at t has not passed the slot at which one ends.
before : (f : ℕ → Bool) (a : ℕ) (first : List ℕ) (t u : ℕ) → f (get_or first (a + t) 0 - 1) ≡ true → Passed f a first u → u ≤ t
before f a first t u own p = go (ltb t u) refl
  where
    go : (b : Bool) → ltb t u ≡ b → u ≤ t
    go true q = never own (p t (ltb-true t u q)).1
    go false q = ltb-false t u q

-- places that have keys: the slot of a key, whether its places are counted, and how many are before a place
pub record Keys (same : ℕ → ℕ → Bool) (slot : ℕ → ℕ) (mine : ℕ → Type 0) (counted : ℕ → ℕ → ℕ) : Type 0 where
  pub self : (i : ℕ) → same i i ≡ true
  pub key : (i j : ℕ) → same i j ≡ true → (k : ℕ) → same i k ≡ same j k
  pub slot-key : (i j : ℕ) → same i j ≡ true → slot i ≡ slot j
  pub mine-key : (i j : ℕ) → same i j ≡ true → mine i → mine j
  pub counted-key : (i j : ℕ) → same i j ≡ true → (k : ℕ) → counted i k ≡ counted j k
  pub counted-hit : (j i : ℕ) → same j i ≡ true → counted j (suc i) ≡ suc (counted j i)
  pub counted-miss : (j i : ℕ) → same j i ≡ false → counted j (suc i) ≡ counted j i
  pub counted_none : (i : ℕ) → ((j : ℕ) → j < i → same i j ≡ false) → counted i i ≡ 0

module _ {same : ℕ → ℕ → Bool} {slot : ℕ → ℕ} {mine : ℕ → Type 0} {counted : ℕ → ℕ → ℕ} (keys : Keys same slot mine counted) where
  turn : (i j : ℕ) → same i j ≡ true → same j i ≡ true
  turn i j e = sym (keys.key i j e i) ∙ keys.self i

  abbrev pub All : ℕ → List ℕ → List ℕ → Type 0
  All i first number = (j : ℕ) → j < i → mine j → Kept (same j) (slot j) first number (counted j i)

  -- one place more: its own key, and the others
  assemble :
      (i : ℕ) (first number : List ℕ) → (mine i → Kept (same i) (slot i) first number (counted i (suc i))) →
      ((j : ℕ) → j < i → mine j → same j i ≡ false → Kept (same j) (slot j) first number (counted j i)) → All (suc i) first number
  assemble i first number own others j l mj = go (same j i) refl
    where
      go : (b : Bool) → same j i ≡ b → Kept (same j) (slot j) first number (counted j (suc i))
      go true e =
          kept-key first number (same i) (same j) (sym (keys.slot-key j i e)) (λ k. sym (keys.key j i e k)) (sym (keys.counted-key j i e (suc i))) (own (keys.mine-key j i e mj))
      go false e =
          kept-key first number (same j) (same j) refl (λ k. refl) (sym (keys.counted-miss j i e)) (others j (other (ltb j i) refl) mj e)
        where
          other : (b : Bool) → ltb j i ≡ b → j < i
          other true q = ltb-true j i q
          other false q =
              let z : j ≡ i = omega (arith, ltb-false j i q) in
              never (keys.self j) (subst (λ (k : ℕ). same j k ≡ false) (sym z) e)

  module _ (i : ℕ) (first number : List ℕ) (all : All i first number) where
    -- a place of another class
    pub skipped : (mine i → ⊥) → All (suc i) first number
    skipped h = assemble i first number (λ m. absurd (h m)) (λ j l m e. all j l m)

    -- the window is full of other keys
    pub filled : Passed (same i) (slot i) first 256 → All (suc i) first number
    filled p = assemble i first number (λ m t l q. ((p t l).0, λ o. never o (p t l).1)) (λ j l m e. all j l m)

    -- an empty slot: the key is new
    pub new : {q : ℕ} → mine i → EndsEmpty (same i) (slot i) first q → (j : ℕ) → j < i → same i j ≡ false
    new m r j l = go (same i j) refl
      where
        go : (b : Bool) → same i j ≡ b → b ≡ false
        go true e =
            let k = all j l (keys.mine-key i j e m) r.steps r.within (passed-key first r.steps (same i) (same j) (keys.slot-key i j e) (keys.key i j e) r.passed) in
            absurd (k.0 (subst (λ (a : ℕ). get_or first (a + r.steps) 0 ≡ 0) (keys.slot-key i j e) r.empty))
        go false e = refl

    -- the key's own slot: what is counted there
    pub known : {q : ℕ} → mine i → ((x : ℕ) → get_or first x 0 ≤ i) → (r : EndsHeld (same i) (slot i) first q) → get_or number q 0 ≡ counted i i
    known {q} m low r =
        let x = get_or first (slot i + r.steps) 0 - 1 in
        let l : x < i = omega (arith, low (slot i + r.steps), r.held) in
        let e = r.own in
        let k = all x l (keys.mine-key i x e m) r.steps r.within (passed-key first r.steps (same i) (same x) (keys.slot-key i x e) (keys.key i x e) r.passed) in
        rw r.there
        (subst (λ (a : ℕ). same x (get_or first (a + r.steps) 0 - 1) ≡ true → get_or number (a + r.steps) 0 ≡ counted x i) (sym (keys.slot-key i x e)) k.1 (keys.self x) ∙ sym (keys.counted-key i x e i))

    -- counted there
    own-counted :
        {q : ℕ} (r : EndsHeld (same i) (slot i) first q) → q < length number → (n : ℕ) → n ≡ counted i i → Kept (same i) (slot i) first (set number q (suc n)) (counted i (suc i))
    own-counted {q} r h n e t l p = go (ltb t r.steps) refl
      where
        there : get_or (set number q (suc n)) (slot i + r.steps) 0 ≡ counted i (suc i)
        there = subst (λ (x : ℕ). get_or (set number q (suc n)) x 0 ≡ suc n) r.there (get_or-set_same number q (suc n) 0 h) ∙ ap suc e ∙ sym (keys.counted-hit i i (keys.self i))

        go : (b : Bool) → ltb t r.steps ≡ b → (get_or first (slot i + t) 0 ≡ 0 → ⊥) × (same i (get_or first (slot i + t) 0 - 1) ≡ true → get_or (set number q (suc n)) (slot i + t) 0 ≡ counted i (suc i))
        go true b = let k = r.passed t (ltb-true t r.steps b) in (k.0, λ o. never o k.1)
        go false b =
            let z : t ≡ r.steps = omega (arith, ltb-false t r.steps b, before (same i) (slot i) first r.steps t r.own p) in
            rw z (r.held, λ o. there)

    other-kept :
        {q : ℕ} (r : EndsHeld (same i) (slot i) first q) (v j : ℕ) → same j i ≡ false → Kept (same j) (slot j) first number (counted j i) →
        Kept (same j) (slot j) first (set number q v) (counted j i)
    other-kept {q} r v j e k t l p =
        ((k t l p).0, λ o. get_or-set_other number q (slot j + t) v 0 (λ z. never (shared (z ∙ r.there) o) e) ∙ (k t l p).1 o)
      where
        shared : slot j + t ≡ slot i + r.steps → same j (get_or first (slot j + t) 0 - 1) ≡ true → same j i ≡ true
        shared z o =
            let x = get_or first (slot i + r.steps) 0 - 1 in
            keys.key j x (subst (λ (y : ℕ). same j (get_or first y 0 - 1) ≡ true) z o) i ∙ turn i x r.own

    pub counted-on :
        {q : ℕ} → EndsHeld (same i) (slot i) first q → q < length number → (n : ℕ) → n ≡ counted i i → All (suc i) first (set number q (suc n))
    counted-on {q} r h n e =
        assemble i first (set number q (suc n)) (λ m. own-counted r h n e) (λ j l m d. other-kept r (suc n) j d (all j l m))

    -- a slot is taken
    module _ {q : ℕ} (r : EndsEmpty (same i) (slot i) first q) (v w : ℕ) where
      unchanged : (x : ℕ) → (x ≡ q → ⊥) → get_or (set first q v) x 0 ≡ get_or first x 0
      unchanged x h = get_or-set_other first q x v 0 h

      away :
          (j : ℕ) → Kept (same j) (slot j) first number (counted j i) → (t : ℕ) → t < 256 → Passed (same j) (slot j) (set first q v) t →
          (s : ℕ) → s ≤ t → slot j + s ≡ q → ⊥
      away j k t l p s h z = (k s (omega arith) old).0 (subst (λ (x : ℕ). get_or first x 0 ≡ 0) (sym (z ∙ r.there)) r.empty)
        where
          old : Passed (same j) (slot j) first s
          old u g = subst (λ (x : ℕ). (x ≡ 0 → ⊥) × (same j (x - 1) ≡ false)) (unchanged (slot j + u) (λ y. omega arith)) (p u (omega arith))

      other-open :
          (j : ℕ) → Kept (same j) (slot j) first number (counted j i) → Kept (same j) (slot j) (set first q v) (set number q w) (counted j i)
      other-open j k t l p =
          let far = away j k t l p t (omega arith) in
          let e = unchanged (slot j + t) far in
          let o = k t l old in
          (λ z. o.0 (sym e ∙ z), λ y. get_or-set_other number q (slot j + t) w 0 far ∙ o.1 (subst (λ (x : ℕ). same j (x - 1) ≡ true) e y))
        where
          old : Passed (same j) (slot j) first t
          old u g = subst (λ (x : ℕ). (x ≡ 0 → ⊥) × (same j (x - 1) ≡ false)) (unchanged (slot j + u) (away j k t l p u (omega arith))) (p u g)

    own_open :
        {q : ℕ} (m : mine i) (r : EndsEmpty (same i) (slot i) first q) → q < length first → q < length number →
        Kept (same i) (slot i) (set first q (suc i)) (set number q 1) (counted i (suc i))
    own_open {q} m r hf hn t l p = go (ltb t r.steps) refl
      where
        first' : List ℕ
        first' = set first q (suc i)

        taken : get_or first' (slot i + r.steps) 0 ≡ suc i
        taken = subst (λ (x : ℕ). get_or first' x 0 ≡ suc i) r.there (get_or-set_same first q (suc i) 0 hf)

        own : same i (get_or first' (slot i + r.steps) 0 - 1) ≡ true
        own = let z : get_or first' (slot i + r.steps) 0 - 1 ≡ i = omega (arith, taken) in subst (λ (x : ℕ). same i x ≡ true) (sym z) (keys.self i)

        there : get_or (set number q 1) (slot i + r.steps) 0 ≡ counted i (suc i)
        there =
            subst (λ (x : ℕ). get_or (set number q 1) x 0 ≡ 1) r.there (get_or-set_same number q 1 0 hn) ∙ ap suc (sym (keys.counted_none i (new m r))) ∙
            sym (keys.counted-hit i i (keys.self i))

        go : (b : Bool) → ltb t r.steps ≡ b → (get_or first' (slot i + t) 0 ≡ 0 → ⊥) × (same i (get_or first' (slot i + t) 0 - 1) ≡ true → get_or (set number q 1) (slot i + t) 0 ≡ counted i (suc i))
        go true b =
            let h = ltb-true t r.steps b in
            let k = r.passed t h in
            let e = get_or-set_other first q (slot i + t) (suc i) 0 (λ z. omega (arith, r.there)) in
            (λ z. k.0 (sym e ∙ z), λ o. never (subst (λ (x : ℕ). same i (x - 1) ≡ true) e o) k.1)
        go false b =
            let z : t ≡ r.steps = omega (arith, ltb-false t r.steps b, before (same i) (slot i) first' r.steps t own p) in
            rw z (λ y. omega (arith, taken), λ o. there)

    pub opened :
        {q : ℕ} → mine i → EndsEmpty (same i) (slot i) first q → q < length first → q < length number → All (suc i) (set first q (suc i)) (set number q 1)
    opened {q} m r hf hn =
        assemble i (set first q (suc i)) (set number q 1) (λ m. own_open m r hf hn) (λ j l m d. other-open r (suc i) 1 j (all j l m))
