-- Laws of what stands along the links. With links that go down (`Downward`): `along-at` says that climbing i links gives entry i of a
-- chain, `along-climb` that the chain of the frame so reached is the rest of the chain, `along-alike` and `climb-alike` that a chain
-- depends on no more than the blocks and links of the frames up to where it starts.
use Prim.Native.Nat.{ℕ, zero, suc, ◌≤◌, ◌<◌}
use Rattle.std.proofs.Common.{arith, ◌∙◌}
use mathlib.Core.List.{List, [], ◌∷◌}
use Rattle.std.proofs.Math.Option.{Option, none, some, map, map-eq-none_iff, map-eq-some_iff}
use Rattle.std.specs.Prelude.{◌≡◌, length, drop}
use Rattle.std.proofs.Math.Path.{refl, sym, ap}
use Rattle.std.proofs.Math.ListN.{get_elem?}
use Rattle.frames.specs.Frame.{Frame, numbered}
use Rattle.frames.specs.Numbered.{numbered-zero}
use Rattle.coordinates.specs.Enclosure.{Enclosing}
use Rattle.coordinates.specs.Chain.{enclosing, along, climb, Downward, outline, SameOutlines}

-- one frame more

pub along-none : {A : Type 0} (a : ℕ → Enclosing → A) (m : ℕ) (fs : List Frame) (k : ℕ) → numbered fs k ≡ none → along a m fs k ≡ []
unfolding along
along-none a zero fs k e = refl
along-none a (suc m) fs k e = rw (e, along)

pub along-some : {A : Type 0} (a : ℕ → Enclosing → A) (m : ℕ) (fs : List Frame) (k : ℕ) (f : Frame) → numbered fs k ≡ some f
    → along a (suc m) fs k ≡ a k (enclosing f) ∷ along a m fs f.link
unfolding along
along-some a m fs k f e = rw (e, along)

along-zero : {A : Type 0} (a : ℕ → Enclosing → A) (fs : List Frame) (k : ℕ) → along a 0 fs k ≡ []
unfolding along
along-zero a fs k = refl

pub climb-none : (fs : List Frame) (k j : ℕ) → numbered fs k ≡ none → climb fs k (suc j) ≡ 0
unfolding climb
climb-none fs k j e = rw (e, climb)

pub climb-some : (fs : List Frame) (k j : ℕ) (f : Frame) → numbered fs k ≡ some f → climb fs k (suc j) ≡ climb fs f.link j
unfolding climb
climb-some fs k j f e = rw (e, climb)

pub climb-zero : (fs : List Frame) (k : ℕ) → climb fs k 0 ≡ k
unfolding climb
climb-zero fs k = refl

pub climb-bound : (fs : List Frame) → Downward fs → (k j : ℕ) → climb fs k j ≤ k
climb-bound fs down k zero = omega (arith, climb-zero fs k)
climb-bound fs down k (suc j) = go (λ i. climb-bound fs down i j) (numbered fs k) refl
  where
    go : ((i : ℕ) → climb fs i j ≤ i) → (o : Option Frame) → numbered fs k ≡ o → climb fs k (suc j) ≤ k
    go r none e = omega (arith, climb-none fs k j e)
    go r (some f) e = omega (arith, climb-some fs k j f e, r f.link, down k f e)

-- frames that are alike

module _ (fs gs : List Frame) (b : ℕ) (same : SameOutlines b fs gs) where
  pub alike-none : (k : ℕ) → k ≤ b → numbered fs k ≡ none → numbered gs k ≡ none
  alike-none k h e = (map-eq-none_iff outline (numbered gs k)).0 (sym (same k h) ∙ ap (map outline) e)

  pub alike-some : (k : ℕ) (f : Frame) → k ≤ b → numbered fs k ≡ some f → (g : Frame) × (numbered gs k ≡ some g) × (outline g ≡ outline f)
  alike-some k f h e = (map-eq-some_iff outline (numbered gs k)).0 (sym (same k h) ∙ ap (map outline) e)

  module _ (down : Downward fs) where
    pub along-alike : {A : Type 0} (a : ℕ → Enclosing → A) (m k : ℕ) → k ≤ b → along a m gs k ≡ along a m fs k
    unfolding outline
    along-alike a zero k h = along-zero a gs k ∙ sym (along-zero a fs k)
    along-alike {A} a (suc m) k h = go (λ j p. along-alike a m j p) (numbered fs k) refl
      where
        go : ((j : ℕ) → j ≤ b → along a m gs j ≡ along a m fs j) → (o : Option Frame) → numbered fs k ≡ o → along a (suc m) gs k ≡ along a (suc m) fs k
        go r none e = along-none a (suc m) gs k (alike-none k h e) ∙ sym (along-none a (suc m) fs k e)
        go r (some f) e =
            let g = alike-some k f h e in
            along-some a m gs k g.0 g.1 ∙ ap (λ (o : Enclosing × ℕ). a k o.0 ∷ along a m gs o.1) g.2
            ∙ ap (λ (l : List A). a k (enclosing f) ∷ l) (r f.link (omega (arith, down k f e))) ∙ sym (along-some a m fs k f e)

    pub climb-alike : (k j : ℕ) → k ≤ b → climb gs k j ≡ climb fs k j
    unfolding outline
    climb-alike k zero h = climb-zero gs k ∙ sym (climb-zero fs k)
    climb-alike k (suc j) h = go (λ i p. climb-alike i j p) (numbered fs k) refl
      where
        go : ((i : ℕ) → i ≤ b → climb gs i j ≡ climb fs i j) → (o : Option Frame) → numbered fs k ≡ o → climb gs k (suc j) ≡ climb fs k (suc j)
        go r none e = climb-none gs k j (alike-none k h e) ∙ sym (climb-none fs k j e)
        go r (some f) e =
            let g = alike-some k f h e in
            climb-some gs k j g.0 g.1 ∙ ap (λ (o : Enclosing × ℕ). climb gs o.1 j) g.2
            ∙ r f.link (omega (arith, down k f e)) ∙ sym (climb-some fs k j f e)

-- all along the links at once

pub along-length : {A B : Type 0} (a : ℕ → Enclosing → A) (b : ℕ → Enclosing → B) (m : ℕ) (fs : List Frame) (k : ℕ) → length (along a m fs k) ≡ length (along b m fs k)
unfolding along
along-length a b zero fs k = refl
along-length a b (suc m) fs k = go (λ j. along-length a b m fs j) (numbered fs k) refl
  where
    go : ((j : ℕ) → length (along a m fs j) ≡ length (along b m fs j)) → (o : Option Frame) → numbered fs k ≡ o → length (along a (suc m) fs k) ≡ length (along b (suc m) fs k)
    go r none e = ap length (along-none a (suc m) fs k e) ∙ sym (ap length (along-none b (suc m) fs k e))
    go r (some f) e = ap length (along-some a m fs k f e) ∙ ap suc (r f.link) ∙ sym (ap length (along-some b m fs k f e))

module _ {A : Type 0} (a : ℕ → Enclosing → A) (fs : List Frame) (down : Downward fs) where
  -- more frames than there are below make no difference
  pub along-enough : (m n k : ℕ) → k ≤ m → k ≤ n → along a m fs k ≡ along a n fs k
  along-enough zero n k p q = along-none a zero fs k (numbered-zero fs k p) ∙ sym (along-none a n fs k (numbered-zero fs k p))
  along-enough (suc m) zero k p q = along-none a (suc m) fs k (numbered-zero fs k q) ∙ sym (along-none a zero fs k (numbered-zero fs k q))
  along-enough (suc m) (suc n) k p q = go (λ j x y. along-enough m n j x y) (numbered fs k) refl
    where
      go : ((j : ℕ) → j ≤ m → j ≤ n → along a m fs j ≡ along a n fs j) → (o : Option Frame) → numbered fs k ≡ o → along a (suc m) fs k ≡ along a (suc n) fs k
      go r none e = along-none a (suc m) fs k e ∙ sym (along-none a (suc n) fs k e)
      go r (some f) e =
          let h : f.link < k = down k f e in
          along-some a m fs k f e ∙ ap (λ (l : List A). a k (enclosing f) ∷ l) (r f.link (omega arith) (omega arith)) ∙ sym (along-some a n fs k f e)

  pub along-step : (k : ℕ) (f : Frame) → numbered fs k ≡ some f → along a k fs k ≡ a k (enclosing f) ∷ along a f.link fs f.link
  along-step k f e =
      let h : f.link < k = down k f e in
      along-enough k (suc k) k (omega arith) (omega arith) ∙ along-some a k fs k f e
      ∙ ap (λ (l : List A). a k (enclosing f) ∷ l) (along-enough k f.link f.link (omega arith) (omega arith))

  -- what `a` makes of frame k, where there is one
  abbrev entry : ℕ → Option A
  entry k = map (λ f. a k (enclosing f)) (numbered fs k)

  pub along-at : (k i : ℕ) → get_elem? (along a k fs k) i ≡ map (λ f. a (climb fs k i) (enclosing f)) (numbered fs (climb fs k i))
  along-at k zero = go (numbered fs k) refl ∙ ap entry (sym (climb-zero fs k))
    where
      go : (o : Option Frame) → numbered fs k ≡ o → get_elem? (along a k fs k) 0 ≡ entry k
      go none e = ap (λ (l : List A). get_elem? l 0) (along-none a k fs k e) ∙ sym (ap (map (λ f. a k (enclosing f))) e)
      go (some f) e = ap (λ (l : List A). get_elem? l 0) (along-step k f e) ∙ sym (ap (map (λ f. a k (enclosing f))) e)
  along-at k (suc i) = go (λ j. along-at j i) (numbered fs k) refl
    where
      go : ((j : ℕ) → get_elem? (along a j fs j) i ≡ entry (climb fs j i)) → (o : Option Frame) → numbered fs k ≡ o → get_elem? (along a k fs k) (suc i) ≡ entry (climb fs k (suc i))
      go r none e = ap (λ (l : List A). get_elem? l (suc i)) (along-none a k fs k e) ∙ sym (ap entry (climb-none fs k i e) ∙ ap (map (λ f. a 0 (enclosing f))) (numbered-zero fs 0 (omega arith)))
      go r (some f) e = ap (λ (l : List A). get_elem? l (suc i)) (along-step k f e) ∙ r f.link ∙ ap entry (sym (climb-some fs k i f e))

  pub along-climb : (k i : ℕ) → along a (climb fs k i) fs (climb fs k i) ≡ drop i (along a k fs k)
  along-climb k zero = ap (λ j. along a j fs j) (climb-zero fs k)
  along-climb k (suc i) = go (λ j. along-climb j i) (numbered fs k) refl
    where
      go : ((j : ℕ) → along a (climb fs j i) fs (climb fs j i) ≡ drop i (along a j fs j)) → (o : Option Frame) → numbered fs k ≡ o → along a (climb fs k (suc i)) fs (climb fs k (suc i)) ≡ drop (suc i) (along a k fs k)
      go r none e = ap (λ j. along a j fs j) (climb-none fs k i e) ∙ along-none a 0 fs 0 (numbered-zero fs 0 (omega arith)) ∙ sym (ap (drop (suc i)) (along-none a k fs k e))
      go r (some f) e = ap (λ j. along a j fs j) (climb-some fs k i f e) ∙ r f.link ∙ sym (ap (drop (suc i)) (along-step k f e))
