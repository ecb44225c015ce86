-- The search along the links and the coordinate: `sought` says that searching for n from frame k finds what the coordinate of n in k's
-- enclosure says, and nothing where it has none. It asks of the frames only that links go down. `seek-alike`: it looks at blocks and links alone.
use Prim.Native.Nat.{ℕ, zero, suc, ◌+◌, ◌-◌, ◌≤◌, ◌<◌}
use native.Mathlib.Omega.{arith}
use Rattle.std.specs.Prelude.{List, [], ◌∷◌, ◌≡◌}
use Rattle.std.proofs.Math.Option.{Option, none, some, none-ne-some, some-injective}
use Rattle.std.proofs.Math.Path.{refl, ap}
use Rattle.std.proofs.Common.{sym, ◌∙◌}
use Rattle.std.proofs.Math.ListN.{length}
use Rattle.frames.specs.Frame.{Frame, NamePlace, numbered, frame_names, position_from, seek_from}
use Rattle.frames.specs.Numbered.{numbered-zero}
use Rattle.frame_laws.specs.Finding.{seek-none, seek-here, seek-on, seek-same}
use Rattle.coordinates.specs.Enclosure.{Enclosing, Enclosure, Coordinate, names_of, coordinate_of, outward}
use Rattle.coordinates.specs.Chain.{enclosing, enclosure_of, climb, Downward, outline, SameOutlines}
use Rattle.coordinates.proofs.Along.{along-none, along-step, climb-zero, climb-some, alike-none, alike-some}

-- what a coordinate says of a search from frame k that has followed j links
unfoldable pub place_from : List Frame → ℕ → ℕ → Option Coordinate → Option NamePlace
place_from fs k j none = none
place_from fs k j (some c) =
    let links = outward (enclosure_of fs k) c in some (record { number = climb fs k links; position = c.position; followed = j + links })

-- one step of the search, and one of the coordinate

pub coordinate-here : (e : Enclosing) (es : Enclosure) (n p : ℕ) → position_from n 1 (names_of e) ≡ some p → coordinate_of (e ∷ es) n ≡ some (record { level = suc (length es); position = p })
unfolding coordinate_of
coordinate-here e es n p q = rw (q, coordinate_of)

pub coordinate-further : (e : Enclosing) (es : Enclosure) (n : ℕ) → position_from n 1 (names_of e) ≡ none → coordinate_of (e ∷ es) n ≡ coordinate_of es n
unfolding coordinate_of
coordinate-further e es n q = rw (q, coordinate_of)

names_same : (f : Frame) (n : ℕ) → position_from n 1 (frame_names f) ≡ position_from n 1 (names_of (enclosing f))
unfolding frame_names names_of enclosing
names_same f n = refl

place-nowhere : (fs : List Frame) (k j n : ℕ) → place_from fs k j (coordinate_of [] n) ≡ none
unfolding place_from coordinate_of
place-nowhere fs k j n = refl

coordinate-high : (es : Enclosure) (n : ℕ) (c : Coordinate) → coordinate_of es n ≡ some c → c.level ≤ length es
unfolding coordinate_of
coordinate-high [] n c e = absurd (none-ne-some c e)
coordinate-high (x ∷ es) n c e = go (coordinate-high es n c) (position_from n 1 (names_of x)) refl
  where
    go : (coordinate_of es n ≡ some c → c.level ≤ length es) → (o : Option ℕ) → position_from n 1 (names_of x) ≡ o → c.level ≤ suc (length es)
    go r none q = omega (arith, r (rw (q, coordinate_of) at e))
    go r (some p) q = let h : suc (length es) ≡ c.level = ap (λ (y : Coordinate). y.level) (some-injective _ c (rw (q, coordinate_of) at e)) in omega arith

pub enclosure-none : (fs : List Frame) (k : ℕ) → numbered fs k ≡ none → enclosure_of fs k ≡ []
unfolding enclosure_of
enclosure-none fs k e = along-none (λ i e. e) k fs k e

pub enclosure-step : (fs : List Frame) → Downward fs → (k : ℕ) (f : Frame) → numbered fs k ≡ some f → enclosure_of fs k ≡ enclosing f ∷ enclosure_of fs f.link
unfolding enclosure_of
enclosure-step fs down k f e = along-step (λ i e. e) fs down k f e

place-path : (a b c x y z : ℕ) → a ≡ x → b ≡ y → c ≡ z → ◌≡◌ {A = Option NamePlace} (some (record { number = a; position = b; followed = c })) (some (record { number = x; position = y; followed = z }))
place-path a b c x y z p q r = λ i. some (record { number = p i; position = q i; followed = r i })

module _ (fs : List Frame) (down : Downward fs) where
  -- one link further in, a coordinate found further out says the same place
  further : (k : ℕ) (f : Frame) (n j : ℕ) → numbered fs k ≡ some f → (o : Option Coordinate) → coordinate_of (enclosure_of fs f.link) n ≡ o → place_from fs f.link (suc j) o ≡ place_from fs k j o
  unfolding place_from outward
  further k f n j e none q = refl
  further k f n j e (some c) q =
      let h : c.level ≤ length (enclosure_of fs f.link) = coordinate-high _ n c q in
      let s : length (enclosure_of fs k) ≡ suc (length (enclosure_of fs f.link)) = ap length (enclosure-step fs down k f e) in
      let d = length (enclosure_of fs f.link) - c.level in
      let t : length (enclosure_of fs k) - c.level ≡ suc d = omega arith in
      place-path (climb fs f.link d) c.position (suc j + d) _ _ _ (sym (ap (climb fs k) t ∙ climb-some fs k d f e)) refl (omega arith)

  here : (k : ℕ) (f : Frame) (p j : ℕ) → numbered fs k ≡ some f → some (record { number = k; position = p; followed = j }) ≡ place_from fs k j (some (record { level = suc (length (enclosure_of fs f.link)); position = p }))
  unfolding place_from outward
  here k f p j e =
      let s : length (enclosure_of fs k) ≡ suc (length (enclosure_of fs f.link)) = ap length (enclosure-step fs down k f e) in
      let t : length (enclosure_of fs k) - suc (length (enclosure_of fs f.link)) ≡ 0 = omega arith in
      place-path k p j _ _ _ (sym (ap (climb fs k) t ∙ climb-zero fs k)) refl (omega arith)

  sought-in : (m k : ℕ) (f : Frame) (n j : ℕ) → numbered fs k ≡ some f → seek_from m fs f.link n (suc j) ≡ place_from fs f.link (suc j) (coordinate_of (enclosure_of fs f.link) n)
      → (o : Option ℕ) → position_from n 1 (frame_names f) ≡ o → seek_from (suc m) fs k n j ≡ place_from fs k j (coordinate_of (enclosure_of fs k) n)
  sought-in m k f n j e r none q =
      let es = enclosure_of fs f.link in
      seek-on m fs k n j f e q ∙ r ∙ further k f n j e (coordinate_of es n) refl
      ∙ ap (place_from fs k j) (sym (ap (λ (x : Enclosure). coordinate_of x n) (enclosure-step fs down k f e) ∙ coordinate-further (enclosing f) es n (sym (names_same f n) ∙ q)))
  sought-in m k f n j e r (some p) q =
      let es = enclosure_of fs f.link in
      seek-here m fs k n j f p e q ∙ here k f p j e
      ∙ ap (place_from fs k j) (sym (ap (λ (x : Enclosure). coordinate_of x n) (enclosure-step fs down k f e) ∙ coordinate-here (enclosing f) es n p (sym (names_same f n) ∙ q)))

  sought-none : (m k n j : ℕ) → numbered fs k ≡ none → seek_from m fs k n j ≡ place_from fs k j (coordinate_of (enclosure_of fs k) n)
  sought-none m k n j e = seek-none m fs k n j e ∙ sym (ap (λ (x : Enclosure). place_from fs k j (coordinate_of x n)) (enclosure-none fs k e) ∙ place-nowhere fs k j n)

  pub sought : (m k n j : ℕ) → k ≤ m → seek_from m fs k n j ≡ place_from fs k j (coordinate_of (enclosure_of fs k) n)
  sought zero k n j h = sought-none zero k n j (numbered-zero fs k h)
  sought (suc m) k n j h = go (λ i p. sought m i n (suc j) p) (numbered fs k) refl
    where
      go : ((i : ℕ) → i ≤ m → seek_from m fs i n (suc j) ≡ place_from fs i (suc j) (coordinate_of (enclosure_of fs i) n)) → (o : Option Frame) → numbered fs k ≡ o → seek_from (suc m) fs k n j ≡ place_from fs k j (coordinate_of (enclosure_of fs k) n)
      go r none e = sought-none (suc m) k n j e
      go r (some f) e = let l : f.link < k = down k f e in sought-in m k f n j e (r f.link (omega arith)) (position_from n 1 (frame_names f)) refl

pub seek-alike : (fs gs : List Frame) (b : ℕ) → SameOutlines b fs gs → Downward fs → (m k n j : ℕ) → k ≤ b → seek_from m gs k n j ≡ seek_from m fs k n j
unfolding outline enclosing frame_names names_of
seek-alike fs gs b same down =
    seek-same (λ i. i ≤ b) fs gs
    (record {
      absent = alike-none fs gs b same;
      present = λ i f h e.
          let g = alike-some fs gs b same i f h e in
          let l : f.link < i = down i f e in
          (g.0, g.1, ap (λ (o : Enclosing × ℕ). names_of o.0) g.2, ap (λ (o : Enclosing × ℕ). o.1) g.2, omega arith);
    })
