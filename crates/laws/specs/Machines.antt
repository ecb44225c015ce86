-- Runs of any machine that is given by its parts, so that what is true of every run is proved once; the copy-rule machine and the frame machine are
-- two instances. `Runs M n s r`: a run from s, with n steps left, comes to r, for one of four reasons or by a step and the run after it. `only_one`: it comes
-- to nothing else, so that a machine's rules are equations. `runs-keep`: what every step keeps is had by what a run leaves. `runs-alike`: two machines that
-- go in step come to the same.
use Rattle.std.specs.Prelude.{ℕ, ◌-◌, ◌≤◌, ◌<◌, Bool, true, false, List, [], ◌∷◌, ◌≡◌, refl, leb, length}
use Rattle.std.proofs.Common.{arith, ap, subst, leb-true, leb-false}
use Rattle.language.specs.declared.Stop.{Stop}
use Rattle.language.specs.declared.End.{End}
use Rattle.language.specs.declared.End.TheVariants.{Finished, Spent, Stopped}
use Rattle.laws.specs.Lists.{by-elements}

-- `Goes s s'`: the step from s leads to s'; `Stops s c`: it has the cause c to stop.
pub record Machine (S A R : Type 0) : Type 1 where
  pub live : S → List A
  pub Goes : S → S → Type 0
  pub Stops : S → Stop → Type 0
  pub cost : S → S → ℕ
  pub counted : S → S → S
  pub offset : S → ℕ
  pub ends : End → ℕ → S → R
  pub one-step : (s t u : S) → Goes s t → Goes s u → t ≡ u
  pub one-cause : (s : S) (c d : Stop) → Stops s c → Stops s d → c ≡ d
  pub not-both : (s t : S) (c : Stop) → Goes s t → Stops s c → ⊥

module _ {S A R : Type 0} (M : Machine S A R) where
  pub data Runs : ℕ → S → R → Type 0 where
    finished : {n : ℕ} {s : S} → M.live s ≡ [] → Runs n s (M.ends Finished 0 s)
    spent : {n : ℕ} {s : S} → 1 ≤ length (M.live s) → n ≡ 0 → Runs n s (M.ends Spent 0 s)
    stopped : {n : ℕ} {s : S} (c : Stop) → 1 ≤ length (M.live s) → 1 ≤ n → M.Stops s c → Runs n s (M.ends (Stopped c) (M.offset s) s)
    -- a step that costs more than is left is not begun
    short : {n : ℕ} {s : S} (s' : S) → 1 ≤ length (M.live s) → 1 ≤ n → M.Goes s s' → n < M.cost s s' → Runs n s (M.ends Spent 0 s)
    gone : {n : ℕ} {s : S} {r : R} (s' : S) → 1 ≤ length (M.live s) → 1 ≤ n → M.Goes s s' → M.cost s s' ≤ n → Runs (n - M.cost s s') (M.counted s s') r → Runs n s r

  none-live : {X : Type 0} (s : S) → M.live s ≡ [] → 1 ≤ length (M.live s) → X
  none-live s e h = absurd (omega (arith, ap length e))

  pub only_one : {n : ℕ} {s : S} {r q : R} → Runs n s r → Runs n s q → r ≡ q
  only_one (finished e) (finished e') = refl
  only_one {s = s} (finished e) (spent h z) = none-live s e h
  only_one {s = s} (finished e) (stopped c h k x) = none-live s e h
  only_one {s = s} (finished e) (short t h k g f) = none-live s e h
  only_one {s = s} (finished e) (gone t h k g f r) = none-live s e h
  only_one {s = s} (spent h z) (finished e) = none-live s e h
  only_one (spent h z) (spent h' z') = refl
  only_one (spent h z) (stopped c h' k x) = absurd (omega arith)
  only_one (spent h z) (short t h' k g f) = refl
  only_one (spent h z) (gone t h' k g f r) = absurd (omega arith)
  only_one {s = s} (stopped c h k x) (finished e) = none-live s e h
  only_one (stopped c h k x) (spent h' z) = absurd (omega arith)
  only_one {s = s} (stopped c h k x) (stopped d h' k' y) = ap (λ (v : Stop). M.ends (Stopped v) (M.offset s) s) (M.one-cause s c d x y)
  only_one {s = s} (stopped c h k x) (short t h' k' g f) = absurd (M.not-both s t c g x)
  only_one {s = s} (stopped c h k x) (gone t h' k' g f r) = absurd (M.not-both s t c g x)
  only_one {s = s} (short t h k g f) (finished e) = none-live s e h
  only_one (short t h k g f) (spent h' z) = refl
  only_one {s = s} (short t h k g f) (stopped c h' k' x) = absurd (M.not-both s t c g x)
  only_one (short t h k g f) (short u h' k' g' f') = refl
  only_one {s = s} (short t h k g f) (gone u h' k' g' f' r) = absurd (omega (arith, ap (M.cost s) (M.one-step s t u g g')))
  only_one {s = s} (gone t h k g f r) (finished e) = none-live s e h
  only_one (gone t h k g f r) (spent h' z) = absurd (omega arith)
  only_one {s = s} (gone t h k g f r) (stopped c h' k' x) = absurd (M.not-both s t c g x)
  only_one {s = s} (gone t h k g f r) (short u h' k' g' f') = absurd (omega (arith, ap (M.cost s) (M.one-step s t u g g')))
  only_one {n} {s} {q = q} (gone t h k g f r) (gone u h' k' g' f' r') =
      only_one {q = q} r (subst (λ (v : S). Runs (n - M.cost s v) (M.counted s v) q) (M.one-step s u t g' g) r')

  -- the tests that a run makes: whether anything is live, and whether a step's cost is left
  pub runs-live : {n : ℕ} (s : S) (r : R) → (1 ≤ length (M.live s) → Runs n s r) → Runs n s (elim (M.live s) [ [] ↦ M.ends Finished 0 s | a ∷ rest ↦ r ])
  runs-live {n} s r f = go (M.live s) refl
    where
      go : (as' : List A) → M.live s ≡ as' → Runs n s (elim as' [ [] ↦ M.ends Finished 0 s | a ∷ rest ↦ r ])
      go [] e = finished e
      go (a ∷ rest) e = f (omega (arith, ap length e))

  pub runs_fit : {n : ℕ} (s s' : S) (r : R) → 1 ≤ length (M.live s) → 1 ≤ n → M.Goes s s' → Runs (n - M.cost s s') (M.counted s s') r
      → Runs n s (elim (leb (M.cost s s') n) [ true ↦ r | false ↦ M.ends Spent 0 s ])
  runs_fit {n} s s' r h k g f = go (leb (M.cost s s') n) refl
    where
      go : (t : Bool) → leb (M.cost s s') n ≡ t → Runs n s (elim t [ true ↦ r | false ↦ M.ends Spent 0 s ])
      go true e = gone s' h k g (leb-true (M.cost s s') n e) f
      go false e = short s' h k g (leb-false (M.cost s s') n e)

  -- what every step keeps, whatever a run leaves has
  module _ (P : S → Type 0) (Q : R → Type 0) (leaves : (e : End) (o : ℕ) (s : S) → P s → Q (M.ends e o s))
      (keeps : (s s' : S) → 1 ≤ length (M.live s) → M.Goes s s' → P s → P (M.counted s s')) where
    pub runs-keep : {n : ℕ} {s : S} {r : R} → Runs n s r → P s → Q r
    runs-keep {s = s} (finished e) p = leaves Finished 0 s p
    runs-keep {s = s} (spent h z) p = leaves Spent 0 s p
    runs-keep {s = s} (stopped c h k x) p = leaves (Stopped c) (M.offset s) s p
    runs-keep {s = s} (short t h k g f) p = leaves Spent 0 s p
    runs-keep {s = s} (gone t h k g f r) p = runs-keep r (keeps s t h g p)

-- Two machines come to the same, where their states are alike and stay so step by step.

module _ {S A R T B Q : Type 0} (M : Machine S A R) (N : Machine T B Q) (Like : S → T → Type 0) (Same : R → Q → Type 0) where
  pub record InStep : Type 0 where
    pub depth : (s : S) (t : T) → Like s t → length (M.live s) ≡ length (N.live t)
    pub ended : (e : End) (o : ℕ) (s : S) (t : T) → Like s t → Same (M.ends e o s) (N.ends e o t)
    pub offset : (s : S) (t : T) → 1 ≤ length (M.live s) → Like s t → M.offset s ≡ N.offset t
    pub stop : (s : S) (t : T) (c : Stop) → 1 ≤ length (M.live s) → Like s t → M.Stops s c → N.Stops t c
    pub go : (s : S) (t : T) (s' : S) → 1 ≤ length (M.live s) → Like s t → M.Goes s s'
        → (t' : T) × N.Goes t t' × (M.cost s s' ≡ N.cost t t') × Like (M.counted s s') (N.counted t t')

  module _ (x : InStep) where
    pub runs-alike : {n : ℕ} {s : S} {r : R} → Runs M n s r → (t : T) → Like s t → (q : Q) × Runs N n t q × Same r q
    runs-alike {s = s} (finished e) t a =
        (_, finished {s = t} (by-elements (N.live t) (λ q. q) (λ h. absurd (omega (arith, x.depth s t a, ap length e)))), x.ended Finished 0 s t a)
    runs-alike {s = s} (spent h z) t a = (_, spent {s = t} (omega (arith, x.depth s t a)) z, x.ended Spent 0 s t a)
    runs-alike {n} {s} (stopped c h k y) t a = (
      _,
      stopped {s = t} c (omega (arith, x.depth s t a)) k (x.stop s t c h a y),
      subst (λ (o : ℕ). Same (M.ends (Stopped c) (M.offset s) s) (N.ends (Stopped c) o t)) (x.offset s t h a) (x.ended (Stopped c) (M.offset s) s t a),
    )
    runs-alike {s = s} (short s' h k g f) t a =
        let b = x.go s t s' h a g in
        (_, short {s = t} b.0 (omega (arith, x.depth s t a)) k b.1 (omega (arith, b.2)), x.ended Spent 0 s t a)
    runs-alike {n} {s} (gone s' h k g f r) t a =
        let b = x.go s t s' h a g in
        let c = runs-alike r (N.counted t b.0) b.3 in
        (c.0, gone {s = t} b.0 (omega (arith, x.depth s t a)) k b.1 (omega (arith, b.2)) (subst (λ (m : ℕ). Runs N (n - m) (N.counted t b.0) c.0) b.2 c.1), c.2)
