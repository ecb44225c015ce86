-- What F(k) is. `HandedDown fs x j n`: what the formal x stands for was passed first by the CL of frame j, under the name n, which is no formal in j's
-- text, and came to x from call to call. There is one such frame at most, and one such name (`only_one`). `first-passer`: where frame k was entered
-- through the formal x, F(k) is that frame, and the name there is declared: it is the own name of the PR whose body frame k runs (`declares`,
-- `own_name`, `is-procedure`). `no-passer`: F(k) is undefined exactly where frame k is the program's, or was entered by a BK, or by a CL under a
-- declared name.
use Rattle.std.specs.Prelude.{ℕ, zero, suc, pred, ◌≤◌, ◌<◌, ◌↔◌, ◌≡◌, refl, ℤ, take}
use Rattle.std.proofs.Common.{arith, sym, ◌∙◌, subst}
use mathlib.Core.List.{List}
use Rattle.std.proofs.Math.Option.{none, some}
use Rattle.std.proofs.Math.Path.{ap}
use Rattle.language.specs.Text.{procedure, CL, Block, Decl, BK, DO, decl_name, decl_kind, decl_formals, decl_body}
use Rattle.laws.specs.Tests.{by-lookup, none≢some, some_inj}
use Rattle.grammar.specs.Rules.{Keeps}
use Rattle.frames.specs.Frame.{Frame, numbered, designates, frame_number, decl_of, new_frame}
use Rattle.frames.specs.Numbered.{numbered-low}
use Rattle.coordinates.specs.Enclosure.{Enclosing}
use Rattle.coordinates.specs.Chain.{enclosing, outline, Chained}
use Rattle.coordinates.proofs.Moves.{alike-take}
use Rattle.coordinates.proofs.Kept.{chained-downward}
use Rattle.coordinates.proofs.Statements.{declared-alike}
use Rattle.coordinates.proofs.Designated.{Wired}
use Rattle.coordinates.specs.Made.{wiring, passed, Made}
use Rattle.f_search.specs.Passers.{call_in, call_of, FormalAt, formal_of, argument_for, passer_within, passer, through, passer_of}
use Rattle.f_search.proofs.Kept.{call_at, call-program, passer-here, passer-further, through-none, through-call, passer_of-none, passer_of-through}
use Rattle.f_search.proofs.OnChain.{OnChain, on-chain-bounds, on-own-chain}
use Rattle.f_search.proofs.Entered.{Entered, by-block, by_call, entered, Held, stands_for, Means, declared, formal, Stood, argument, call-names, called-kind}

pub data HandedDown (fs : List Frame) : FormalAt → ℕ → ℕ → Type 0 where
  first : {x : FormalAt} {n : ℕ} → argument_for fs x ≡ some n → formal_of fs (pred x.frame) n ≡ none → HandedDown fs x (pred x.frame) n
  further : {x : FormalAt} (m : ℕ) (y : FormalAt) {j n : ℕ} → argument_for fs x ≡ some m → formal_of fs (pred x.frame) m ≡ some y → HandedDown fs y j n → HandedDown fs x j n

-- the argument is a declared name or a formal, and not both
declared-or-formal : {X : Type 0} (fs : List Frame) (k n m : ℕ) (y : FormalAt) → n ≡ m → formal_of fs k n ≡ none → formal_of fs k m ≡ some y → X
declared-or-formal fs k n m y e p q = none≢some (sym p ∙ ap (formal_of fs k) e ∙ q)

pub only_one : (fs : List Frame) (x : FormalAt) (j n j' n' : ℕ) → HandedDown fs x j n → HandedDown fs x j' n' → (j ≡ j') × (n ≡ n')
only_one fs x j n j' n' (first a q) (first a' q') = (refl, some_inj (sym a ∙ a'))
only_one fs x j n j' n' (first a q) (further m y a' q' h') = declared-or-formal fs (pred x.frame) n m y (some_inj (sym a ∙ a')) q q'
only_one fs x j n j' n' (further m y a q h) (first a' q') = declared-or-formal fs (pred x.frame) n' m y (some_inj (sym a' ∙ a)) q' q
only_one fs x j n j' n' (further m y a q h) (further m' y' a' q' h') =
    let same : y' ≡ y = some_inj (sym q' ∙ ap (formal_of fs (pred x.frame)) (some_inj (sym a' ∙ a)) ∙ q) in
    only_one fs y j n j' n' h (subst (λ (z : FormalAt). HandedDown fs z j' n') same h')

-- the formal through which a frame was entered, by the statement passed last below
module _ (fs : List Frame) (k : ℕ) (g : Frame) (stands : numbered fs (pred k) ≡ some g) where
  after_block : (b : Block) → passed g ≡ some (BK b) → through fs k ≡ none
  unfolding call_of
  after_block b q = through-none fs k (call_at fs k g (BK b) stands q)

  after_call : (at p : ℕ) (xs : List ℕ) → passed g ≡ some (DO at (CL p xs)) → through fs k ≡ formal_of fs (pred k) p
  unfolding call_of call_in
  after_call at p xs q = through-call fs k (record { called = p; arguments = xs }) (call_at fs k g (DO at (CL p xs)) stands q)

-- How a frame above the first came: its link is on the static chain below, or is that of what a formal stands for
data Came (fs : List Frame) (k : ℕ) (f : Frame) : Type 0 where
  direct : through fs (suc k) ≡ none → OnChain fs k f.link → Came fs k f
  by-formal : (x : FormalAt) (d : Decl) → through fs (suc k) ≡ some x → Held fs x → x.frame ≤ k → f.link ≡ frame_number (stands_for fs x) → decl_of (take k fs) (stands_for fs x) ≡ some d → decl_kind d ≡ procedure → decl_formals d ≡ f.formals → decl_body d ≡ f.text → Came fs k f

-- The frame whose CL first passed the procedure whose body frame k runs, and the name that stands there for it: the procedure's own
pub record FirstPasser (fs : List Frame) (k : ℕ) (f : Frame) (x : FormalAt) : Type 0 where
  pub frame : ℕ
  pub name : ℕ
  pub there : passer_of fs k ≡ some frame
  pub handed : HandedDown fs x frame name
  pub low : 1 ≤ frame
  pub below : frame < k
  pub home : frame_number (designates (take frame fs) name) ≡ f.link
  pub near : OnChain fs frame f.link
  pub declaration : Decl
  pub declares : decl_of fs (designates (take frame fs) name) ≡ some declaration
  pub own_name : decl_name declaration ≡ name
  pub is-procedure : decl_kind declaration ≡ procedure
  pub formals : decl_formals declaration ≡ f.formals
  pub body : decl_body declaration ≡ f.text

-- A frame that was entered through no formal
pub data Direct (fs : List Frame) (k : ℕ) : Type 0 where
  the-program : k ≡ 1 → Direct fs k
  under-block : (g : Frame) (b : Block) → numbered fs (pred k) ≡ some g → passed g ≡ some (BK b) → Direct fs k
  under-name : (g : Frame) (at p : ℕ) (xs : List ℕ) → numbered fs (pred k) ≡ some g → passed g ≡ some (DO at (CL p xs)) → formal_of fs (pred k) p ≡ none → Direct fs k

not_through : (fs : List Frame) (k : ℕ) → Direct fs k → through fs k ≡ none
not_through fs k (the-program one) = ap (through fs) one ∙ through-none fs 1 (call-program fs 1 (omega arith))
not_through fs k (under-block g b n q) = after_block fs k g n b q
not_through fs k (under-name g at p xs n q o) = after_call fs k g n at p xs q ∙ o

-- A formal with the frame and the name that passed it first
record Traced (fs : List Frame) (x : FormalAt) (j : ℕ) : Type 0 where
  name : ℕ
  handed : HandedDown fs x j name
  low : 1 ≤ j
  below : j < x.frame
  same : stands_for fs x ≡ designates (take j fs) name
  near : OnChain fs j (frame_number (designates (take j fs) name))
  declaration : Decl
  declares : decl_of fs (designates (take j fs) name) ≡ some declaration
  own_name : decl_name declaration ≡ name

module _ (t : Block) (keeps : Keeps t) (fs : List Frame) (chain : Chained t fs) (wired : Wired fs) (made : Made fs) where
  came : (k : ℕ) (f : Frame) → 1 ≤ k → numbered fs (suc k) ≡ some f → Came fs k f
  unfolding wiring outline enclosing new_frame
  came k f low e = by (entered fs made k f low e)
    where
      by : Entered fs k f → Came fs k f
      by (by-block g b n q z l) = direct (after_block fs (suc k) g n b q) (subst (OnChain fs k) (sym l) (on-own-chain fs (chained-downward t fs chain) k g n))
      by (by_call g at p xs d n q z w) = means (call-names t keeps fs chain k g at p xs n q).0
        where
          link : f.link ≡ frame_number (designates (take k fs) p)
          link = ap (λ (v : (Enclosing × ℕ) × List ℤ). v.0.1) w

          means : Means fs k p → Came fs k f
          means (declared c o near there own) = direct (after_call fs (suc k) g n at p xs q ∙ o) (subst (OnChain fs k) (sym link) near)
          means (formal x o held h same) =
              by-formal x d (after_call fs (suc k) g n at p xs q ∙ o) held h (link ∙ ap frame_number same) (ap (decl_of (take k fs)) (sym same) ∙ z) (called-kind t keeps fs chain wired k g at p xs d n q z)
              (sym (ap (λ (v : (Enclosing × ℕ) × List ℤ). v.0.0.formals) w)) (sym (ap (λ (v : (Enclosing × ℕ) × List ℤ). v.0.0.text) w))

  trace : (m : ℕ) (x : FormalAt) → Held fs x → x.frame ≤ m → Traced fs x (passer_within m fs x)
  trace zero x held h = absurd (omega (arith, numbered-low fs x.frame held.holder held.stands))
  trace (suc m) x held h = go (λ y p l. trace m y p l) s.means
    where
      s : Stood fs x
      s = argument t keeps fs chain wired made x held

      go : ((y : FormalAt) → Held fs y → y.frame ≤ m → Traced fs y (passer_within m fs y)) → Means fs (pred x.frame) s.name → Traced fs x (passer_within (suc m) fs x)
      go r (declared d q near there own) =
          subst (Traced fs x) (sym (passer-here m fs x s.name s.given q))
          (record { name = s.name; handed = first s.given q; low = s.low; below = omega (arith, s.low); same = s.same; near = near; declaration = d; declares = there; own_name = own })
      go r (formal y q held' l e) =
          let u = r y held' (omega (arith, s.low)) in
          subst (Traced fs x) (sym (passer-further m fs x s.name y s.given q))
          (record { name = u.name; handed = further s.name y s.given q u.handed; low = u.low; below = omega (arith, u.below); same = s.same ∙ e ∙ u.same; near = u.near; declaration = u.declaration; declares = u.declares; own_name = u.own_name })

  traced : (x : FormalAt) → Held fs x → Traced fs x (passer fs x)
  unfolding passer
  traced x held = trace x.frame x held (omega arith)

  first_of : (k : ℕ) (f : Frame) (x : FormalAt) → through fs (suc k) ≡ some x → Came fs k f → FirstPasser fs (suc k) f x
  first_of k f x e (direct o near) = none≢some (sym o ∙ e)
  first_of k f x e (by-formal y d o held h link found kind formals body) =
      let u = traced y held in
      let j = passer fs y in
      let home : frame_number (designates (take j fs) u.name) ≡ f.link = sym (link ∙ ap frame_number u.same) in
      let near : OnChain fs j f.link = subst (OnChain fs j) home u.near in
      let out : frame_number (stands_for fs y) ≤ k = omega (arith, link, u.below, (on-chain-bounds fs (chained-downward t fs chain) j f.link near).1) in
      let declares = ap (decl_of fs) (sym u.same) ∙ sym (declared-alike fs (take k fs) k (alike-take k fs) (stands_for fs y) out) ∙ found in
      subst (FirstPasser fs (suc k) f) (some_inj (sym o ∙ e))
      (record {
        frame = j;
        name = u.name;
        there = passer_of-through fs (suc k) y o;
        handed = u.handed;
        low = u.low;
        below = omega (arith, u.below);
        home = home;
        near = near;
        declaration = d;
        declares = declares;
        own_name = ap decl_name (some_inj (sym declares ∙ u.declares)) ∙ u.own_name;
        is-procedure = kind;
        formals = formals;
        body = body;
      })

  pub first-passer : (k : ℕ) (f : Frame) (x : FormalAt) → numbered fs k ≡ some f → through fs k ≡ some x → FirstPasser fs k f x
  first-passer zero f x e q = absurd (omega (arith, numbered-low fs 0 f e))
  first-passer (suc zero) f x e q = none≢some (sym (through-none fs 1 (call-program fs 1 (omega arith))) ∙ q)
  first-passer (suc (suc k)) f x e q = first_of (suc k) f x q (came (suc k) f (omega arith) e)

  pub direct-link : (k : ℕ) (f : Frame) → 1 ≤ k → numbered fs (suc k) ≡ some f → through fs (suc k) ≡ none → OnChain fs k f.link
  direct-link k f low e q = by (came k f low e)
    where
      by : Came fs k f → OnChain fs k f.link
      by (direct o near) = near
      by (by-formal x d o held h link found kind formals body) = none≢some (sym q ∙ o)

  entered-direct : (k : ℕ) (f : Frame) → passer_of fs (suc k) ≡ none → Entered fs k f → Direct fs (suc k)
  entered-direct k f o (by-block g b n q z l) = under-block g b n q
  entered-direct k f o (by_call g at p xs d n q z w) =
      by-lookup (formal_of fs k p) (λ e. under-name g at p xs n q e) (λ x e. none≢some (sym o ∙ passer_of-through fs (suc k) x (after_call fs (suc k) g n at p xs q ∙ e)))

  pub no-passer : (k : ℕ) (f : Frame) → numbered fs k ≡ some f → (passer_of fs k ≡ none) ↔ Direct fs k
  no-passer k f e = (λ o. by k f e o, λ d. passer_of-none fs k (not_through fs k d))
    where
      by : (k : ℕ) (f : Frame) → numbered fs k ≡ some f → passer_of fs k ≡ none → Direct fs k
      by zero f e o = absurd (omega (arith, numbered-low fs 0 f e))
      by (suc zero) f e o = the-program refl
      by (suc (suc k)) f e o = entered-direct (suc k) f o (entered fs made (suc k) f (omega arith) e)
