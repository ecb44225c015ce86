-- Scripts on both sides of each cause: of a row, the one is refused with the cause and the offset, and the other is accepted. The rows are computed, and
-- `faults` gives what holds of the refused ones. `formal-differs` is a run that stops with 26.
use Rattle.std.specs.Prelude.{ℕ, zero, suc, Bool, true, false, ◌&&◌, ◌≡◌, refl, ltb, replicate, pos}
use Rattle.std.proofs.Math.Bool.{and-eq-true_iff}
use mathlib.Core.List.{List, [], ◌∷◌, ◌++◌, map, head-eq_of_cons-eq, tail-eq_of_cons-eq}
use Rattle.std.proofs.Common.{subst, ltb-true}
use Rattle.language.specs.Text.{Block}
use Rattle.language.specs.Encoding.{bytes_of, encode, BK-mark, VR-mark, LB-mark, PR-mark, FM-mark, CL-mark, GO-mark, KN-mark, AR-mark}
use Rattle.language.specs.Check.{Checked, accepted, refused, check}
use Rattle.language.specs.Call.{Fed, display, reply}
use Rattle.language.specs.Evaluation.{computed}
use Rattle.language.specs.Samples.{script-formal, tabled}
use Rattle.language.specs.declared.Refusal.{Refusal}
use Rattle.language.specs.declared.Refusal.TheVariants.{ScriptLength, PastTheEnd, MarkMisplaced, FieldRange, BytesAfter, NestingDepth, TooManyNames, NameTwice, NotVisible, WrongKind, CallMismatch}
use Rattle.language.specs.declared.Stop.TheVariants.{ArgumentsDiffer}
use Rattle.language.specs.declared.End.TheVariants.{Stopped}
use Rattle.laws.specs.Each.{Each}
use Rattle.grammar.specs.Rules.{Bytes, Keeps}
use Rattle.causes.specs.Faults.{Fault}
use Rattle.causes.proofs.Exact.{faulted}
use Rattle.causes.specs.FormalCalls.{CallsFormal}
use Rattle.causes.proofs.FormalCalls.{only-through-formals}

-- bytes that are refused, and bytes that are not
pub record Row : Type 0 where
  pub cause : Refusal
  pub offset : ℕ
  pub bad : List ℕ
  pub good : List ℕ

-- the same by their fields
unfoldable pub row : Refusal → ℕ → List ℕ → List ℕ → Row
row c o bad good = record { cause = c; offset = o; bad = bytes_of bad; good = bytes_of good }

-- blocks one in another; d variables, or formals of kind variable, named by the numbers from d down
unfoldable pub nested : ℕ → List ℕ
nested zero = BK-mark ∷ 0 ∷ 0 ∷ []
nested (suc n) = BK-mark ∷ 0 ∷ 1 ∷ nested n

unfoldable pub variables : ℕ → List ℕ
variables zero = []
variables (suc d) = VR-mark ∷ suc d ∷ variables d

unfoldable pub formals : ℕ → List ℕ → List ℕ
formals zero body = body
formals (suc d) body = FM-mark ∷ suc d ∷ 0 ∷ formals d body

-- a procedure 2 with a variable as its formal, and a call
unfoldable pub calling : List ℕ → List ℕ
calling call = BK-mark ∷ 2 ∷ 1 ∷ VR-mark ∷ 1 ∷ PR-mark ∷ 2 ∷ 1 ∷ FM-mark ∷ 3 ∷ 0 ∷ BK-mark ∷ 0 ∷ 0 ∷ CL-mark ∷ call

-- one declaration, with one statement after it; two; a procedure 9 and what comes after its name
unfoldable pub declaring : List ℕ → List ℕ
declaring d = BK-mark ∷ 1 ∷ 1 ∷ (d ++ (BK-mark ∷ 0 ∷ 0 ∷ []))

unfoldable pub both : List ℕ → List ℕ
both ds = BK-mark ∷ 2 ∷ 1 ∷ (ds ++ (BK-mark ∷ 0 ∷ 0 ∷ []))

unfoldable pub procedure : List ℕ → List ℕ
procedure heading = BK-mark ∷ 1 ∷ 0 ∷ PR-mark ∷ 9 ∷ heading

unfoldable pub summing : ℕ → List ℕ
summing operation = BK-mark ∷ 1 ∷ 1 ∷ VR-mark ∷ 1 ∷ AR-mark ∷ 1 ∷ operation ∷ 1 ∷ 1 ∷ []

unfoldable pub rows : List Row
rows =
    row ScriptLength 0 [] (nested 0) ∷
    record { cause = ScriptLength; offset = 0; bad = 66 ∷ []; good = bytes_of (nested 0) } ∷
    row ScriptLength 0 (replicate 4097 0) (nested 0) ∷
    row PastTheEnd 6 (BK-mark ∷ 1 ∷ 0 ∷ []) (BK-mark ∷ 1 ∷ 0 ∷ VR-mark ∷ 1 ∷ []) ∷
    row PastTheEnd 6 (BK-mark ∷ 1 ∷ 0 ∷ VR-mark ∷ []) (BK-mark ∷ 1 ∷ 0 ∷ VR-mark ∷ 1 ∷ []) ∷
    row PastTheEnd 28 (calling (2 ∷ 2 ∷ 1 ∷ [])) (calling (2 ∷ 1 ∷ 1 ∷ [])) ∷
    row MarkMisplaced 6 (BK-mark ∷ 0 ∷ 1 ∷ VR-mark ∷ 1 ∷ []) (BK-mark ∷ 1 ∷ 0 ∷ VR-mark ∷ 1 ∷ []) ∷
    row FieldRange 6 (declaring (LB-mark ∷ 1 ∷ 2 ∷ [])) (declaring (LB-mark ∷ 1 ∷ 1 ∷ [])) ∷
    row FieldRange 6 (declaring (LB-mark ∷ 1 ∷ 0 ∷ [])) (declaring (LB-mark ∷ 1 ∷ 1 ∷ [])) ∷
    row FieldRange 12 (procedure (1 ∷ FM-mark ∷ 1 ∷ 3 ∷ nested 0)) (procedure (1 ∷ FM-mark ∷ 1 ∷ 2 ∷ nested 0)) ∷
    row FieldRange 10 (summing 3) (summing 2) ∷
    row FieldRange 28 (calling (2 ∷ 33 ∷ [])) (calling (2 ∷ 1 ∷ 1 ∷ [])) ∷
    row BytesAfter 6 (nested 0 ++ (0 ∷ [])) (nested 0) ∷
    row NestingDepth 96 (nested 16) (nested 15) ∷
    row TooManyNames 0 (BK-mark ∷ 33 ∷ 0 ∷ variables 33) (BK-mark ∷ 32 ∷ 0 ∷ variables 32) ∷
    row TooManyNames 6 (procedure (33 ∷ formals 33 (nested 0))) (procedure (32 ∷ formals 32 (nested 0))) ∷
    row TooManyNames 18 (procedure (1 ∷ FM-mark ∷ 40 ∷ 0 ∷ BK-mark ∷ 32 ∷ 0 ∷ variables 32)) (procedure (1 ∷ FM-mark ∷ 40 ∷ 0 ∷ BK-mark ∷ 31 ∷ 0 ∷ variables 31)) ∷
    row NameTwice 10 (both (VR-mark ∷ 1 ∷ VR-mark ∷ 1 ∷ [])) (both (VR-mark ∷ 1 ∷ VR-mark ∷ 2 ∷ [])) ∷
    row NameTwice 10 (both (VR-mark ∷ 1 ∷ LB-mark ∷ 1 ∷ 1 ∷ [])) (both (VR-mark ∷ 1 ∷ LB-mark ∷ 2 ∷ 1 ∷ [])) ∷
    row NameTwice 10 (both (VR-mark ∷ 1 ∷ PR-mark ∷ 1 ∷ 0 ∷ nested 0)) (both (VR-mark ∷ 1 ∷ PR-mark ∷ 2 ∷ 0 ∷ nested 0)) ∷
    row NameTwice 18 (procedure (2 ∷ FM-mark ∷ 1 ∷ 0 ∷ FM-mark ∷ 1 ∷ 0 ∷ nested 0)) (procedure (2 ∷ FM-mark ∷ 1 ∷ 0 ∷ FM-mark ∷ 2 ∷ 0 ∷ nested 0)) ∷
    row NameTwice 24 (procedure (1 ∷ FM-mark ∷ 1 ∷ 0 ∷ BK-mark ∷ 1 ∷ 0 ∷ VR-mark ∷ 1 ∷ [])) (procedure (1 ∷ FM-mark ∷ 1 ∷ 0 ∷ BK-mark ∷ 1 ∷ 0 ∷ VR-mark ∷ 2 ∷ [])) ∷
    row NotVisible 10 (BK-mark ∷ 1 ∷ 1 ∷ VR-mark ∷ 1 ∷ KN-mark ∷ 2 ∷ 0 ∷ 0 ∷ []) (BK-mark ∷ 1 ∷ 1 ∷ VR-mark ∷ 1 ∷ KN-mark ∷ 1 ∷ 0 ∷ 0 ∷ []) ∷
    row NotVisible 28 (calling (2 ∷ 1 ∷ 4 ∷ [])) (calling (2 ∷ 1 ∷ 1 ∷ [])) ∷
    row WrongKind 28 (calling (1 ∷ 1 ∷ 1 ∷ [])) (calling (2 ∷ 1 ∷ 1 ∷ [])) ∷
    row CallMismatch 28 (calling (2 ∷ 0 ∷ [])) (calling (2 ∷ 1 ∷ 1 ∷ [])) ∷
    row CallMismatch 28 (calling (2 ∷ 1 ∷ 2 ∷ [])) (calling (2 ∷ 1 ∷ 1 ∷ [])) ∷ []

unfoldable pub passes : Checked → Bool
passes (accepted t) = true
passes (refused c o) = false

unfoldable pub small : List ℕ → Bool
small [] = true
small (b ∷ bs) = ltb b 256 && small bs

small_bytes : (bs : List ℕ) → small bs ≡ true → Bytes bs
unfolding small
small_bytes [] e = tt
small_bytes (b ∷ bs) e = let k = (and-eq-true_iff (ltb b 256) (small bs)).0 e in (ltb-true b 256 k.0, small_bytes bs k.1)

-- Each row holds: what is refused is so with the cause and the offset, and the other is accepted.
refused_all : map (λ (r : Row). check r.bad) rows ≡ map (λ (r : Row). refused r.cause r.offset) rows
unfolding computed rows row nested variables formals calling declaring both procedure summing
refused_all = refl

bytes-all : map (λ (r : Row). small r.bad) rows ≡ map (λ (r : Row). true) rows
unfolding computed rows row nested variables formals calling declaring both procedure summing small
bytes-all = refl

pub passes-all : map (λ (r : Row). passes (check r.good)) rows ≡ map (λ (r : Row). true) rows
unfolding computed rows row nested variables formals calling declaring both procedure summing passes
passes-all = refl

pub faults : Each (λ (r : Row). Fault r.bad r.cause r.offset) rows
faults = go rows refused_all bytes-all
  where
    go : (rs : List Row) → map (λ (r : Row). check r.bad) rs ≡ map (λ (r : Row). refused r.cause r.offset) rs → map (λ (r : Row). small r.bad) rs ≡ map (λ (r : Row). true) rs
        → Each (λ (r : Row). Fault r.bad r.cause r.offset) rs
    go [] e b = tt
    go (r ∷ rs) e b =
        (faulted r.bad (small_bytes r.bad (head-eq_of_cons-eq b)) r.cause r.offset (head-eq_of_cons-eq e), go rs (tail-eq_of_cons-eq e) (tail-eq_of_cons-eq b))

-- a procedure that takes nothing is handed to one that calls its formal with an argument
unfoldable pub formal-called : Fed
formal-called =
    record { script = script-formal; activations = 3; allowance = 9; limit = 1; tally = 0; name = 0; lent = record { sheet = replicate 105 (pos 0); table = record { words = []; used = 0 }; groups = [] } }

stops-there : ((reply display formal-called).answer.end ≡ Stopped ArgumentsDiffer) × ((reply display formal-called).answer.offset ≡ 24) × (small formal-called.script ≡ true)
unfolding computed tabled formal-called small
stops-there = (refl, refl, refl)

pub formal-differs : (t : Block) × (formal-called.script ≡ encode t) × Keeps t × CallsFormal t 24
formal-differs =
    let w = only-through-formals display formal-called (small_bytes formal-called.script stops-there.2) stops-there.0 in
    (w.0, w.1, w.2, subst (CallsFormal w.0) stops-there.1 w.3)
