-- Which refusal is due to a call, and when its program is admitted: `refused-exactly` and `accepted-exactly`. No engine is told from another
-- here: each is what it is lent.
use Rattle.std.specs.Prelude.{ℕ, ◌*◌, ◌/◌, ◌≤◌, Bool, true, false, ◌&&◌, List, ◌↔◌, ◌≡◌, refl, leb, ℤ, length}
use Rattle.std.proofs.Common.{arith, sym, ap, ◌∙◌, subst, leb-true}
use Rattle.std.proofs.Math.Bool.{and-eq-true_iff}
use Rattle.std.proofs.Math.Option.{Option, none, some}
use Rattle.language.specs.Text.{Block}
use Rattle.language.specs.Check.{Checked, accepted, refused, check}
use Rattle.language.specs.Table.{Table, right}
use Rattle.language.specs.Groups.{list_words, list_fits, list_right}
use Rattle.language.specs.Sheet.{sheet_share}
use Rattle.language.specs.Call.{Engine, Fed, limits_fit, sheet_fits, records_fit, area_fits, first_failing, tests_before, tests_after, admission, Leaves}
use Rattle.language.specs.declared.Refusal.{Refusal}
use Rattle.laws.specs.Tests.{by-lookup}
use Rattle.laws.specs.Order.{AllHold, FailsFirst, due-exactly, none-exactly}

-- the check's verdict, where it stands between the two lists of tests
abbrev pub AtCheck : (e : Engine) (f : Fed) → Checked → Type 0
AtCheck e f k = AllHold (tests_before e f) × (check f.script ≡ k)

-- The refusal c, with the offset o, is the first that is due.
pub data Due (e : Engine) (f : Fed) : Refusal → ℕ → Type 0 where
  before-check : {c : Refusal} → FailsFirst (tests_before e f) c → Due e f c 0
  by-check : {c : Refusal} {o : ℕ} → AtCheck e f (refused c o) → Due e f c o
  after_check : {c : Refusal} {t : Block} → AtCheck e f (accepted t) → FailsFirst (tests_after e f) c → Due e f c 0

-- No refusal is due, and t is the program.
pub record Admitted (e : Engine) (f : Fed) (t : Block) : Type 0 where
  pub before : AllHold (tests_before e f)
  pub script : check f.script ≡ accepted t
  pub after : AllHold (tests_after e f)

module _ (e : Engine) (f : Fed) where
  -- a call goes by the tests before the check, the check, and the tests after it
  admission-before : {c : Refusal} → first_failing (tests_before e f) ≡ some c → admission e f ≡ refused c 0
  unfolding admission
  admission-before q = rw (q, admission)

  admission-check : {c : Refusal} {o : ℕ} → first_failing (tests_before e f) ≡ none → check f.script ≡ refused c o → admission e f ≡ refused c o
  unfolding admission
  admission-check q k = rw (q, k, admission)

  admission-after : {c : Refusal} {t : Block} → first_failing (tests_before e f) ≡ none → check f.script ≡ accepted t → first_failing (tests_after e f) ≡ some c → admission e f ≡ refused c 0
  unfolding admission
  admission-after q k r = rw (q, k, r, admission)

  admission-none : {t : Block} → first_failing (tests_before e f) ≡ none → check f.script ≡ accepted t → first_failing (tests_after e f) ≡ none → admission e f ≡ accepted t
  unfolding admission
  admission-none q k r = rw (q, k, r, admission)

  pub due-refused : {c : Refusal} {o : ℕ} → Due e f c o → admission e f ≡ refused c o
  due-refused (before-check d) = admission-before ((due-exactly (tests_before e f) _).1 d)
  due-refused (by-check h) = admission-check ((none-exactly (tests_before e f)).1 h.0) h.1
  due-refused (after_check h d) = admission-after ((none-exactly (tests_before e f)).1 h.0) h.1 ((due-exactly (tests_after e f) _).1 d)

  pub admitted-accepted : {t : Block} → Admitted e f t → admission e f ≡ accepted t
  admitted-accepted h = admission-none ((none-exactly (tests_before e f)).1 h.before) h.script ((none-exactly (tests_after e f)).1 h.after)

  -- A property of every call, from the two kinds there are.
  pub admission-cases {ℓ} : {X : Type ℓ} → ((c : Refusal) (o : ℕ) → Due e f c o → X) → ((t : Block) → Admitted e f t → X) → X
  admission-cases {X = X} away runs =
      by-lookup (first_failing (tests_before e f)) (λ q. checked ((none-exactly (tests_before e f)).0 q) (check f.script) refl)
      (λ c q. away c 0 (before-check ((due-exactly (tests_before e f) c).0 q)))
    where
      checked : AllHold (tests_before e f) → (k : Checked) → check f.script ≡ k → X
      checked b (refused c o) q = away c o (by-check (b, q))
      checked b (accepted t) q =
          by-lookup (first_failing (tests_after e f)) (λ r. runs t (record { before = b; script = q; after = (none-exactly (tests_after e f)).0 r }))
          (λ c r. away c 0 (after_check (b, q) ((due-exactly (tests_after e f) c).0 r)))

  -- Each exactly on its cause.
  pub refused-exactly : (c : Refusal) (o : ℕ) → (admission e f ≡ refused c o) ↔ Due e f c o
  refused-exactly c o = (λ q. admission-cases (λ d p h. same d p h (sym (due-refused h) ∙ q)) (λ t h. clash t (sym (admitted-accepted h) ∙ q)), due-refused)
    where
      same : (d : Refusal) (p : ℕ) → Due e f d p → refused d p ≡ refused c o → Due e f c o
      same d p h q =
          let x : d ≡ c = cc in
          let y : p ≡ o = cc in
          subst (λ z. Due e f z o) x (subst (Due e f d) y h)

      clash : (t : Block) → accepted t ≡ refused c o → Due e f c o
      clash t q = let z : ◌≡◌ {A = ℕ} 0 1 = cc in absurd (omega arith)

  pub accepted-exactly : (t : Block) → (admission e f ≡ accepted t) ↔ Admitted e f t
  accepted-exactly t = (λ q. admission-cases (λ d p h. clash d p (sym (due-refused h) ∙ q)) (λ u h. same u h (sym (admitted-accepted h) ∙ q)), admitted-accepted)
    where
      same : (u : Block) → Admitted e f u → accepted u ≡ accepted t → Admitted e f t
      same u h q = let x : u ≡ t = cc in subst (Admitted e f) x h

      clash : (d : Refusal) (p : ℕ) → refused d p ≡ accepted t → Admitted e f t
      clash d p q = let z : ◌≡◌ {A = ℕ} 0 1 = cc in absurd (omega arith)

-- An engine's own area: not written where the call is refused, or of the same length where the program is admitted.
module _ {A : Type 0} (e : Engine) (f : Fed) where
  pub leaves_all : (area : List A) → Leaves e f area area
  leaves_all area = record { as_long = refl; untouched = λ c o q. refl }

  pub leaves-length : {before after : List A} {t : Block} → admission e f ≡ accepted t → length after ≡ length before → Leaves e f before after
  leaves-length {before} {after} {t} a h = record { as_long = h; untouched = λ c o q. clash c o (sym a ∙ q) }
    where
      clash : (c : Refusal) (o : ℕ) → accepted t ≡ refused c o → after ≡ before
      clash c o q = let z : ◌≡◌ {A = ℕ} 0 1 = cc in absurd (omega arith)

-- What the tests that held say.
module _ {e : Engine} {f : Fed} {t : Block} (h : Admitted e f t) where
  pub limits-fit : limits_fit f ≡ true
  unfolding tests_before
  limits-fit = h.before.0

  pub sheet-fits : sheet_fits f ≡ true
  unfolding tests_before
  sheet-fits = h.before.1.0

  pub records-fit : records_fit e f ≡ true
  unfolding tests_before
  records-fit = h.before.1.1.0

  pub list-fits : list_fits f.lent.table f.lent.groups ≡ true
  unfolding tests_before
  list-fits = h.before.1.1.1.0

  pub table-right : right f.limit f.lent.table ≡ true
  unfolding tests_before
  table-right = h.before.1.1.1.1.0

  pub list_right_lem : list_right f.lent.table f.lent.groups ≡ true
  unfolding tests_before
  list_right_lem = h.before.1.1.1.1.1.0

  pub area-fits : area_fits e f ≡ true
  unfolding tests_after
  area-fits = h.after.0

first : (a b : Bool) → a && b ≡ true → a ≡ true
first a b q = ((and-eq-true_iff a b).0 q).0

pub activations-fit : (f : Fed) → limits_fit f ≡ true → (1 ≤ f.activations) × (f.activations ≤ 256)
unfolding limits_fit
activations-fit f e =
    let q = (and-eq-true_iff (leb 1 f.activations) (leb f.activations 256)).0 (first _ (leb f.allowance 1000000) (first _ (leb 1 f.limit) (first _ (leb f.limit 65535) (first _ (leb f.tally 1000000000000) e)))) in
    (leb-true 1 f.activations q.0, leb-true f.activations 256 q.1)

pub limit-fits : (f : Fed) → limits_fit f ≡ true → f.limit ≤ 65535
unfolding limits_fit
limit-fits f e =
    let before = leb 1 f.activations && leb f.activations 256 && leb f.allowance 1000000 && leb 1 f.limit in
    leb-true f.limit 65535 ((and-eq-true_iff before (leb f.limit 65535)).0 (first (before && leb f.limit 65535) (leb f.tally 1000000000000) e)).1

pub list-lent : (t : Table) (ws : List ℤ) → list_fits t ws ≡ true → list_words t ≤ length ws
unfolding list_fits
list-lent t ws q = leb-true (list_words t) (length ws) q

pub sheet-lent : (f : Fed) → sheet_fits f ≡ true → f.activations * sheet_share ≤ length f.lent.sheet
unfolding sheet_fits
sheet-lent f q = leb-true (f.activations * sheet_share) (length f.lent.sheet) q
