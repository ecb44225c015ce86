-- The refusal due, from the tests as they are made: `limits-due` to `none-due` before the script check, `refused-check` and
-- `area-held` after it, and `turned-away` and `passed` for the whole. Assumes nothing.
use Rattle.std.specs.Prelude.{Ok, Err}
use Prim.Native.Nat.{ℕ, ◌*◌, ◌/◌, ◌%◌, ◌≤◌, ◌<◌}
use native.Mathlib.Omega.{arith}
use native.Mathlib.Nat.{mul-le-mul_left}
use mathlib.Core.Bool.{Bool, true, false, ◌&&◌}
use mathlib.Core.List.{List}
use mathlib.Core.Option.{Option}
use mathlib.Core.Path.{◌≡◌, refl, sym, ap, ◌∙◌}
use mir.Syntax.{w32, w64}
use mir.Val.{Fits}
use lib.Dec.{leb, eqb}
use lib.ListN.{length}
use borrow.Author.Tests.{leb-true}
use Rattle.language.specs.Text.{Block}
use Rattle.language.specs.Table.{right}
use Rattle.language.specs.Groups.{list_fits, list_right}
use Rattle.language.specs.Check.{Checked, accepted, refused, length_fits, check}
use Rattle.language.specs.Call.{Engine, Fed, limits_fit, holds_at_least, sheet_fits, records_fit, area_fits, first_failing, tests_before, tests_after, admission}
use Rattle.language.specs.declared.Refusal.{Refusal}
use Rattle.language.specs.declared.Refusal.TheVariants.{ScriptLength, LimitRange, AreaTooShort, TableNotRight}
use Rattle.language.specs.declared.Fault.{Fault}
use Rattle.language.specs.Faults.{fault, Verdict}
use Rattle.laws.specs.Tests.{split, both, by-lookup}
use Rattle.laws.specs.Order.{fails-here, holds-here, all_hold, AllHold, FailsFirst, due-exactly, none-exactly}
use Rattle.runs.specs.Admission.{before-check, by-check, after_check, due-refused, admitted-accepted}
use Rattle.check_script.specs.Verdicts.{verdict_of}
use Rattle.call_admission.specs.Lent.{due_of, checked_then}

-- the test after the script check
module _ (e : Engine) (f : Fed) where
  held : {b : Bool} → area_fits e f ≡ b → holds_at_least (f.activations * (length f.script / 2)) e.area ≡ b
  unfolding area_fits
  held h = h

  after : area_fits e f ≡ true → AllHold (tests_after e f)
  unfolding tests_after
  after h = (h, tt)

  fails : area_fits e f ≡ false → FailsFirst (tests_after e f) AreaTooShort
  unfolding tests_after
  fails h = (due-exactly (tests_after e f) AreaTooShort).0 (fails-here _ _ h)

second : (a b : Bool) → a && b ≡ false → a ≡ true → b ≡ false
second true b e p = e
second false b e p = let z : ◌≡◌ {A = ℕ} 0 1 = cc in absurd (omega arith)

module _ (e : Engine) (f : Fed) where
  pub limits-due : limits_fit f ≡ false → Err (fault LimitRange 0) ≡ due_of (first_failing (tests_before e f))
  unfolding tests_before due_of
  limits-due q = ap due_of (sym (fails-here _ _ q))

  pub sheet-due : limits_fit f ≡ true → sheet_fits f ≡ false → Err (fault AreaTooShort 0) ≡ due_of (first_failing (tests_before e f))
  unfolding tests_before due_of
  sheet-due p q = ap due_of (sym (holds-here _ _ p ∙ fails-here _ _ q))

  pub records-due : limits_fit f ≡ true → sheet_fits f ≡ true → records_fit e f ≡ false → Err (fault AreaTooShort 0) ≡ due_of (first_failing (tests_before e f))
  unfolding tests_before due_of
  records-due p q r = ap due_of (sym (holds-here _ _ p ∙ holds-here _ _ q ∙ fails-here _ _ r))

  module _ (p : limits_fit f ≡ true) (q : sheet_fits f ≡ true) (r : records_fit e f ≡ true) where
    pub list-due : list_fits f.lent.table f.lent.groups ≡ false → Err (fault AreaTooShort 0) ≡ due_of (first_failing (tests_before e f))
    unfolding tests_before due_of
    list-due x = ap due_of (sym (holds-here _ _ p ∙ holds-here _ _ q ∙ holds-here _ _ r ∙ fails-here _ _ x))

    -- table and list are tested together: their refusals are one
    module _ (s : list_fits f.lent.table f.lent.groups ≡ true) where
      pub table-due : right f.limit f.lent.table && list_right f.lent.table f.lent.groups ≡ false → Err (fault TableNotRight 0) ≡ due_of (first_failing (tests_before e f))
      unfolding tests_before due_of
      table-due x =
          split (right f.limit f.lent.table)
          (λ y. ap due_of (sym (holds-here _ _ p ∙ holds-here _ _ q ∙ holds-here _ _ r ∙ holds-here _ _ s ∙ holds-here _ _ y ∙ fails-here _ _ (second (right f.limit f.lent.table) (list_right f.lent.table f.lent.groups) x y))))
          (λ y. ap due_of (sym (holds-here _ _ p ∙ holds-here _ _ q ∙ holds-here _ _ r ∙ holds-here _ _ s ∙ fails-here _ _ y)))

      pub none-due : right f.limit f.lent.table && list_right f.lent.table f.lent.groups ≡ true → Ok tt ≡ due_of (first_failing (tests_before e f))
      unfolding tests_before due_of
      none-due x = let y = both (right f.limit f.lent.table) (list_right f.lent.table f.lent.groups) x in ap due_of (sym (all_hold _ (p, (q, (r, (s, (y.0, (y.1, tt))))))))

-- the check, and then the copying area
module _ (script : List ℕ) (d : ℕ) (area : Option ℕ) where
  pub refused-check : (c : Refusal) (o : ℕ) → check script ≡ refused c o → checked_then script d area ≡ Err (fault c o)
  unfolding checked_then
  refused-check c o q = rw (checked_then, q)

  pub area-short : (t : Block) → check script ≡ accepted t → holds_at_least (d * (length script / 2)) area ≡ false → checked_then script d area ≡ Err (fault AreaTooShort 0)
  unfolding checked_then
  area-short t q h = rw (checked_then, q, h)

  pub area-held : (t : Block) → check script ≡ accepted t → holds_at_least (d * (length script / 2)) area ≡ true → checked_then script d area ≡ Ok tt
  unfolding checked_then
  area-held t q h = rw (checked_then, q, h)

told : (c : Refusal) (o : ℕ) → verdict_of (refused c o) ≡ Err (fault c o)
unfolding verdict_of
told c o = refl

fit : (t : Block) → verdict_of (accepted t) ≡ Ok tt
unfolding verdict_of
fit t = refl

-- a verdict of the check, from what it was told of
module _ (script : List ℕ) (v : Verdict) (e : v ≡ verdict_of (check script)) where
  pub by-refusal {ℓ} : {X : Type ℓ} (c : Refusal) (o : ℕ) → v ≡ Err (fault c o) → (check script ≡ refused c o → X) → X
  by-refusal {X = X} c o q run = go (check script) refl
    where
      go : (k : Checked) → check script ≡ k → X
      go (accepted t) h =
          let w : v ≡ Ok tt = e ∙ ap verdict_of h ∙ fit t in
          let z : ◌≡◌ {A = ℕ} 0 1 = cc in
          absurd (omega arith)
      go (refused b p) h =
          let w : Err (fault b p) ≡ Err (fault c o) = sym (e ∙ ap verdict_of h ∙ told b p) ∙ q in
          let f : fault b p ≡ fault c o = cc in
          let x : b ≡ c = ap (λ (z : Fault). z.cause) f in
          let y : p ≡ o = ap (λ (z : Fault). z.offset) f in
          run (h ∙ λ i. refused (x i) (y i))

  pub by-fit {ℓ} : {X : Type ℓ} → v ≡ Ok tt → ((t : Block) → check script ≡ accepted t → X) → X
  by-fit {X = X} q run = go (check script) refl
    where
      go : (k : Checked) → check script ≡ k → X
      go (accepted t) h = run t h
      go (refused b p) h =
          let w : v ≡ Err (fault b p) = e ∙ ap verdict_of h ∙ told b p in
          let z : ◌≡◌ {A = ℕ} 0 1 = cc in
          absurd (omega arith)

pub accepted-length : (script : List ℕ) (t : Block) → check script ≡ accepted t → length script ≤ 8192
unfolding check length_fits
accepted-length script t q = go (length_fits script) refl
  where
    go : (b : Bool) → length_fits script ≡ b → length script ≤ 8192
    go true h =
        let m = both (leb 1 (length script) && leb (length script) 8192) (eqb (length script % 2) 0) h in
        leb-true (length script) 8192 (both (leb 1 (length script)) (leb (length script) 8192) m.0).1
    go false h =
        let w : check script ≡ refused ScriptLength 0 = rw (h, check) in
        let z : ◌≡◌ {A = ℕ} 0 1 = cc in
        absurd (omega arith)

-- the part from the check on, in the code's words
module _ (script : List ℕ) (d : ℕ) (area : Option ℕ) (v : Verdict) (e : v ≡ verdict_of (check script)) where
  pub refused-check-stands : (r : Verdict) (x : Fault) → v ≡ Err x → r ≡ Err x → r ≡ checked_then script d area
  refused-check-stands r x q p = p ∙ by-refusal script v e x.cause x.offset q (λ h. sym (refused-check script d area x.cause x.offset h))

  pub short-after : v ≡ Ok tt → holds_at_least (d * (length script / 2)) area ≡ false → Err (fault AreaTooShort 0) ≡ checked_then script d area
  short-after q h = by-fit script v e q (λ t k. sym (area-short script d area t k h))

  pub held_after : v ≡ Ok tt → holds_at_least (d * (length script / 2)) area ≡ true → Ok tt ≡ checked_then script d area
  held_after q h = by-fit script v e q (λ t k. sym (area-held script d area t k h))

-- the words asked of the copying area can be counted
pub fit_length : (script : List ℕ) (v : Verdict) → v ≡ verdict_of (check script) → v ≡ Ok tt → length script ≤ 8192
fit_length script v e q = by-fit script v e q (accepted-length script)

pub small : (d n : ℕ) → Fits w32 d → n ≤ 8192 → Fits w64 (d * (n / 2))
small d n f h =
    let m : d * (n / 2) ≤ d * 4096 = mul-le-mul_left d (omega arith) in
    let k : d < 4294967296 = f.fits in
    let l : d * 4096 < 18446744073709551616 = omega arith in
    record { fits = omega arith }

-- The whole
module _ (e : Engine) (f : Fed) (v : Verdict) (due : v ≡ due_of (first_failing (tests_before e f))) where
  pub turned-away : (r : Verdict) (x : Fault) → v ≡ Err x → r ≡ Err x → r ≡ verdict_of (admission e f)
  unfolding due_of verdict_of
  turned-away r x q p =
      p ∙ (sym q ∙ by-lookup (first_failing (tests_before e f)) (λ h. let w : v ≡ Ok tt = due ∙ ap due_of h in let z : ◌≡◌ {A = ℕ} 0 1 = cc in absurd (omega arith))
      (λ b h. due ∙ ap due_of h ∙ sym (ap verdict_of (due-refused e f (before-check ((due-exactly (tests_before e f) b).0 h))))))

  pub passed : v ≡ Ok tt → checked_then f.script f.activations e.area ≡ verdict_of (admission e f)
  unfolding due_of
  passed q =
      by-lookup (first_failing (tests_before e f)) (λ h. checked ((none-exactly (tests_before e f)).0 h) (check f.script) refl)
      (λ b h. let w : v ≡ Err (fault b 0) = due ∙ ap due_of h in let z : ◌≡◌ {A = ℕ} 0 1 = cc in absurd (omega arith))
    where
      checked : AllHold (tests_before e f) → (k : Checked) → check f.script ≡ k → checked_then f.script f.activations e.area ≡ verdict_of (admission e f)
      checked b (refused c o) k = refused-check f.script f.activations e.area c o k ∙ sym (ap verdict_of (due-refused e f (by-check (b, k))) ∙ told c o)
      checked b (accepted t) k =
          split (area_fits e f)
          (λ h. area-held f.script f.activations e.area t k (held e f h) ∙ sym (ap verdict_of (admitted-accepted e f (record { before = b; script = k; after = after e f h })) ∙ fit t))
          (λ h. area-short f.script f.activations e.area t k (held e f h) ∙ sym (ap verdict_of (due-refused e f (after_check (b, k) (fails e f h))) ∙ told AreaTooShort 0))
