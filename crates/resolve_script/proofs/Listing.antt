-- The kinds of formals, written one after the other.
-- Assumes nothing.
use mathlib.Core.Path.{◌≡◌, refl, sym, ◌∙◌, subst}
use mathlib.Core.List.{List, [], ◌∷◌}
use Prim.Native.Nat.{ℕ, ◌+◌, ◌*◌, ◌/◌, ◌%◌, ◌<◌, ◌≤◌}
use native.Mathlib.Omega.{arith}
use lib.ListN.{length, set}
use Rattle.language.specs.Text.{Formal}
use Rattle.language.specs.Encoding.{kind_field, formals_fields, FM-mark}
use Rattle.resolved.specs.Resolved.{resolved_formals}
use Rattle.laws.specs.Fields.{field_at, FieldsStand, fields-after, fields-third}
use Rattle.resolve_words.specs.Growth.{Grown}
use Rattle.resolve_script.specs.Resolving.{FormalsWritten}
use Rattle.resolve_words.proofs.Growth.{grown-nothing, grown-zero, put-grows, grown-more}

-- the formals still to come give all of them
pub record Listing (bs c₀ c : List ℕ) (at i count : ℕ) (fs : List Formal) : Type 0 where
  pub left : List Formal
  pub stand : FieldsStand bs (at + 6 * i) (formals_fields left)
  pub number : length left + i ≡ count
  pub on : (c' : List ℕ) → Grown c c' (at + 6 * i) (resolved_formals left) → Grown c₀ c' at (resolved_formals fs)

module _ (bs c₀ : List ℕ) (at count : ℕ) (fs : List Formal) where
  listing_start : length fs ≡ count → FieldsStand bs at (formals_fields fs) → Listing bs c₀ c₀ at 0 count fs
  listing_start n h =
      let e : at ≡ at + 6 * 0 = omega arith in
      record {
        left = fs;
        stand = subst (λ (o : ℕ). FieldsStand bs o (formals_fields fs)) e h;
        number = omega arith;
        on = λ c' g. subst (λ (o : ℕ). Grown c₀ c' o (resolved_formals fs)) (sym e) g;
      }

  listing-end : (c : List ℕ) (i : ℕ) → i ≡ count → Listing bs c₀ c at i count fs → Grown c₀ c at (resolved_formals fs)
  unfolding resolved_formals
  listing-end c i e r = none r.left r.number r.on
    where
      none : (l : List Formal) → length l + i ≡ count → ((c' : List ℕ) → Grown c c' (at + 6 * i) (resolved_formals l) → Grown c₀ c' at (resolved_formals fs)) → Grown c₀ c at (resolved_formals fs)
      none [] n on = on c (grown-nothing c (at + 6 * i))
      none (y ∷ ys) n on = absurd (omega arith)

  module _ (c c₁ : List ℕ) (i u : ℕ) (more : i < count) (below : u < 65536) (is : u ≡ field_at bs (at + 6 * i + 4)) (put : c₁ ≡ set c ((at + 6 * i + 4) / 2) (u % 4294967296)) where
    step :
        (l : List Formal) → FieldsStand bs (at + 6 * i) (formals_fields l) → length l + i ≡ count →
        ((c' : List ℕ) → Grown c c' (at + 6 * i) (resolved_formals l) → Grown c₀ c' at (resolved_formals fs)) → Listing bs c₀ c₁ at (i + 1) count fs
    unfolding formals_fields resolved_formals
    step [] h n on = absurd (omega arith)
    step (f ∷ l) h n on =
        let third = fields-third bs (at + 6 * i) FM-mark f.name (kind_field f.kind) (formals_fields l) h in
        let six : at + 6 * i + 2 * 3 ≡ at + 6 * (i + 1) = omega arith in
        let k : u ≡ kind_field f.kind = is ∙ third in
        record {
          left = l;
          stand = subst (λ (o : ℕ). FieldsStand bs o (formals_fields l)) six (fields-after bs (at + 6 * i) (FM-mark ∷ f.name ∷ kind_field f.kind ∷ []) (formals_fields l) h);
          number = omega arith;
          on = λ c' g. on c'
              (subst (λ (w : ℕ). Grown c c' (at + 6 * i) (0 ∷ 0 ∷ w ∷ resolved_formals l)) k
              (grown-more refl (grown-zero c (at + 6 * i))
              (grown-more (omega arith) (grown-zero c (at + 6 * i + 2)) (grown-more (omega arith) (put-grows put (omega arith)) g))));
        }

    listing_step : Listing bs c₀ c at i count fs → Listing bs c₀ c₁ at (i + 1) count fs
    listing_step r = step r.left r.stand r.number r.on

-- as the code has it
pub record Kinding (bs c₀ c : List ℕ) (at i count : ℕ) : Type 0 where
  pub within : i ≤ count
  pub long : length c ≡ length c₀
  pub rest : (fs : List Formal) → length fs ≡ count → FieldsStand bs at (formals_fields fs) → Listing bs c₀ c at i count fs

pub kinding-start : (bs c : List ℕ) (at count : ℕ) → Kinding bs c c at 0 count
kinding-start bs c at count = record { within = omega arith; long = refl; rest = λ fs n h. listing_start bs c at count fs n h }

module _ {bs c₀ c : List ℕ} {at i count : ℕ} (g : Kinding bs c₀ c at i count) where
  pub kinding-step :
      {c₁ : List ℕ} {u : ℕ} → i < count → (u ≡ field_at bs (at + 6 * i + 4)) × (u < 65536) → c₁ ≡ set c ((at + 6 * i + 4) / 2) (u % 4294967296) → length c₁ ≡ length c →
      Kinding bs c₀ c₁ at (i + 1) count
  kinding-step {c₁} {u} more e put n =
      record { within = omega arith; long = n ∙ g.long; rest = λ fs m h. listing_step bs c₀ at count fs c c₁ i u more e.1 e.0 put (g.rest fs m h) }

  pub kinding-end : count ≤ i → FormalsWritten bs at count c₀ c
  kinding-end l fs n h = listing-end bs c₀ at count fs c i (omega (arith, g.within)) (g.rest fs n h)
