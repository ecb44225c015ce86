-- The walk over records, one after the other.
-- Assumes nothing.
use Rattle.std.specs.Prelude.{Ok, Err}
use mathlib.Core.Path.{◌≡◌, refl, sym, ◌∙◌, ap, subst}
use mathlib.Core.List.{List, [], ◌∷◌, ◌++◌}
use Prim.Native.Nat.{ℕ, ◌+◌, ◌*◌, ◌<◌, ◌≤◌}
use native.Mathlib.Omega.{arith}
use lib.ListN.{length, drop, length-append}
use Rattle.language.specs.Scope.{fine, wrong, ◌then◌}
use Rattle.language.specs.Scope as definitions
use Rattle.language.specs.declared.Fault.{Fault}
use Rattle.language.specs.Faults.{Progress}
use Rattle.check_uses.specs.Meanings.{scope_of}
use Rattle.check_extents.specs.Items.{Item, item_fields, items_fields}
use Rattle.check_scope.specs.Walking.{progress_of, judge_item, judge_items, ItemsHere, ItemHere, Ahead, Ready, Kept, ItemJudged, ItemsJudged}
use Rattle.check_scope.proofs.Marked.{first-here, first-inside, others-here}

-- a verdict, then another: where the first refuses, and where it does not
stops : (r : Progress) (v w : definitions.Judgement) (x : Fault) (e e' : ℕ) → r ≡ progress_of v e → r ≡ Err x → r ≡ progress_of (◌then◌ v w) e'
unfolding ◌then◌
stops r fine w x e e' p q = absurd (let z : ◌≡◌ {A = ℕ} 0 1 = cc in omega arith)
stops r (wrong d n) w x e e' p q = p

goes : (r : Progress) (v w : definitions.Judgement) (next e e' : ℕ) → r ≡ progress_of v e → r ≡ Ok next → (next ≡ e) × (progress_of w e' ≡ progress_of (◌then◌ v w) e')
unfolding ◌then◌
goes r fine w next e e' p q = (cc, refl)
goes r (wrong d n) w next e e' p q = absurd (let z : ◌≡◌ {A = ℕ} 0 1 = cc in omega arith)

-- the records still to judge: all before them are right
pub record Remaining (bs es : List ℕ) (at here i count top : ℕ) (xs : List Item) (level s : ℕ) : Type 0 where
  pub left : List Item
  pub number : length left + i ≡ count
  pub rest : ItemsHere bs here (length left) top left level s
  pub verdict : progress_of (judge_items left (scope_of bs (drop top es))) (here + 2 * length (items_fields left)) ≡ progress_of (judge_items xs (scope_of bs (drop top es))) (at + 2 * length (items_fields xs))

module _ (bs es : List ℕ) (at count top : ℕ) (xs : List Item) (level s : ℕ) where
  remaining-start : ItemsHere bs at count top xs level s → Remaining bs es at at 0 count top xs level s
  remaining-start h = record {
    left = xs;
    number = omega (arith, h.number);
    rest = record { number = refl; stand = h.stand; formed = h.formed; room = h.room };
    verdict = refl;
  }

  abbrev answer : Progress
  answer = progress_of (judge_items xs (scope_of bs (drop top es))) (at + 2 * length (items_fields xs))

  module _ (here i : ℕ) where
    remaining-end : count ≤ i → Remaining bs es at here i count top xs level s → Ok here ≡ answer
    unfolding judge_items items_fields
    remaining-end h r = none r.left r.number r.verdict
      where
        nothing : here + 2 * 0 ≡ here
        nothing = omega arith

        none : (l : List Item) → length l + i ≡ count → progress_of (judge_items l (scope_of bs (drop top es))) (here + 2 * length (items_fields l)) ≡ answer → Ok here ≡ answer
        none [] n v = ap Ok (sym nothing) ∙ v
        none (y ∷ ys) n v = absurd (omega arith)

    -- the next record: it begins inside the script, and is judged
    module _ (more : i < count) where
      remaining-inside : Remaining bs es at here i count top xs level s → length bs ≤ here → ⊥
      remaining-inside r = go r.left r.number r.rest
        where
          go : (l : List Item) → length l + i ≡ count → ItemsHere bs here (length l) top l level s → length bs ≤ here → ⊥
          go [] n h out = omega arith
          go (y ∷ ys) n h out = first-inside bs here top level s y ys h out

      module _ (r : Progress) (judged : (x : Item) (k n : ℕ) → ItemHere bs here top x k n → r ≡ progress_of (judge_item x (scope_of bs (drop top es))) (here + 2 * length (item_fields x))) where
        stop-at : (x : Fault) → r ≡ Err x → (l : List Item) → length l + i ≡ count → ItemsHere bs here (length l) top l level s → progress_of (judge_items l (scope_of bs (drop top es))) (here + 2 * length (items_fields l)) ≡ answer → r ≡ answer
        unfolding judge_items
        stop-at x q [] n h v = absurd (omega arith)
        stop-at x q (y ∷ ys) n h v =
            stops r (judge_item y (scope_of bs (drop top es))) (judge_items ys (scope_of bs (drop top es))) x _ _ (judged y level s (first-here bs here top level s y ys h)) q ∙ v

        remaining-stop : (x : Fault) → r ≡ Err x → Remaining bs es at here i count top xs level s → r ≡ answer
        remaining-stop x q m = stop-at x q m.left m.number m.rest m.verdict

        go_on : (next : ℕ) → r ≡ Ok next → (l : List Item) → length l + i ≡ count → ItemsHere bs here (length l) top l level s → progress_of (judge_items l (scope_of bs (drop top es))) (here + 2 * length (items_fields l)) ≡ answer → Remaining bs es at next (i + 1) count top xs level s
        unfolding judge_items items_fields
        go_on next q [] n h v = absurd (omega arith)
        go_on next q (y ∷ ys) n h v =
            let sc = scope_of bs (drop top es) in
            let end = here + 2 * length (item_fields y ++ items_fields ys) in
            let g = goes r (judge_item y sc) (judge_items ys sc) next (here + 2 * length (item_fields y)) end (judged y level s (first-here bs here top level s y ys h)) q in
            let e : here + 2 * length (item_fields y) + 2 * length (items_fields ys) ≡ end = omega (arith, length-append (item_fields y) (items_fields ys)) in
            record {
              left = ys;
              number = omega arith;
              rest = others-here bs here top level s y ys h next g.0;
              verdict = ap (λ (o : ℕ). progress_of (judge_items ys sc) (o + 2 * length (items_fields ys))) g.0 ∙ ap (progress_of (judge_items ys sc)) e ∙ g.1 ∙ v;
            }

        remaining-step : (next : ℕ) → r ≡ Ok next → Remaining bs es at here i count top xs level s → Remaining bs es at next (i + 1) count top xs level s
        remaining-step next q m = go_on next q m.left m.number m.rest m.verdict

-- the records walked so far, as the code has it
pub record Walking (bs es₀ es ends : List ℕ) (at here i count top : ℕ) : Type 0 where
  pub from : at ≤ here
  pub near : here ≤ length bs + 131076
  pub long : length es ≡ length es₀
  pub kept : Kept bs es₀ es ends top
  pub rest : (xs : List Item) (level s : ℕ) → ItemsHere bs at count top xs level s → Remaining bs es₀ at here i count top xs level s

pub walking_start : (bs es ends : List ℕ) (at count top : ℕ) → Ready bs es ends top → at ≤ length bs + 131076 → Walking bs es es ends at at 0 count top
walking_start bs es ends at count top r l =
    record {
      from = omega arith;
      near = l;
      long = refl;
      kept = record { same = refl; chained = r.chained; noted = r.noted };
      rest = λ xs level s h. remaining-start bs es at count top xs level s h;
    }

module _ {bs es₀ es ends : List ℕ} {at here i count top : ℕ} (w : Walking bs es₀ es ends at here i count top) where
  pub walking-end : count ≤ i → ItemsJudged bs es₀ at count top (Ok here)
  walking-end l xs level s h = remaining-end bs es₀ at count top xs level s here i l (w.rest xs level s h)

  pub walking-out : (r : Progress) → i < count → length bs ≤ here → ItemsJudged bs es₀ at count top r
  walking-out r l o xs level s h = absurd (remaining-inside bs es₀ at count top xs level s here i l (w.rest xs level s h) o)

  module _ (r : Progress) (more : i < count) (judged : ItemJudged bs es here top r) where
    judged-at : (x : Item) (k n : ℕ) → ItemHere bs here top x k n → r ≡ progress_of (judge_item x (scope_of bs (drop top es₀))) (here + 2 * length (item_fields x))
    judged-at x k n g = judged x k n g ∙ ap (λ (l : List ℕ). progress_of (judge_item x (scope_of bs l)) (here + 2 * length (item_fields x))) w.kept.same

    -- the walk ends with the record's refusal
    pub walking-stop : (t : Progress) (x : Fault) → r ≡ Err x → t ≡ Err x → ItemsJudged bs es₀ at count top t
    walking-stop t x q p xs level s h =
        p ∙ sym q ∙ remaining-stop bs es₀ at count top xs level s here i more r judged-at x q (w.rest xs level s h)

    pub walking-step :
        {es₁ ends₁ : List ℕ} (next : ℕ) → r ≡ Ok next → Ahead here (length bs) r → length es₁ ≡ length es → Kept bs es es₁ ends₁ top → Walking bs es₀ es₁ ends₁ at next (i + 1) count top
    walking-step next q a n k =
        let on : (here ≤ next) × (next ≤ length bs + 131076) = subst (Ahead here (length bs)) q a in
        record {
          from = omega (arith, on.0);
          near = on.1;
          long = n ∙ w.long;
          kept = record { same = k.same ∙ w.kept.same; chained = k.chained; noted = k.noted };
          rest = λ xs level s h. remaining-step bs es₀ at count top xs level s here i more r judged-at next q (w.rest xs level s h);
        }

pub kept-all : (bs es ends : List ℕ) (top : ℕ) → Ready bs es ends top → Kept bs es es ends top
kept-all bs es ends top r = record { same = refl; chained = r.chained; noted = r.noted }

pub kept_again : (bs es es₁ es₂ ends ends₁ : List ℕ) (top : ℕ) → Kept bs es es₁ ends top → Kept bs es₁ es₂ ends₁ top → Kept bs es es₂ ends₁ top
kept_again bs es es₁ es₂ ends ends₁ top k j = record { same = j.same ∙ k.same; chained = j.chained; noted = j.noted }
