-- The walk over records, one after the other.
-- Assumes nothing.
use mathlib.Core.Path.{◌≡◌, refl, sym, ◌∙◌, ap, subst}
use mathlib.Core.List.{List, [], ◌∷◌, ◌++◌, map, append_assoc}
use Prim.Native.Nat.{ℕ, ◌+◌, ◌*◌, ◌<◌, ◌≤◌}
use native.Mathlib.Omega.{arith}
use lib.ListN.{length, drop, length-append}
use Rattle.language.specs.Text.{Decls, no-decl, decl, Stmts, no-stmt, stmt, decls, stmts}
use Rattle.coordinates.specs.Enclosure.{Enclosure}
use Rattle.resolved.specs.Resolved.{resolved_decl, resolved_stmt, resolved_decls, resolved_stmts}
use Rattle.resolved.proofs.Lengths.{decl-length, stmt-length}
use Rattle.check_extents.specs.Items.{Item, formal, body, declared, stated, item_fields, items_fields}
use Rattle.check_scope.proofs.Marked.{first-here, first-inside, others-here}
use Rattle.check_scope.specs.Walking.{FormedItem, ItemsHere, Ready, Kept}
use Rattle.resolve_words.specs.Growth.{Grown}
use Rattle.resolve_words.specs.Visible.{Shown}
use Rattle.resolve_words.proofs.Growth.{grown-nothing, grown-then}
use Rattle.resolve_script.specs.Resolving.{resolved_item, resolved_items, ItemsIs, Written, ItemWritten, ItemsWritten, Onward}

-- declarations and statements as records
pub stmts-resolved : (name : ℕ) (ss : Stmts) (encl : Enclosure) → resolved_stmts name ss encl ≡ resolved_items name (map stated (stmts ss)) encl
unfolding resolved_stmts resolved_items resolved_item stmts
stmts-resolved name no-stmt encl = refl
stmts-resolved name (stmt x ss) encl = ap (λ (l : List ℕ). resolved_stmt name x encl ++ l) (stmts-resolved name ss encl)

pub decls-resolved : (name : ℕ) (ds : Decls) (xs : List Item) (encl : Enclosure) → resolved_decls name ds encl ++ resolved_items name xs encl ≡ resolved_items name (map declared (decls ds) ++ xs) encl
unfolding resolved_decls resolved_items resolved_item decls
decls-resolved name no-decl xs encl = refl
decls-resolved name (decl d ds) xs encl =
    append_assoc (resolved_decl name d encl) (resolved_decls name ds encl) (resolved_items name xs encl) ∙ ap (λ (l : List ℕ). resolved_decl name d encl ++ l) (decls-resolved name ds xs encl)

item-length : (name : ℕ) (x : Item) (encl : Enclosure) (level s here : ℕ) → FormedItem x level s here → length (resolved_item name x encl) ≡ length (item_fields x)
unfolding resolved_item item_fields FormedItem
item-length name (formal f) encl level s here h = absurd h
item-length name (body b) encl level s here h = absurd h
item-length name (declared d) encl level s here h = decl-length name d encl
item-length name (stated x) encl level s here h = stmt-length name x encl

-- the records still to walk: the words before them are written
pub record Remaining (bs c₀ c : List ℕ) (name at here i count top level : ℕ) (xs : List Item) (encl : Enclosure) (s : ℕ) : Type 0 where
  pub left : List Item
  pub number : length left + i ≡ count
  pub rest : ItemsHere bs here (length left) top left level s
  pub reach : here + 2 * length (items_fields left) ≡ at + 2 * length (items_fields xs)
  pub on : (c' : List ℕ) → Grown c c' here (resolved_items name left encl) → Grown c₀ c' at (resolved_items name xs encl)

module _ (bs es c₀ : List ℕ) (name at count top level : ℕ) (xs : List Item) (encl : Enclosure) (s : ℕ) (is : ItemsIs bs es at count top level xs encl s) where
  remaining-start : Remaining bs c₀ c₀ name at at 0 count top level xs encl s
  remaining-start =
      let h = is.here in
      record {
        left = xs;
        number = omega (arith, h.number);
        rest = record { number = refl; stand = h.stand; formed = h.formed; room = h.room };
        reach = refl;
        on = λ c' g. g;
      }

  module _ (here i : ℕ) where
    remaining-end : (c : List ℕ) → count ≤ i → Remaining bs c₀ c name at here i count top level xs encl s → Written c₀ c at (at + 2 * length (items_fields xs)) here (resolved_items name xs encl)
    unfolding resolved_items items_fields
    remaining-end c h r = none r.left r.number r.reach r.on
      where
        none :
            (l : List Item) → length l + i ≡ count → here + 2 * length (items_fields l) ≡ at + 2 * length (items_fields xs) →
            ((c' : List ℕ) → Grown c c' here (resolved_items name l encl) → Grown c₀ c' at (resolved_items name xs encl)) →
            Written c₀ c at (at + 2 * length (items_fields xs)) here (resolved_items name xs encl)
        none [] n q on = record { ends = omega arith; grows = on c (grown-nothing c here) }
        none (y ∷ ys) n q on = absurd (omega arith)

    -- the next record begins inside the script, and is written
    module _ (more : i < count) where
      remaining-inside : (c : List ℕ) → Remaining bs c₀ c name at here i count top level xs encl s → length bs ≤ here → ⊥
      remaining-inside c r = go r.left r.number r.rest
        where
          go : (l : List Item) → length l + i ≡ count → ItemsHere bs here (length l) top l level s → length bs ≤ here → ⊥
          go [] n h out = omega arith
          go (y ∷ ys) n h out = first-inside bs here top level s y ys h out

      module _ (c c₁ es₁ : List ℕ) (same : drop top es₁ ≡ drop top es) (next : ℕ) (written : ItemWritten bs es₁ name here top level c c₁ next) where
        step :
            (l : List Item) → length l + i ≡ count → ItemsHere bs here (length l) top l level s → here + 2 * length (items_fields l) ≡ at + 2 * length (items_fields xs) →
            ((c' : List ℕ) → Grown c c' here (resolved_items name l encl) → Grown c₀ c' at (resolved_items name xs encl)) →
            Remaining bs c₀ c₁ name at next (i + 1) count top level xs encl s
        unfolding resolved_items items_fields
        step [] n h q on = absurd (omega arith)
        step (y ∷ ys) n h q on =
            let long = length-append (item_fields y) (items_fields ys) in
            let first = first-here bs here top level s y ys h in
            let w = written y encl s (record { here = first; depth = is.depth; shown = subst (Shown encl) (sym same) is.shown; within = omega (arith, is.within) }) in
            let e = w.ends in
            record {
              left = ys;
              number = omega arith;
              rest = others-here bs here top level s y ys h next e;
              reach = omega arith;
              on = λ c' g. on c' (grown-then (omega (arith, item-length name y encl level s here first.formed)) w.grows g);
            }

        remaining-step : Remaining bs c₀ c name at here i count top level xs encl s → Remaining bs c₀ c₁ name at next (i + 1) count top level xs encl s
        remaining-step r = step r.left r.number r.rest r.reach r.on

-- the records walked so far, as the code has it
pub record Walking (bs es₀ es st₀ st ends c₀ c : List ℕ) (name at here i count top level : ℕ) : Type 0 where
  pub within : i ≤ count
  pub from : at ≤ here
  pub near : here ≤ length bs + 400000
  pub entries-long : length es ≡ length es₀
  pub starts-long : length st ≡ length st₀
  pub code-long : length c ≡ length c₀
  pub kept : Kept bs es₀ es ends top
  pub rest : (xs : List Item) (encl : Enclosure) (s : ℕ) → ItemsIs bs es₀ at count top level xs encl s → Remaining bs c₀ c name at here i count top level xs encl s

pub walking_start :
    (bs es st ends c : List ℕ) (name at count top level : ℕ) → Ready bs es ends top → at ≤ length bs + 400000 → Walking bs es es st st ends c c name at at 0 count top level
walking_start bs es st ends c name at count top level r l =
    record {
      within = omega arith;
      from = omega arith;
      near = l;
      entries-long = refl;
      starts-long = refl;
      code-long = refl;
      kept = record { same = refl; chained = r.chained; noted = r.noted };
      rest = λ xs encl s h. remaining-start bs es c name at count top level xs encl s h;
    }

module _ {bs es₀ es st₀ st ends c₀ c : List ℕ} {name at here i count top level : ℕ} (w : Walking bs es₀ es st₀ st ends c₀ c name at here i count top level) where
  pub walking-end : count ≤ i → ItemsWritten bs es₀ name at count top level c₀ c here
  walking-end l xs encl s h = remaining-end bs es₀ c₀ name at count top level xs encl s h here i c l (w.rest xs encl s h)

  pub walking-out : (r : ℕ) → i < count → length bs ≤ here → ItemsWritten bs es₀ name at count top level c₀ c r
  walking-out r l o xs encl s h = absurd (remaining-inside bs es₀ c₀ name at count top level xs encl s h here i l c (w.rest xs encl s h) o)

  pub walking-step :
      {es₁ st₁ ends₁ c₁ : List ℕ} {next : ℕ} → i < count →
      ItemWritten bs es name here top level c c₁ next × (Onward here (length bs) next × Kept bs es es₁ ends₁ top) → length es₁ ≡ length es → length st₁ ≡ length st → length c₁ ≡ length c →
      Walking bs es₀ es₁ st₀ st₁ ends₁ c₀ c₁ name at next (i + 1) count top level
  walking-step {es₁} {st₁} {ends₁} {c₁} {next} more g n m l =
      let (written, (on, k)) = g in
      record {
        within = omega arith;
        from = omega (arith, w.from);
        near = on.1;
        entries-long = n ∙ w.entries-long;
        starts-long = m ∙ w.starts-long;
        code-long = l ∙ w.code-long;
        kept = record { same = k.same ∙ w.kept.same; chained = k.chained; noted = k.noted };
        rest = λ xs encl s h. remaining-step bs es₀ c₀ name at count top level xs encl s h here i more c c₁ es w.kept.same next written (w.rest xs encl s h);
      }
