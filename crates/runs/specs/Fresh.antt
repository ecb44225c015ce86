-- How many new names a run takes: a step at most 32, since it enters at most one block. So after k steps from the start of an accepted script the
-- next new name is at most 65,568 + 32 k (`fresh-bound`), and every new name of a call fits a 32-bit word (`fresh-fits`).
use Rattle.std.specs.Prelude.{ℕ, ◌+◌, ◌*◌, ◌≤◌, ◌<◌, List, [], ◌≡◌, refl, length}
use Rattle.std.proofs.Common.{arith, subst}
use Rattle.std.proofs.lemmas.List.{length-map}
use Rattle.language.specs.Text.{Block, block_decls, decl_name, declared_names}
use Rattle.language.specs.Check.{accepted, check}
use Rattle.language.specs.Table.{Table}
use Rattle.language.specs.Copy.{Replacement}
use Rattle.language.specs.Machine.{State, Limits, did, with_live, with_table, counted, store, enter, advance, step, run, start}
use Rattle.runs.specs.Running.{some-cost}
use Rattle.runs.specs.Moves.{Leads, After, step-leads, step_keeps}
use Rattle.runs.specs.Account.{Reached, no_step, a-step, account}
use Rattle.runs.specs.Steps.{steps-done, steps-at-most}
use Rattle.runs.specs.Names.{FitsBlock, FitsState, block-names, fits_kept, advance-fits, entered-fits, called-fits, start_fits}
use Rattle.runs.specs.Accepted.{accepted-fits}

-- entering takes a new name for each declaration
enter-fresh : (s : State) (formals arguments : List ℕ) (b : Block) (encloser : ℕ) (around : List Replacement) (p m : ℕ) → FitsBlock b p → s.fresh ≤ m → (enter s formals arguments b encloser around).fresh ≤ m + 32
unfolding enter declared_names
enter-fresh s formals arguments b encloser around p m h q = omega (arith, block-names b p h, length-map (block_decls b) decl_name)

-- the names taken before a step, and after it
abbrev Taken : ℕ → State → Type 0
Taken m s = s.fresh ≤ m

abbrev Before : ℕ → State → Type 0
Before m s = FitsState s × Taken m s

taking : (l : Limits) (m : ℕ) → Leads l (Before m) (Taken (m + 32)) (λ s a. Unit {0})
unfolding with_live with_table store advance
taking l m =
    record {
      left = λ s a e h. omega (arith, h.1);
      advanced = λ s a at x e n h. ((advance-fits s a e h.0, h.1), tt);
      stays = λ s h. omega (arith, h.1);
      stored = λ s x z h. omega (arith, h.1);
      entered = λ s a b e n r h. enter-fresh (advance s a) [] [] b (length (advance s a).live) a.reads 0 m (entered-fits s a b e n h.0) h.1;
      called = λ s p xs i u e g r h. enter-fresh s _ xs _ i.number i.home.reads (length xs) m (called-fits s p xs i e g h.0) h.1;
      jumped = λ s x i u e h. omega (arith, h.1);
      branched = λ s v x u. tt;
      added = λ s g n p q r f h. omega (arith, h.1);
      removed = λ s g n h. omega (arith, h.1);
    }

pub step-fresh : (l : Limits) (s : State) → FitsState s → After (λ s'. s'.fresh ≤ s.fresh + 32) (step l s)
step-fresh l s h = step-leads l (Before s.fresh) (Taken (s.fresh + 32)) (λ s' a. Unit {0}) (taking l s.fresh) s (h, omega arith)

-- A run of k steps

step_fits : (l : Limits) (s s' : State) → FitsState s → step l s ≡ did s' → FitsState (counted s s')
unfolding counted
step_fits l s s' h d = subst (After FitsState) d (step_keeps l FitsState (fits_kept l) s h)

pub reached-fresh : (l : Limits) {s t : State} {k : ℕ} → FitsState s → Reached l s k t → t.fresh ≤ s.fresh + 32 * k
unfolding counted
reached-fresh l h no_step = omega arith
reached-fresh l h (a-step {s = s} {s' = s'} {t = t} {k = k} e d r) =
    let one : s'.fresh ≤ s.fresh + 32 = subst (After (λ u. u.fresh ≤ s.fresh + 32)) d (step-fresh l s h) in
    let rest : t.fresh ≤ s'.fresh + 32 * k = reached-fresh l (step_fits l s s' h d) r in
    omega (arith, some-cost s s')

start-fresh : (t : Block) (tab : Table) → FitsBlock t 0 → ((start t tab).fresh ≤ 65568) × ((start t tab).steps ≡ 0)
unfolding start enter declared_names
start-fresh t tab h = (omega (arith, block-names t 0 h, length-map (block_decls t) decl_name), refl)

module _ (l : Limits) (bs : List ℕ) (t : Block) (tab : Table) (e : check bs ≡ accepted t) (n : ℕ) where
  pub fresh-bound : (run l n (start t tab)).final.fresh ≤ 65568 + 32 * (run l n (start t tab)).final.steps
  fresh-bound =
      let s = start t tab in
      let h = start-fresh t tab (accepted-fits bs t e) in
      omega (arith, h.0, h.1, steps-done l n s, reached-fresh l (start_fits t tab (accepted-fits bs t e)) (account l n s).reached)

  -- N is at most 1,000,000
  pub fresh-fits : n ≤ 1000000 → (run l n (start t tab)).final.fresh < 4294967296
  fresh-fits h =
      let s = start t tab in
      omega (arith, fresh-bound, steps-at-most l n s, (start-fresh t tab (accepted-fits bs t e)).1)
