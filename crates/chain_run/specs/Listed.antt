-- The list beside the table as a run goes on, by the readers of a turn: `list-went`, a step keeps it; `list_over`, a step ends the run.
use Rattle.std.specs.Prelude.{ℕ, false, List, ◌≡◌, refl, ℤ}
use Rattle.std.proofs.Common.{true≢false, sym, ap, ◌∙◌}
use Rattle.table_laws.specs.Listing.{KeepsList}
use Rattle.run_state.specs.declared.Registers.{Registers}
use Rattle.run_state.specs.declared.Turn.{Turn}
use Rattle.run_state.specs.declared.Turn.TheVariants.{Went, Finished, Stopped}
use Rattle.run_state.specs.declared.Halt.{Halt}
use Rattle.run_state.specs.Turns.{pairs_after}
use Rattle.run_state.specs.Listed.{list-after}
use Rattle.chain_step.specs.Moves.{is_went, next_in}

next-pairs : (here : Registers) (turn : Turn) → pairs_after here turn ≡ (next_in here turn).pairs
next-pairs here (Went n) = refl
next-pairs here Finished = refl
next-pairs here (Stopped c) = refl

same-pairs : (here : Registers) (turn : Turn) → is_went turn ≡ false → pairs_after here turn ≡ here.pairs
same-pairs here (Went n) e = absurd (true≢false e)
same-pairs here Finished e = refl
same-pairs here (Stopped c) e = refl

module _ {limit : ℕ} {table₀ : List ℤ} {pairs₀ : ℕ} {groups₀ table groups : List ℤ} (here : Registers)
    (so_far : KeepsList limit table₀ pairs₀ groups₀ table here.pairs groups) {table' groups' : List ℤ} (turn : Turn)
    (stepped : KeepsList limit table here.pairs groups table' (pairs_after here turn) groups') where
  pub list-went : (next : Registers) → next ≡ next_in here turn → KeepsList limit table₀ pairs₀ groups₀ table' next.pairs groups'
  list-went next is = list-after here so_far turn stepped (next-pairs here turn ∙ sym (ap (λ (n : Registers). n.pairs) is))

  pub list_over : is_went turn ≡ false → (r : Halt) → r.pairs ≡ here.pairs → KeepsList limit table₀ pairs₀ groups₀ table' r.pairs groups'
  list_over over r is = list-after here so_far turn stepped (same-pairs here turn over ∙ sym is)
