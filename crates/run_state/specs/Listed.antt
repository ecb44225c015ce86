-- The list beside the table as a run goes on: `list-has`, what a step asks; `list-went`, a step keeps it; `list-finished`, `list-stopped`, `list-spent`, where
-- the run ends (`list-after`, `list-kept`: by the pairs in use alone); `list-starts`, `list-ran`, from where it begins. Each law takes what the loop's functions say as it comes.
use Rattle.std.specs.Prelude.{ℕ, List, ◌≡◌, ℤ}
use Rattle.std.proofs.Common.{sym, ap, ◌∙◌, subst}
use Rattle.language.specs.declared.Stop.{Stop}
use Rattle.table_laws.specs.Listing.{Beside, HasList, KeepsList}
use Rattle.run_state.specs.declared.Registers.{Registers}
use Rattle.run_state.specs.declared.Turn.{Turn}
use Rattle.run_state.specs.declared.Turn.TheVariants.{Went, Finished, Stopped}
use Rattle.run_state.specs.declared.Halt.{Halt}
use Rattle.run_state.specs.Turns.{pairs_after}
use Rattle.run_state.specs.Halts.{finished_after, spent_after, stopped_after, named_by}

module _ {limit : ℕ} {table : List ℤ} {pairs : ℕ} {groups table' groups' : List ℤ} (here : Registers) (so_far : KeepsList limit table pairs groups table' here.pairs groups') where
  pub list-has : HasList limit table pairs groups → HasList limit table' here.pairs groups'
  list-has h = (h.0, so_far h.0 h.1)

  pub list-kept : {n : ℕ} → n ≡ here.pairs → KeepsList limit table pairs groups table' n groups'
  list-kept e past b = subst (λ (n : ℕ). Beside limit past (record { words = table'; used = n }) groups') (sym e) (so_far past b)

  pub list-spent : {steps designator links : ℕ} {halt r : Halt} → halt ≡ spent_after here steps → r ≡ named_by halt designator links → KeepsList limit table pairs groups table' r.pairs groups'
  list-spent is named = list-kept (ap (λ (h : Halt). h.pairs) named ∙ ap (λ (h : Halt). h.pairs) is)

  module _ (t : Turn) {table'' groups'' : List ℤ} (stepped : KeepsList limit table' here.pairs groups' table'' (pairs_after here t) groups'') where
    pub list-after : {n : ℕ} → pairs_after here t ≡ n → KeepsList limit table pairs groups table'' n groups''
    list-after e past b = subst (λ (n : ℕ). Beside limit past (record { words = table''; used = n }) groups'') e (stepped past (so_far past b))

    pub list-went : {next : Registers} → t ≡ Went next → KeepsList limit table pairs groups table'' next.pairs groups''
    list-went e = list-after (ap (pairs_after here) e)

    pub list-finished : t ≡ Finished → {steps : ℕ} {r : Halt} → r ≡ finished_after here steps → KeepsList limit table pairs groups table'' r.pairs groups''
    list-finished e is = list-after (ap (pairs_after here) e ∙ sym (ap (λ (h : Halt). h.pairs) is))

    pub list-stopped : {c : Stop} → t ≡ Stopped c → {steps designator links : ℕ} {halt r : Halt} → halt ≡ stopped_after here c steps → r ≡ named_by halt designator links
        → KeepsList limit table pairs groups table'' r.pairs groups''
    list-stopped e is named = list-after (ap (pairs_after here) e ∙ sym (ap (λ (h : Halt). h.pairs) named ∙ ap (λ (h : Halt). h.pairs) is))

-- the registers that a run begins with
module _ {limit : ℕ} {table groups : List ℤ} {start : Registers} (begun : Registers) (e : start ≡ begun) where
  pub list-starts : HasList limit table begun.pairs groups → HasList limit table start.pairs groups
  list-starts = subst (λ (r : Registers). HasList limit table r.pairs groups) (sym e)

  pub list-ran : {table' groups' : List ℤ} {pairs' : ℕ} → KeepsList limit table start.pairs groups table' pairs' groups' → KeepsList limit table begun.pairs groups table' pairs' groups'
  list-ran {table'} {groups'} {pairs'} = subst (λ (r : Registers). KeepsList limit table r.pairs groups table' pairs' groups') e
