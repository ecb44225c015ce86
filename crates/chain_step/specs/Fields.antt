-- The names in the fields of the next statement: links lead to where they are declared (`seen`), and what may be read of them (`reached`).
use Rattle.std.specs.Prelude.{ℕ, ◌+◌, List, ℤ, get_or}
use Rattle.std.proofs.Common.{sym, subst}
use Rattle.steps.specs.Standing.{Standing}
use Rattle.steps.specs.Fields as fields
use Rattle.steps.specs.Finding.{Reaches}
use Rattle.chain_records.specs.declared.Activation.{Activation}
use Rattle.run_state.specs.declared.Registers.{Registers}
use Rattle.chain_links.specs.Records.{blocks_in, nexts_in, links_in}
use Rattle.chain_links.specs.Finding.{first_cell, Seen}
use Rattle.run_state.specs.Limits.{limits_by}
use Rattle.chain_links.specs.Running.{Running}
use Rattle.chain_links.proofs.Names as links

module _ {code : List ℕ} {activations limit : ℕ} {cells : List ℤ} {records : List Activation} {table : List ℤ} {here : Registers}
    (w : Running code activations limit cells records table here) where
  abbrev st : Standing code (limits_by activations limit) cells (blocks_in records) (nexts_in records) (links_in records) table here.pairs here.live
      here.at here.end
  st = w.standing

  abbrev word : ℕ → ℕ
  word i = get_or code (here.at + i) 0

  pub seen : (i : ℕ) → fields.FieldName st i → Seen records here.live here.level (word i)
  seen i f = subst (Seen records here.live here.level) (sym f.word) (links.seen-name w f.name f.resolved)

  pub reached : (i : ℕ) → fields.FieldName st i → Reaches cells here.live (first_cell records here.live here.level (word i)) (word i)
  reached i f = subst (λ v. Reaches cells here.live (first_cell records here.live here.level v) v) (sym f.word)
      (links.reached w f.name f.resolved)
