-- `statement` meets its contract at one choice of arguments, over any tables: where they hold the contracts of what it calls, and its own cycle's at smaller
-- sizes, what it asks there entails that its code does what it promises. By the derivation that the check makes of the code; what the check finds for itself
-- in the cycle's proof is answered here again. Assumes `Logic`.
use Prim.Native.Nat.{ℕ}
use native.Mathlib.Omega.{arith}
use mathlib.Core.Path.{refl}
use seplogic.Ra.Ura.{Ura}
use base.Logic.{SProp, ent, id⊢}
use prog.Memory.{Memory}
use prog.Routine.{Routine}
use prog.Wp.{WpFn, Tables}
use types.Logic.{Logic}
use contract.Monad.{fact_i, Fun}
use sound.WpLaws.{fm_of}
use denote.Triple.Spec.{triple_of}
use denote.Triple.Statement.{Triple}
use Rattle.check_blocks.proofs.AnyTables.{knows}
use Rattle.check_blocks.specs.contracts.is_action as is-action
use Rattle.check_blocks.proofs.is_action.Symbol.{name as #is-action}
use Rattle.check_blocks.proofs.is_action.Reads as is-action-reads
use Rattle.check_bounds.specs.contracts.statement.action as action
use Rattle.check_bounds.proofs.statement.action.Symbol.{name as #action}
use Rattle.check_bounds.proofs.statement.action.Reads as action-reads
use Rattle.check_blocks.specs.contracts.block.Key.{name as #block}
use Rattle.check_blocks.proofs.block.Reads as block-reads
use Rattle.check_blocks.proofs.statement.Reads as reads
use Rattle.check_blocks.proofs.+block_body_declarations_statement_statements.Code as mine
use Rattle.check_blocks.proofs.+block_body_declarations_statement_statements.Goals as goals
use Rattle.check_blocks.proofs.+block_body_declarations_statement_statements.Lts-statement as lts
use Rattle.check_blocks.proofs.+block_body_declarations_statement_statements.Answers as answers
use Rattle.check_blocks.proofs.+block_body_declarations_statement_statements.Answers.AtSize.Members.{Below, statement-contract, statement-size, statement-met, block-contract, block-size, block-below}

abbrev claims : ℕ → lts.Claims
claims n = (is-action-reads.Asked, is-action-reads.Learnt, action-reads.Asked, action-reads.Learnt, goals.block-below n, block-reads.Post)

proved : (n : ℕ) {M : Type 1} → lts.Closed (claims n) (goals.statement-at n) reads.Post M
proved n = lts.spec (claims n) (goals.statement-at n) reads.Post (goals.the-clauses-statement n)
    (λ c κs. _)
    (λ c κs. c.requires.1)
    (λ c. lts.joined-Need-returns (claims n) (goals.statement-at n) reads.Post (goals.the-clauses-statement n) c (record { reads = goals.the-fit-statement-returns-then-is_action-clause-reads answers.statement-returns-then-is_action-clause-reads n c; keeps = refl }))
    (λ c κs. (omega arith, (omega arith, omega arith, c.requires.2)))
    (λ c. lts.joined-Need-returns-2 (claims n) (goals.statement-at n) reads.Post (goals.the-clauses-statement n) c (record { reads = goals.the-fit-statement-returns-clause-reads answers.statement-returns-clause-reads n c; keeps = c.block.ensures.keeps }))

module _ {M : Type 1} {𝓤 : Ura M} (𝓛 : Logic 𝓤) (mem : Memory → SProp 𝓤) (run : Routine → Fun 𝓤) (𝓣 : Tables 𝓤 𝓛.H)
    (known-is-action : Triple 𝓤 (𝓣.C #is-action) (triple_of 𝓛 is-action.signature (is-action.spec 𝓛 mem run)))
    (known-action : Triple 𝓤 (𝓣.C #action) (triple_of 𝓛 action.signature (action.spec 𝓛 mem run))) where
  open 𝓛 use {H}

  pub at-size : (z : (statement-contract 𝓛 mem run).Ghost)
      → Below 𝓛 mem run (block-contract 𝓛 mem run) (block-size 𝓛 mem run) (𝓣.C #block) (statement-size 𝓛 mem run z)
      → ent 𝓤 ((statement-contract 𝓛 mem run).pre z) (WpFn 𝓤 H 𝓣.C 𝓣.Λ mine.statement-function ((statement-contract 𝓛 mem run).args z) ((statement-contract 𝓛 mem run).post z))
  at-size z known-block =
      let n = statement-size 𝓛 mem run z in
      statement-met 𝓛 mem run 𝓣 z (proved n 𝓤 𝓛 𝓣
      (knows 𝓛 0 lts.ps-0 lts.r-0 (λ κs a. (is-action.clauses 𝓛 mem run κs a).requires tt) (λ κs a x e. (is-action.clauses 𝓛 mem run κs a).ensures tt x e)
      is-action-reads.Asked is-action-reads.Learnt (𝓣.C #is-action) (λ κs a x e. id⊢ 𝓤 _) (λ κs a p. id⊢ 𝓤 _) (fm_of 𝓤 H 𝓛.laws 𝓣 #is-action) known-is-action)
      (knows 𝓛 1 lts.ps-1 lts.r-1 (λ κs a. (action.clauses 𝓛 mem run κs a).requires tt) (λ κs a x e. (action.clauses 𝓛 mem run κs a).ensures tt x e)
      action-reads.Asked action-reads.Learnt (𝓣.C #action) (λ κs a x e. id⊢ 𝓤 _) (λ κs a p. fact_i 𝓤 _ _ p) (fm_of 𝓤 H 𝓛.laws 𝓣 #action) known-action)
      (block-below 𝓛 mem run 𝓣 n known-block))
