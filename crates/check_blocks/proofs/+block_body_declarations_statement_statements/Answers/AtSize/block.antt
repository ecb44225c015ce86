-- `block` meets its contract at one choice of arguments, over any tables: where they hold the contracts of what it calls, and its own cycle's at smaller
-- sizes, what it asks there entails that its code does what it promises. By the derivation that the check makes of the code; what the check finds for itself
-- in the cycle's proof is answered here again. Assumes `Logic`.
use Prim.Native.Nat.{ℕ}
use mathlib.Core.Path.{refl}
use seplogic.Ra.Ura.{Ura}
use base.Logic.{SProp, ent, id⊢}
use prog.Memory.{Memory}
use prog.Routine.{Routine}
use prog.Wp.{WpFn, Tables}
use types.Logic.{Logic}
use contract.Monad.{Fun}
use contract.BorrowLft.{⊑_static}
use sound.WpLaws.{fm_of}
use denote.Triple.Spec.{triple_of}
use denote.Triple.Statement.{Triple}
use Rattle.check_blocks.proofs.AnyTables.{knows}
use Rattle.check_bounds.specs.contracts.block.opened as opened
use Rattle.check_bounds.proofs.block.opened.Symbol.{name as #opened}
use Rattle.check_bounds.proofs.block.opened.Reads as opened-reads
use Rattle.check_blocks.specs.contracts.declarations.Key.{name as #declarations}
use Rattle.check_blocks.proofs.declarations.Reads as declarations-reads
use Rattle.check_blocks.specs.contracts.statements.Key.{name as #statements}
use Rattle.check_blocks.proofs.statements.Reads as statements-reads
use Rattle.check_blocks.proofs.block.Reads as reads
use Rattle.check_blocks.proofs.+block_body_declarations_statement_statements.Code as mine
use Rattle.check_blocks.proofs.+block_body_declarations_statement_statements.Goals as goals
use Rattle.check_blocks.proofs.+block_body_declarations_statement_statements.Lts-block as lts
use Rattle.check_blocks.proofs.+block_body_declarations_statement_statements.Tie as tie
use Rattle.check_blocks.proofs.+block_body_declarations_statement_statements.Answers as answers
use Rattle.check_blocks.proofs.+block_body_declarations_statement_statements.Answers.AtSize.Members.{Below, block-contract, block-size, block-met, declarations-contract, declarations-size, declarations-below, statements-contract, statements-size, statements-below}
use Rattle.check_blocks.proofs.+block_body_declarations_statement_statements.Answers.AtSize.Tries.{#branch, #residual, branches, residues, branch-known, residual-known}

abbrev claims : ℕ → lts.Claims
claims n = (opened-reads.Asked, opened-reads.Learnt, tie.Asked-block-1, tie.Learnt-block-1, tie.Asked-block-2, tie.Learnt-block-2, goals.declarations-below n, declarations-reads.Post, goals.statements-below n, statements-reads.Post)

proved : (n : ℕ) {M : Type 1} → lts.Closed (claims n) (goals.block-at n) reads.Post M
proved n = lts.spec (claims n) (goals.block-at n) reads.Post (goals.the-clauses-block n)
    (λ c κs. _)
    (λ c κs. (⊑_static κs.0, ⊑_static κs.1.0))
    (λ c κs. (⊑_static κs.0, (⊑_static κs.1.0, ⊑_static κs.1.1.0)))
    (λ c. lts.joined-Need-returns (claims n) (goals.block-at n) reads.Post (goals.the-clauses-block n) c (record { reads = goals.the-fit-block-returns-in_err-first-clause-reads answers.block-returns-in_err-first-clause-reads n c; keeps = refl }))
    (goals.the-fit-block-overflow_sub-left answers.block-overflow_sub-left n)
    (goals.the-fit-block-declarations-requires answers.block-declarations-requires n)
    (λ c κs. (⊑_static κs.0, ⊑_static κs.1.0))
    (λ c κs. (⊑_static κs.0, (⊑_static κs.1.0, ⊑_static κs.1.1.0)))
    (λ c. lts.joined-Need-returns-2 (claims n) (goals.block-at n) reads.Post (goals.the-clauses-block n) c (record { reads = goals.the-fit-block-returns-in_err-rest-clause-reads answers.block-returns-in_err-rest-clause-reads n c; keeps = goals.the-fit-block-returns-in_err-rest-clause-keeps answers.block-returns-in_err-rest-clause-keeps n c }))
    (goals.the-fit-block-overflow_sub-left-2 answers.block-overflow_sub-left-2 n)
    (goals.the-fit-block-statements-requires answers.block-statements-requires n)
    (λ c. lts.joined-Need-returns-3 (claims n) (goals.block-at n) reads.Post (goals.the-clauses-block n) c (record { reads = goals.the-fit-block-returns-clause-reads answers.block-returns-clause-reads n c; keeps = goals.the-fit-block-returns-clause-keeps answers.block-returns-clause-keeps n c }))

module _ {M : Type 1} {𝓤 : Ura M} (𝓛 : Logic 𝓤) (mem : Memory → SProp 𝓤) (run : Routine → Fun 𝓤) (𝓣 : Tables 𝓤 𝓛.H)
    (known-opened : Triple 𝓤 (𝓣.C #opened) (triple_of 𝓛 opened.signature (opened.spec 𝓛 mem run)))
    (known-branch : Triple 𝓤 (𝓣.C #branch) (branches 𝓛 mem run))
    (known-residual : Triple 𝓤 (𝓣.C #residual) (residues 𝓛 mem run)) where
  open 𝓛 use {H}

  pub at-size : (z : (block-contract 𝓛 mem run).Ghost)
      → Below 𝓛 mem run (declarations-contract 𝓛 mem run) (declarations-size 𝓛 mem run) (𝓣.C #declarations) (block-size 𝓛 mem run z)
      → Below 𝓛 mem run (statements-contract 𝓛 mem run) (statements-size 𝓛 mem run) (𝓣.C #statements) (block-size 𝓛 mem run z)
      → ent 𝓤 ((block-contract 𝓛 mem run).pre z) (WpFn 𝓤 H 𝓣.C 𝓣.Λ mine.block-function ((block-contract 𝓛 mem run).args z) ((block-contract 𝓛 mem run).post z))
  at-size z known-declarations known-statements =
      let n = block-size 𝓛 mem run z in
      block-met 𝓛 mem run 𝓣 z (proved n 𝓤 𝓛 𝓣
      (knows 𝓛 0 lts.ps-0 lts.r-0 (λ κs a. (opened.clauses 𝓛 mem run κs a).requires tt) (λ κs a x e. (opened.clauses 𝓛 mem run κs a).ensures tt x e)
      opened-reads.Asked opened-reads.Learnt (𝓣.C #opened) (λ κs a x e. id⊢ 𝓤 _) (λ κs a p. id⊢ 𝓤 _) (fm_of 𝓤 H 𝓛.laws 𝓣 #opened) known-opened)
      (branch-known 𝓛 mem run 𝓣 known-branch)
      (residual-known 𝓛 mem run 𝓣 known-residual)
      (declarations-below 𝓛 mem run 𝓣 n known-declarations)
      (statements-below 𝓛 mem run 𝓣 n known-statements))
