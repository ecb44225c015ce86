-- `statements` meets its contract at one choice of arguments, over any tables: where they hold the contracts of what it calls, and its own cycle's at smaller
-- sizes, what it asks there entails that its code does what it promises. By the derivation that the check makes of the code; what the check finds for itself
-- in the cycle's proof is answered here again. Assumes `Logic`.
use Prim.Native.Nat.{ℕ, ◌≤◌}
use mathlib.Core.Path.{refl, ap, ◌∙◌, subst}
use lib.ListN.{length}
use native.Mathlib.Omega.{arith}
use seplogic.Ra.Ura.{Ura}
use base.Logic.{SProp, ent, id⊢}
use prog.Memory.{Memory}
use prog.Routine.{Routine}
use prog.Wp.{WpFn, Tables}
use types.Logic.{Logic}
use contract.Monad.{Fun}
use contract.BorrowLft.{⊑_static}
use sound.WpLaws.{fm_of}
use denote.Triple.Spec.{triple_of}
use denote.Triple.Statement.{Triple}
use Rattle.check_blocks.proofs.Loops.{stmts-start}
use Rattle.check_blocks.proofs.AnyTables.{knows}
use Rattle.check_readers.specs.contracts.statement_here as statement-here
use Rattle.check_readers.proofs.statement_here.Symbol.{name as #statement-here}
use Rattle.check_readers.proofs.statement_here.Reads as statement-here-reads
use Rattle.check_records.specs.contracts.onward as onward
use Rattle.check_records.proofs.onward.Symbol.{name as #onward}
use Rattle.check_records.proofs.onward.Reads as onward-reads
use Rattle.check_blocks.specs.contracts.statement.Key.{name as #statement}
use Rattle.check_blocks.proofs.statement.Reads as statement-reads
use Rattle.check_blocks.proofs.statements.Reads as reads
use Rattle.check_blocks.proofs.+block_body_declarations_statement_statements.Code as mine
use Rattle.check_blocks.proofs.+block_body_declarations_statement_statements.Goals as goals
use Rattle.check_blocks.proofs.+block_body_declarations_statement_statements.Lts-statements as lts
use Rattle.check_blocks.proofs.+block_body_declarations_statement_statements.Tie as tie
use Rattle.check_blocks.proofs.+block_body_declarations_statement_statements.Answers as answers
use Rattle.check_blocks.proofs.+block_body_declarations_statement_statements.Answers.AtSize.Members.{Below, statements-contract, statements-size, statements-met, statement-contract, statement-size, statement-below}
use Rattle.check_blocks.proofs.+block_body_declarations_statement_statements.Answers.AtSize.Tries.{#branch, #residual, branches, residues, branch-known, residual-known}

abbrev claims : ℕ → lts.Claims
claims n = (statement-here-reads.Asked, statement-here-reads.Learnt, onward-reads.Asked, onward-reads.Learnt, goals.statement-below n, statement-reads.Post, tie.Asked-statements-3, tie.Learnt-statements-3, tie.Asked-statements-4, tie.Learnt-statements-4)

proved : (n : ℕ) {M : Type 1} → lts.Closed (claims n) (goals.statements-at n) reads.Post M
proved n = lts.spec (claims n) (goals.statements-at n) reads.Post goals.the-statements-invariant-loop goals.the-statements-decreases-loop (goals.the-clauses-statements n)
    (λ c. record { same_script = refl; kept = refl; left = stmts-start _ _ _ _ })
    (λ c κs. _)
    (λ c κs. _)
    (λ c. lts.joined-Need-returns (claims n) (goals.statements-at n) reads.Post goals.the-statements-invariant-loop goals.the-statements-decreases-loop (goals.the-clauses-statements n) c (record { reads = goals.the-fit-statements-returns-in_default-clause-reads answers.statements-returns-in_default-clause-reads n c; keeps = c.loop.invariant.kept }))
    (λ c. let w = c.in-Taken.ensures.1 in record { fits = omega (arith, w) })
    (λ c. let w = c.in-Taken.ensures.1 in record { fits = omega (arith, w) })
    (λ c κs. let w = c.in-Taken.ensures.1 in let g = c.loop.invariant.left.onward in let e = c.loop.invariant.same_script in let k = c.loop.auto.names in let q = c.requires.1 in
    (omega (arith, w, g, ap length e), (c.requires.0, subst (λ xs. c.in-Taken.next ≤ length xs) e w.1, k ∙ q)))
    (λ c κs. (⊑_static κs.0, ⊑_static κs.1.0))
    (λ c κs. (⊑_static κs.0, (⊑_static κs.1.0, ⊑_static κs.1.1.0)))
    (λ c. lts.joined-Need-returns-2 (claims n) (goals.statements-at n) reads.Post goals.the-statements-invariant-loop goals.the-statements-decreases-loop (goals.the-clauses-statements n) c (record { reads = goals.the-fit-statements-returns-in_err-reader-clause-reads answers.statements-returns-in_err-reader-clause-reads n c; keeps = c.statement.ensures.keeps ∙ c.loop.invariant.kept }))
    (λ c. omega arith)
    (goals.the-fit-statements-loop-preserved answers.statements-loop-preserved n)
    (λ c. lts.joined-Need-returns-3 (claims n) (goals.statements-at n) reads.Post goals.the-statements-invariant-loop goals.the-statements-decreases-loop (goals.the-clauses-statements n) c (record { reads = goals.the-fit-statements-returns-clause-reads answers.statements-returns-clause-reads n c; keeps = c.loop.invariant.kept }))

module _ {M : Type 1} {𝓤 : Ura M} (𝓛 : Logic 𝓤) (mem : Memory → SProp 𝓤) (run : Routine → Fun 𝓤) (𝓣 : Tables 𝓤 𝓛.H)
    (known-statement-here : Triple 𝓤 (𝓣.C #statement-here) (triple_of 𝓛 statement-here.signature (statement-here.spec 𝓛 mem run)))
    (known-onward : Triple 𝓤 (𝓣.C #onward) (triple_of 𝓛 onward.signature (onward.spec 𝓛 mem run)))
    (known-branch : Triple 𝓤 (𝓣.C #branch) (branches 𝓛 mem run))
    (known-residual : Triple 𝓤 (𝓣.C #residual) (residues 𝓛 mem run)) where
  open 𝓛 use {H}

  pub at-size : (z : (statements-contract 𝓛 mem run).Ghost)
      → Below 𝓛 mem run (statement-contract 𝓛 mem run) (statement-size 𝓛 mem run) (𝓣.C #statement) (statements-size 𝓛 mem run z)
      → ent 𝓤 ((statements-contract 𝓛 mem run).pre z) (WpFn 𝓤 H 𝓣.C 𝓣.Λ mine.statements-function ((statements-contract 𝓛 mem run).args z) ((statements-contract 𝓛 mem run).post z))
  at-size z known-statement =
      let n = statements-size 𝓛 mem run z in
      statements-met 𝓛 mem run 𝓣 z (proved n 𝓤 𝓛 𝓣
      (knows 𝓛 1 lts.ps-0 lts.r-0 (λ κs a. (statement-here.clauses 𝓛 mem run κs a).requires tt) (λ κs a x e. (statement-here.clauses 𝓛 mem run κs a).ensures tt x e)
      statement-here-reads.Asked statement-here-reads.Learnt (𝓣.C #statement-here) (λ κs a x e. id⊢ 𝓤 _) (λ κs a p. id⊢ 𝓤 _) (fm_of 𝓤 H 𝓛.laws 𝓣 #statement-here) known-statement-here)
      (knows 𝓛 0 lts.ps-1 lts.r-1 (λ κs a. (onward.clauses 𝓛 mem run κs a).requires tt) (λ κs a x e. (onward.clauses 𝓛 mem run κs a).ensures tt x e)
      onward-reads.Asked onward-reads.Learnt (𝓣.C #onward) (λ κs a x e. id⊢ 𝓤 _) (λ κs a p. id⊢ 𝓤 _) (fm_of 𝓤 H 𝓛.laws 𝓣 #onward) known-onward)
      (statement-below 𝓛 mem run 𝓣 n known-statement)
      (branch-known 𝓛 mem run 𝓣 known-branch)
      (residual-known 𝓛 mem run 𝓣 known-residual))
