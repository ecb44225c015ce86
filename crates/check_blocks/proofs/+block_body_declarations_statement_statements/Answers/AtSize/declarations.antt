-- `declarations` meets its contract at one choice of arguments, over any tables: where they hold the contracts of what it calls, and its own cycle's at smaller
-- sizes, what it asks there entails that its code does what it promises. By the derivation that the check makes of the code; what the check finds for itself
-- in the cycle's proof is answered here again. Assumes `Logic`.
use Prim.Native.Nat.{ℕ}
use native.Mathlib.Omega.{arith}
use mathlib.Core.Path.{refl}
use seplogic.Ra.Ura.{Ura}
use base.Logic.{SProp, ent, id⊢}
use prog.Memory.{Memory}
use prog.Routine.{Routine}
use prog.Wp.{WpFn, Tables}
use types.Logic.{Logic}
use contract.Monad.{fact_i, Fun}
use contract.BorrowLft.{⊑_static}
use sound.WpLaws.{fm_of}
use denote.Triple.Spec.{triple_of}
use denote.Triple.Statement.{Triple}
use Rattle.check_blocks.proofs.Loops.{decls-start}
use Rattle.check_blocks.proofs.AnyTables.{knows}
use Rattle.check_readers.specs.contracts.declaration_here as declaration-here
use Rattle.check_readers.proofs.declaration_here.Symbol.{name as #declaration-here}
use Rattle.check_readers.proofs.declaration_here.Reads as declaration-here-reads
use Rattle.check_records.specs.contracts.onward as onward
use Rattle.check_records.proofs.onward.Symbol.{name as #onward}
use Rattle.check_records.proofs.onward.Reads as onward-reads
use Rattle.check_bounds.specs.contracts.declaration.fit as fit
use Rattle.check_bounds.proofs.declaration.fit.Symbol.{name as #fit}
use Rattle.check_bounds.proofs.declaration.fit.Reads as fit-reads
use Rattle.check_blocks.specs.contracts.body.Key.{name as #body}
use Rattle.check_blocks.proofs.body.Reads as body-reads
use Rattle.check_blocks.proofs.declarations.Reads as reads
use Rattle.check_blocks.proofs.+block_body_declarations_statement_statements.Code as mine
use Rattle.check_blocks.proofs.+block_body_declarations_statement_statements.Goals as goals
use Rattle.check_blocks.proofs.+block_body_declarations_statement_statements.Lts-declarations as lts
use Rattle.check_blocks.proofs.+block_body_declarations_statement_statements.Tie as tie
use Rattle.check_blocks.proofs.+block_body_declarations_statement_statements.Answers as answers
use Rattle.check_blocks.proofs.+block_body_declarations_statement_statements.Answers.AtSize.Members.{Below, declarations-contract, declarations-size, declarations-met, body-contract, body-size, body-below}
use Rattle.check_blocks.proofs.+block_body_declarations_statement_statements.Answers.AtSize.Tries.{#branch, #residual, branches, residues, branch-known, residual-known}

abbrev claims : ℕ → lts.Claims
claims n = (declaration-here-reads.Asked, declaration-here-reads.Learnt, onward-reads.Asked, onward-reads.Learnt, fit-reads.Asked, fit-reads.Learnt, tie.Asked-declarations-3, tie.Learnt-declarations-3, tie.Asked-declarations-4, tie.Learnt-declarations-4, goals.body-below n, body-reads.Post)

proved : (n : ℕ) {M : Type 1} → lts.Closed (claims n) (goals.declarations-at n) reads.Post M
proved n = lts.spec (claims n) (goals.declarations-at n) reads.Post goals.the-declarations-invariant-loop-i goals.the-declarations-decreases-loop-i (goals.the-clauses-declarations n)
    (λ c. omega arith)
    (λ c. omega arith)
    (λ c. omega arith)
    (λ c. record { same_script = refl; kept = refl; left = decls-start _ _ _ _ _ _ _ _ })
    (λ c. omega arith)
    (λ c κs. _)
    (λ c κs. _)
    (λ c. lts.joined-Need-returns (claims n) (goals.declarations-at n) reads.Post goals.the-declarations-invariant-loop-i goals.the-declarations-decreases-loop-i (goals.the-clauses-declarations n) c (record { reads = goals.the-fit-declarations-returns-in_default-clause-reads answers.declarations-returns-in_default-clause-reads n c; keeps = c.loop-i.invariant.kept }))
    (λ c κs. let k = c.loop-i.auto.names in let q = c.requires.2 in let m = c.loop-i-test.true in omega (arith, k, q, m))
    (λ c κs. (⊑_static κs.0, ⊑_static κs.1.0))
    (λ c κs. (⊑_static κs.0, (⊑_static κs.1.0, ⊑_static κs.1.1.0)))
    (λ c. lts.joined-Need-returns-2 (claims n) (goals.declarations-at n) reads.Post goals.the-declarations-invariant-loop-i goals.the-declarations-decreases-loop-i (goals.the-clauses-declarations n) c (record { reads = goals.the-fit-declarations-returns-in_err-next-clause-reads answers.declarations-returns-in_err-next-clause-reads n c; keeps = c.loop-i.invariant.kept }))
    (λ c. let w = c.in-Taken.ensures.1 in record { fits = omega (arith, w) })
    (goals.the-fit-declarations-body-requires answers.declarations-body-requires n)
    (λ c κs. (⊑_static κs.0, ⊑_static κs.1.0))
    (λ c κs. (⊑_static κs.0, (⊑_static κs.1.0, ⊑_static κs.1.1.0)))
    (λ c. lts.joined-Need-returns-3 (claims n) (goals.declarations-at n) reads.Post goals.the-declarations-invariant-loop-i goals.the-declarations-decreases-loop-i (goals.the-clauses-declarations n) c (record { reads = goals.the-fit-declarations-returns-in_err-end-clause-reads answers.declarations-returns-in_err-end-clause-reads n c; keeps = goals.the-fit-declarations-returns-in_err-end-clause-keeps answers.declarations-returns-in_err-end-clause-keeps n c }))
    (λ c. record { fits = omega arith })
    (λ c. record { fits = omega arith })
    (λ c. let j = c.body.auto.names in let k = c.loop-i.auto.names in let q = c.requires.2 in let m = c.loop-i-test.true in omega (arith, j, k, q, m))
    (λ c. let m = c.loop-i-test.true in omega (arith, m))
    (goals.the-fit-declarations-loop-i-preserved answers.declarations-loop-i-preserved n)
    (λ c. lts.joined-Need-returns-4 (claims n) (goals.declarations-at n) reads.Post goals.the-declarations-invariant-loop-i goals.the-declarations-decreases-loop-i (goals.the-clauses-declarations n) c (record { reads = goals.the-fit-declarations-returns-clause-reads answers.declarations-returns-clause-reads n c; keeps = c.loop-i.invariant.kept }))

module _ {M : Type 1} {𝓤 : Ura M} (𝓛 : Logic 𝓤) (mem : Memory → SProp 𝓤) (run : Routine → Fun 𝓤) (𝓣 : Tables 𝓤 𝓛.H)
    (known-declaration-here : Triple 𝓤 (𝓣.C #declaration-here) (triple_of 𝓛 declaration-here.signature (declaration-here.spec 𝓛 mem run)))
    (known-onward : Triple 𝓤 (𝓣.C #onward) (triple_of 𝓛 onward.signature (onward.spec 𝓛 mem run)))
    (known-fit : Triple 𝓤 (𝓣.C #fit) (triple_of 𝓛 fit.signature (fit.spec 𝓛 mem run)))
    (known-branch : Triple 𝓤 (𝓣.C #branch) (branches 𝓛 mem run))
    (known-residual : Triple 𝓤 (𝓣.C #residual) (residues 𝓛 mem run)) where
  open 𝓛 use {H}

  pub at-size : (z : (declarations-contract 𝓛 mem run).Ghost)
      → Below 𝓛 mem run (body-contract 𝓛 mem run) (body-size 𝓛 mem run) (𝓣.C #body) (declarations-size 𝓛 mem run z)
      → ent 𝓤 ((declarations-contract 𝓛 mem run).pre z) (WpFn 𝓤 H 𝓣.C 𝓣.Λ mine.declarations-function ((declarations-contract 𝓛 mem run).args z) ((declarations-contract 𝓛 mem run).post z))
  at-size z known-body =
      let n = declarations-size 𝓛 mem run z in
      declarations-met 𝓛 mem run 𝓣 z (proved n 𝓤 𝓛 𝓣
      (knows 𝓛 1 lts.ps-0 lts.r-0 (λ κs a. (declaration-here.clauses 𝓛 mem run κs a).requires tt) (λ κs a x e. (declaration-here.clauses 𝓛 mem run κs a).ensures tt x e)
      declaration-here-reads.Asked declaration-here-reads.Learnt (𝓣.C #declaration-here) (λ κs a x e. id⊢ 𝓤 _) (λ κs a p. id⊢ 𝓤 _) (fm_of 𝓤 H 𝓛.laws 𝓣 #declaration-here) known-declaration-here)
      (knows 𝓛 0 lts.ps-1 lts.r-1 (λ κs a. (onward.clauses 𝓛 mem run κs a).requires tt) (λ κs a x e. (onward.clauses 𝓛 mem run κs a).ensures tt x e)
      onward-reads.Asked onward-reads.Learnt (𝓣.C #onward) (λ κs a x e. id⊢ 𝓤 _) (λ κs a p. id⊢ 𝓤 _) (fm_of 𝓤 H 𝓛.laws 𝓣 #onward) known-onward)
      (knows 𝓛 1 lts.ps-2 lts.r-2 (λ κs a. (fit.clauses 𝓛 mem run κs a).requires tt) (λ κs a x e. (fit.clauses 𝓛 mem run κs a).ensures tt x e)
      fit-reads.Asked fit-reads.Learnt (𝓣.C #fit) (λ κs a x e. id⊢ 𝓤 _) (λ κs a p. fact_i 𝓤 _ _ p) (fm_of 𝓤 H 𝓛.laws 𝓣 #fit) known-fit)
      (branch-known 𝓛 mem run 𝓣 known-branch)
      (residual-known 𝓛 mem run 𝓣 known-residual)
      (body-below 𝓛 mem run 𝓣 n known-body))
