-- `body` meets its contract at one choice of arguments, over any tables: where they hold the contracts of what it calls, and its own cycle's at smaller
-- sizes, what it asks there entails that its code does what it promises. By the derivation that the check makes of the code; what the check finds for itself
-- in the cycle's proof is answered here again. Assumes `Logic`.
use Prim.Native.Nat.{ℕ}
use native.Mathlib.Omega.{arith}
use mathlib.Core.Path.{refl, sym, ◌∙◌}
use seplogic.Ra.Ura.{Ura}
use base.Logic.{SProp, ent, id⊢}
use prog.Memory.{Memory}
use prog.Routine.{Routine}
use prog.Wp.{WpFn, Tables}
use types.Logic.{Logic}
use contract.Monad.{fact_i, Fun}
use contract.BorrowLft.{⊑_static}
use sound.WpLaws.{fm_of}
use denote.Triple.Spec.{triple_of}
use denote.Triple.Statement.{Triple}
use Rattle.check_blocks.proofs.MarkCases.{few-formals as few-of-PR, is-PR}
use Rattle.check_blocks.proofs.AnyTables.{three, knows}
use Rattle.check_blocks.specs.contracts.bodiless as bodiless
use Rattle.check_blocks.proofs.bodiless.Symbol.{name as #bodiless}
use Rattle.check_blocks.proofs.bodiless.Reads as bodiless-reads
use Rattle.check_names.specs.contracts.formals.read_formals as formals
use Rattle.check_names.proofs.formals.read_formals.Symbol.{name as #formals}
use Rattle.check_names.proofs.formals.read_formals.Reads as formals-reads
use Rattle.check_readers.specs.contracts.read_block as read-block
use Rattle.check_readers.proofs.read_block.Symbol.{name as #read-block}
use Rattle.check_readers.proofs.read_block.Reads as read-block-reads
use Rattle.check_records.specs.contracts.onward as onward
use Rattle.check_records.proofs.onward.Symbol.{name as #onward}
use Rattle.check_records.proofs.onward.Reads as onward-reads
use Rattle.check_blocks.specs.contracts.block.Key.{name as #block}
use Rattle.check_blocks.proofs.block.Reads as block-reads
use Rattle.check_blocks.proofs.body.Reads as reads
use Rattle.check_blocks.proofs.+block_body_declarations_statement_statements.Code as mine
use Rattle.check_blocks.proofs.+block_body_declarations_statement_statements.Goals as goals
use Rattle.check_blocks.proofs.+block_body_declarations_statement_statements.Lts-body as lts
use Rattle.check_blocks.proofs.+block_body_declarations_statement_statements.Tie as tie
use Rattle.check_blocks.proofs.+block_body_declarations_statement_statements.Answers as answers
use Rattle.check_blocks.proofs.+block_body_declarations_statement_statements.Answers.AtSize.Members.{Below, body-contract, body-size, body-met, block-contract, block-size, block-below}
use Rattle.check_blocks.proofs.+block_body_declarations_statement_statements.Answers.AtSize.Tries.{#branch, #residual, branches, residues, branch-known, residual-known}

abbrev claims : ℕ → lts.Claims
claims n = (bodiless-reads.Asked, bodiless-reads.Learnt, formals-reads.Asked, formals-reads.Learnt, tie.Asked-body-2, tie.Learnt-body-2, tie.Asked-body-3, tie.Learnt-body-3, read-block-reads.Asked, read-block-reads.Learnt, onward-reads.Asked, onward-reads.Learnt, goals.block-below n, block-reads.Post)

proved : (n : ℕ) {M : Type 1} → lts.Closed (claims n) (goals.body-at n) reads.Post M
proved n = lts.spec (claims n) (goals.body-at n) reads.Post (goals.the-clauses-body n)
    (λ c κs. _)
    (λ c. lts.joined-Need-returns (claims n) (goals.body-at n) reads.Post (goals.the-clauses-body n) c (record { reads = goals.the-fit-body-returns-then-bodiless-clause-reads answers.body-returns-then-bodiless-clause-reads n c; keeps = refl }))
    (λ c. omega arith)
    (λ c. omega arith)
    (λ c κs. let f = few-of-PR _ _ (is-PR _ (sym c.bodiless.ensures ∙ c.if-bodiless.false)) c.requires.1 in let s = c.requires.2 in omega (arith, f, s))
    (λ c κs. (⊑_static κs.0, ⊑_static κs.1.0))
    (λ c κs. (⊑_static κs.0, (⊑_static κs.1.0, ⊑_static κs.1.1.0)))
    (λ c. lts.joined-Need-returns-2 (claims n) (goals.body-at n) reads.Post (goals.the-clauses-body n) c (record { reads = goals.the-fit-body-returns-in_err-at-clause-reads answers.body-returns-in_err-at-clause-reads n c; keeps = c.read_formals.ensures.keeps }))
    (λ c κs. _)
    (λ c κs. _)
    (λ c. lts.joined-Need-returns-3 (claims n) (goals.body-at n) reads.Post (goals.the-clauses-body n) c (record { reads = goals.the-fit-body-returns-in_default-clause-reads answers.body-returns-in_default-clause-reads n c; keeps = c.read_formals.ensures.keeps }))
    (λ c. let w = c.in-Taken.ensures.1 in record { fits = omega (arith, w) })
    (λ c. let w = c.in-Taken.ensures.1 in record { fits = omega (arith, w) })
    (goals.the-fit-body-block-requires answers.body-block-requires n)
    (λ c. lts.joined-Need-returns-4 (claims n) (goals.body-at n) reads.Post (goals.the-clauses-body n) c (record { reads = goals.the-fit-body-returns-clause-reads answers.body-returns-clause-reads n c; keeps = c.block.ensures.keeps ∙ c.read_formals.ensures.keeps }))

module _ {M : Type 1} {𝓤 : Ura M} (𝓛 : Logic 𝓤) (mem : Memory → SProp 𝓤) (run : Routine → Fun 𝓤) (𝓣 : Tables 𝓤 𝓛.H)
    (known-bodiless : Triple 𝓤 (𝓣.C #bodiless) (triple_of 𝓛 bodiless.signature (bodiless.spec 𝓛 mem run)))
    (known-formals : Triple 𝓤 (𝓣.C #formals) (triple_of 𝓛 formals.signature (formals.spec 𝓛 mem run)))
    (known-branch : Triple 𝓤 (𝓣.C #branch) (branches 𝓛 mem run))
    (known-residual : Triple 𝓤 (𝓣.C #residual) (residues 𝓛 mem run))
    (known-read-block : Triple 𝓤 (𝓣.C #read-block) (triple_of 𝓛 read-block.signature (read-block.spec 𝓛 mem run)))
    (known-onward : Triple 𝓤 (𝓣.C #onward) (triple_of 𝓛 onward.signature (onward.spec 𝓛 mem run))) where
  open 𝓛 use {H}

  pub at-size : (z : (body-contract 𝓛 mem run).Ghost)
      → Below 𝓛 mem run (block-contract 𝓛 mem run) (block-size 𝓛 mem run) (𝓣.C #block) (body-size 𝓛 mem run z)
      → ent 𝓤 ((body-contract 𝓛 mem run).pre z) (WpFn 𝓤 H 𝓣.C 𝓣.Λ mine.body-function ((body-contract 𝓛 mem run).args z) ((body-contract 𝓛 mem run).post z))
  at-size z known-block =
      let n = body-size 𝓛 mem run z in
      body-met 𝓛 mem run 𝓣 z (proved n 𝓤 𝓛 𝓣
      (knows 𝓛 0 lts.ps-0 lts.r-0 (λ κs a. (bodiless.clauses 𝓛 mem run κs a).requires tt) (λ κs a x e. (bodiless.clauses 𝓛 mem run κs a).ensures tt x e)
      bodiless-reads.Asked bodiless-reads.Learnt (𝓣.C #bodiless) (λ κs a x e. id⊢ 𝓤 _) (λ κs a p. id⊢ 𝓤 _) (fm_of 𝓤 H 𝓛.laws 𝓣 #bodiless) known-bodiless)
      (knows 𝓛 2 lts.ps-1 lts.r-1 (λ κs a. (formals.clauses 𝓛 mem run κs a).requires tt) (λ κs a x e. (formals.clauses 𝓛 mem run κs a).ensures tt x e)
      formals-reads.Asked formals-reads.Learnt (𝓣.C #formals) (λ κs a x e. three 𝓤 _ _ _ _ (λ p q r. (p, (q, r)))) (λ κs a p. fact_i 𝓤 _ _ p) (fm_of 𝓤 H 𝓛.laws 𝓣 #formals) known-formals)
      (branch-known 𝓛 mem run 𝓣 known-branch)
      (residual-known 𝓛 mem run 𝓣 known-residual)
      (knows 𝓛 1 lts.ps-4 lts.r-4 (λ κs a. (read-block.clauses 𝓛 mem run κs a).requires tt) (λ κs a x e. (read-block.clauses 𝓛 mem run κs a).ensures tt x e)
      read-block-reads.Asked read-block-reads.Learnt (𝓣.C #read-block) (λ κs a x e. id⊢ 𝓤 _) (λ κs a p. id⊢ 𝓤 _) (fm_of 𝓤 H 𝓛.laws 𝓣 #read-block) known-read-block)
      (knows 𝓛 0 lts.ps-5 lts.r-5 (λ κs a. (onward.clauses 𝓛 mem run κs a).requires tt) (λ κs a x e. (onward.clauses 𝓛 mem run κs a).ensures tt x e)
      onward-reads.Asked onward-reads.Learnt (𝓣.C #onward) (λ κs a x e. id⊢ 𝓤 _) (λ κs a p. id⊢ 𝓤 _) (fm_of 𝓤 H 𝓛.laws 𝓣 #onward) known-onward)
      (block-below 𝓛 mem run 𝓣 n known-block))
