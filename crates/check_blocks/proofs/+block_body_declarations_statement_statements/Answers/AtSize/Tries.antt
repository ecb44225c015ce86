-- What the two functions that a `?` calls say of a `Result<usize, Fault>`, and how a derivation of a member has it from them, over any tables. Assumes `Logic`.
use mathlib.Core.List.{[]}
use seplogic.Ra.Ura.{Ura}
use mir.Syntax.{Callee}
use base.Logic.{SProp, id⊢}
use prog.Memory.{Memory}
use prog.Routine.{Routine}
use prog.Wp.{Tables}
use types.Logic.{Logic}
use contract.Lifetimes.{Lfts}
use contract.Monad.{Fun}
use sound.WpLaws.{fm_of}
use denote.Triple.Spec.{triple_of}
use denote.Triple.Statement.{Contract, Triple}
use borrow.Fn.AtTypes.{Known-carried}
use borrow.Fn.Plain.{Known}
use Rattle.std.specs.contracts.prelude.ResultTry.branch as branch
use Rattle.std.proofs.prelude.ResultTry.branch.Symbol as branch-def
use Rattle.std.proofs.prelude.ResultTry.branch.Kinds as branch-kinds
use Rattle.std.proofs.prelude.ResultTry.branch.Reads as branch-reads
use Rattle.std.specs.contracts.prelude.ResultFromResidualErrResidual.from_residual as residual
use Rattle.std.proofs.prelude.ResultFromResidualErrResidual.from_residual.Symbol as residual-def
use Rattle.std.proofs.prelude.ResultFromResidualErrResidual.from_residual.Kinds as residual-kinds
use Rattle.std.proofs.prelude.ResultFromResidualErrResidual.from_residual.Reads as residual-reads
use Rattle.std.specs.contracts.prelude.AnyFrom.TheImpl as from
use Rattle.check_blocks.proofs.AnyTables.{beside, knows}
use Rattle.check_blocks.proofs.+block_body_declarations_statement_statements.Lts-block as lts
use Rattle.check_blocks.proofs.+block_body_declarations_statement_statements.Tie as tie

abbrev none : Lfts 2
none = ([], ([], tt))

abbrev none3 : Lfts 3
none3 = ([], ([], ([], tt)))

abbrev pub #branch : Callee
#branch = branch-def.name lts.passed-1

abbrev pub #residual : Callee
#residual = residual-def.name lts.passed-2

module _ {M : Type 1} {𝓤 : Ura M} (𝓛 : Logic 𝓤) (mem : Memory → SProp 𝓤) (run : Routine → Fun 𝓤) where
  abbrev pub branches : Contract 𝓤
  branches = triple_of 𝓛 (branch.signature (lts.arg-1-0 none) (lts.arg-1-1 none)) (branch.spec (lts.arg-1-0 none) (lts.arg-1-1 none) 𝓛 mem run)

  pub branch-known : (𝓣 : Tables 𝓤 𝓛.H) → Triple 𝓤 (𝓣.C #branch) branches → Known 𝓛 𝓣 2 lts.ps-1 lts.r-1 tie.Asked-block-1 tie.Learnt-block-1 #branch
  branch-known 𝓣 known =
      let T = lts.arg-1-0 none in let E = lts.arg-1-1 none in let L = lts.laws-1-0 none in let K = lts.laws-1-1 none in
      Known-carried 𝓛 𝓣 2 lts.ps-1 lts.r-1 lts.carried-1 (λ κs a. branch-reads.Asked T E L K κs a) (λ κs a x e. branch-reads.Learnt T E L K κs a x e) #branch
      (knows 𝓛 2 (branch-kinds.ps T E L K) (branch-kinds.r T E L K) (λ κs a. (branch.clauses T E 𝓛 mem run κs a).requires tt) (λ κs a x e. (branch.clauses T E 𝓛 mem run κs a).ensures tt x e)
      (branch-reads.Asked T E L K) (branch-reads.Learnt T E L K) (𝓣.C #branch) (λ κs a x e. id⊢ 𝓤 _) (λ κs a p. beside 𝓤 _ _ p.0 (beside 𝓤 _ _ p.1 (id⊢ 𝓤 _))) (fm_of 𝓤 𝓛.H 𝓛.laws 𝓣 #branch) known)

  abbrev pub residues : Contract 𝓤
  residues = triple_of 𝓛 (residual.signature (lts.arg-2-0 none3) (lts.arg-2-1 none3) (lts.arg-2-2 none3))
      (residual.spec (lts.arg-2-0 none3) (lts.arg-2-1 none3) (lts.arg-2-2 none3) (from.ghosts (lts.impl_arg-2-0 none3)) (from.dict (lts.impl_arg-2-0 none3)) 𝓛 mem run)

  pub residual-known : (𝓣 : Tables 𝓤 𝓛.H) → Triple 𝓤 (𝓣.C #residual) residues → Known 𝓛 𝓣 3 lts.ps-2 lts.r-2 tie.Asked-block-2 tie.Learnt-block-2 #residual
  residual-known 𝓣 known =
      let T = lts.arg-2-0 none3 in let E = lts.arg-2-1 none3 in let F = lts.arg-2-2 none3 in let L = lts.laws-2-0 none3 in let K = lts.laws-2-1 none3 in let J = lts.laws-2-2 none3 in
      let G = from.ghosts (lts.impl_arg-2-0 none3) in let D = from.dict (lts.impl_arg-2-0 none3) in
      Known-carried 𝓛 𝓣 3 lts.ps-2 lts.r-2 lts.carried-2 (λ κs a. residual-reads.Asked T E F L K J G D κs a) (λ κs a x e. residual-reads.Learnt T E F L K J G D κs a x e) #residual
      (knows 𝓛 3 (residual-kinds.ps T E F L K J) (residual-kinds.r T E F L K J) (λ κs a. (residual.clauses T E F G D 𝓛 mem run κs a).requires tt) (λ κs a x e. (residual.clauses T E F G D 𝓛 mem run κs a).ensures tt x e)
      (residual-reads.Asked T E F L K J G D) (residual-reads.Learnt T E F L K J G D) (𝓣.C #residual) (λ κs a x e. id⊢ 𝓤 _) (λ κs a p. beside 𝓤 _ _ p.0 (beside 𝓤 _ _ p.1.0 (beside 𝓤 _ _ p.1.1 (id⊢ 𝓤 _)))) (fm_of 𝓤 𝓛.H 𝓛.laws 𝓣 #residual) known)
