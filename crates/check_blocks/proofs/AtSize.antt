-- Each member of the cycle meets its contract at one choice of arguments, whatever its size: in the tables of any running program that has
-- the member's code, what its `requires` asks at z gives what its `ensures` says at z. The cycle's proof takes the members at smaller sizes
-- (`Sizes`) as met, and its end is that all are, so that nothing is left to ask of them here.
-- Assumes nothing.
use mathlib.Core.Path.{refl}
use seplogic.Ra.Ura.{Ura}
use base.Logic.{ent}
use prog.Model.{Model}
use prog.Wired.{Wired}
use prog.Wp.{Calls}
use types.Logic.{Logic}
use contract.Running.{Running, tables}
use denote.Triple.Spec.{triple_of}
use denote.Triple.Statement.{Contract}
use denote.Triple.Table.{cited}
use Rattle.check_blocks.specs.contracts.block as block'
use Rattle.check_blocks.proofs.block.Symbol as block-def
use Rattle.check_blocks.proofs.block.Met as block-thm
use Rattle.check_blocks.specs.contracts.body as body'
use Rattle.check_blocks.proofs.body.Symbol as body-def
use Rattle.check_blocks.proofs.body.Met as body-thm
use Rattle.check_blocks.specs.contracts.declarations as declarations'
use Rattle.check_blocks.proofs.declarations.Symbol as declarations-def
use Rattle.check_blocks.proofs.declarations.Met as declarations-thm
use Rattle.check_blocks.specs.contracts.statement as statement'
use Rattle.check_blocks.proofs.statement.Symbol as statement-def
use Rattle.check_blocks.proofs.statement.Met as statement-thm
use Rattle.check_blocks.specs.contracts.statements as statements'
use Rattle.check_blocks.proofs.statements.Symbol as statements-def
use Rattle.check_blocks.proofs.statements.Met as statements-thm

module _ {M : Type 1} {𝓤 : Ura M} (𝓛 : Logic 𝓤) (𝓜 : Model 𝓤 𝓛.H) (𝓡 : Running 𝓤 𝓛.H 𝓜) where
  abbrev C : Calls 𝓤 𝓛.H
  C = (tables 𝓤 𝓛.H 𝓜 𝓡 𝓡.env).C

  abbrev block-contract : Contract 𝓤
  block-contract = triple_of 𝓛 block'.signature (block'.spec 𝓛 𝓜.mem 𝓡.returns)

  pub block-at-size : Wired 𝓡.env block-def.code → (z : block-contract.Ghost) → ent 𝓤 (block-contract.pre z) (C block-def.name (block-contract.args z) (block-contract.post z))
  block-at-size w = cited 𝓤 𝓛.H block-contract 𝓜 𝓡 𝓡.env block-def.name (𝓡.env block-def.name) refl (block-thm.met 𝓤 𝓛 𝓜 𝓡 w)

  abbrev body-contract : Contract 𝓤
  body-contract = triple_of 𝓛 body'.signature (body'.spec 𝓛 𝓜.mem 𝓡.returns)

  pub body-at-size : Wired 𝓡.env body-def.code → (z : body-contract.Ghost) → ent 𝓤 (body-contract.pre z) (C body-def.name (body-contract.args z) (body-contract.post z))
  body-at-size w = cited 𝓤 𝓛.H body-contract 𝓜 𝓡 𝓡.env body-def.name (𝓡.env body-def.name) refl (body-thm.met 𝓤 𝓛 𝓜 𝓡 w)

  abbrev declarations-contract : Contract 𝓤
  declarations-contract = triple_of 𝓛 declarations'.signature (declarations'.spec 𝓛 𝓜.mem 𝓡.returns)

  pub declarations-at-size : Wired 𝓡.env declarations-def.code → (z : declarations-contract.Ghost) → ent 𝓤 (declarations-contract.pre z) (C declarations-def.name (declarations-contract.args z) (declarations-contract.post z))
  declarations-at-size w = cited 𝓤 𝓛.H declarations-contract 𝓜 𝓡 𝓡.env declarations-def.name (𝓡.env declarations-def.name) refl (declarations-thm.met 𝓤 𝓛 𝓜 𝓡 w)

  abbrev statement-contract : Contract 𝓤
  statement-contract = triple_of 𝓛 statement'.signature (statement'.spec 𝓛 𝓜.mem 𝓡.returns)

  pub statement-at-size : Wired 𝓡.env statement-def.code → (z : statement-contract.Ghost) → ent 𝓤 (statement-contract.pre z) (C statement-def.name (statement-contract.args z) (statement-contract.post z))
  statement-at-size w = cited 𝓤 𝓛.H statement-contract 𝓜 𝓡 𝓡.env statement-def.name (𝓡.env statement-def.name) refl (statement-thm.met 𝓤 𝓛 𝓜 𝓡 w)

  abbrev statements-contract : Contract 𝓤
  statements-contract = triple_of 𝓛 statements'.signature (statements'.spec 𝓛 𝓜.mem 𝓡.returns)

  pub statements-at-size : Wired 𝓡.env statements-def.code → (z : statements-contract.Ghost) → ent 𝓤 (statements-contract.pre z) (C statements-def.name (statements-contract.args z) (statements-contract.post z))
  statements-at-size w = cited 𝓤 𝓛.H statements-contract 𝓜 𝓡 𝓡.env statements-def.name (𝓡.env statements-def.name) refl (statements-thm.met 𝓤 𝓛 𝓜 𝓡 w)
