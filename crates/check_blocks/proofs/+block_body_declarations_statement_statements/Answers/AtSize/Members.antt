-- The contracts of the cycle's members, their sizes, and between them and a derivation's plain contracts (`AnyTables`).
--     Below            a member's contract, at one choice of arguments each, where its size is below n
--     NAME-contract, NAME-size    a member's contract, and its size at what the contract binds
--     NAME-below       what a derivation takes of a member that it calls, from the member's contract at smaller sizes
--     NAME-met         the member's contract at one choice of arguments, from its derivation's
-- Assumes `Logic`.
use Prim.Native.Nat.{ℕ, ◌<◌}
use mathlib.Core.Path.{refl}
use seplogic.Ra.Ura.{Ura}
use base.Logic.{SProp, ent}
use prog.Memory.{Memory}
use prog.Routine.{Routine}
use prog.Wp.{WpFn, Tables}
use types.Logic.{Logic}
use contract.Monad.{fact_i, fact_mono, Fun}
use sound.WpLaws.{WpFn-mono, fm_of}
use denote.Triple.Spec.{triple_of}
use denote.Triple.Statement.{Contract, Triple}
use borrow.Fn.Plain.{Known, plain_of}
use Rattle.check_blocks.proofs.AnyTables.{two, both, known_at, met_at}
use Rattle.check_blocks.proofs.Sizes as sizes
use Rattle.check_blocks.proofs.+block_body_declarations_statement_statements.Code as mine
use Rattle.check_blocks.proofs.+block_body_declarations_statement_statements.Goals as goals
use Rattle.check_blocks.specs.contracts.block as block
use Rattle.check_blocks.specs.contracts.block.Key.{name as #block}
use Rattle.check_blocks.proofs.block.Reads as block-reads
use Rattle.check_blocks.proofs.block.Kinds as block-kinds
use Rattle.check_blocks.specs.contracts.body as body
use Rattle.check_blocks.specs.contracts.body.Key.{name as #body}
use Rattle.check_blocks.proofs.body.Reads as body-reads
use Rattle.check_blocks.proofs.body.Kinds as body-kinds
use Rattle.check_blocks.specs.contracts.declarations as declarations
use Rattle.check_blocks.specs.contracts.declarations.Key.{name as #declarations}
use Rattle.check_blocks.proofs.declarations.Reads as declarations-reads
use Rattle.check_blocks.proofs.declarations.Kinds as declarations-kinds
use Rattle.check_blocks.specs.contracts.statement as statement
use Rattle.check_blocks.specs.contracts.statement.Key.{name as #statement}
use Rattle.check_blocks.proofs.statement.Reads as statement-reads
use Rattle.check_blocks.proofs.statement.Kinds as statement-kinds
use Rattle.check_blocks.specs.contracts.statements as statements
use Rattle.check_blocks.specs.contracts.statements.Key.{name as #statements}
use Rattle.check_blocks.proofs.statements.Reads as statements-reads
use Rattle.check_blocks.proofs.statements.Kinds as statements-kinds

module _ {M : Type 1} {𝓤 : Ura M} (𝓛 : Logic 𝓤) (mem : Memory → SProp 𝓤) (run : Routine → Fun 𝓤) where
  open 𝓛 use {H}

  abbrev pub Below : (c : Contract 𝓤) → (c.Ghost → ℕ) → Fun 𝓤 → ℕ → Type 1
  Below c size f n = (y : c.Ghost) → size y < n → ent 𝓤 (c.pre y) (f (c.args y) (c.post y))

  abbrev pub block-contract : Contract 𝓤
  block-contract = triple_of 𝓛 block.signature (block.spec 𝓛 mem run)

  abbrev pub block-size : block-contract.Ghost → ℕ
  block-size y = sizes.block_size y.0.3.0.now y.0.3.1.0.now y.0.3.1.1.0 y.0.3.1.1.1.0 y.0.3.1.1.1.1.0 y.0.3.1.1.1.1.1.0 y.0.3.1.1.1.1.1.1.0 y.0.3.1.1.1.1.1.1.1.0

  pub block-below : (𝓣 : Tables 𝓤 H) (n : ℕ) → Below block-contract block-size (𝓣.C #block) n → Known 𝓛 𝓣 2 block-kinds.ps block-kinds.r (goals.block-below n) block-reads.Post #block
  block-below 𝓣 n known y = known_at 𝓛 2 block-kinds.ps block-kinds.r (λ κs a. (block.clauses 𝓛 mem run κs a).requires tt) (λ κs a x e. (block.clauses 𝓛 mem run κs a).ensures tt x e)
      (goals.block-below n) block-reads.Post y.0 (𝓣.C #block) (λ x ws. both 𝓤 _ _ _ (λ p q. (p, q))) (λ p. fact_i 𝓤 _ _ p.1) (fm_of 𝓤 H 𝓛.laws 𝓣 #block) (λ p. known y p.0)

  pub block-met : (𝓣 : Tables 𝓤 H) (z : block-contract.Ghost) → Triple 𝓤 (WpFn 𝓤 H 𝓣.C 𝓣.Λ mine.block-function) (plain_of 𝓛 2 block-kinds.ps block-kinds.r (goals.block-at (block-size z)) block-reads.Post)
      → ent 𝓤 (block-contract.pre z) (WpFn 𝓤 H 𝓣.C 𝓣.Λ mine.block-function (block-contract.args z) (block-contract.post z))
  block-met 𝓣 z met = met_at 𝓛 2 block-kinds.ps block-kinds.r (λ κs a. (block.clauses 𝓛 mem run κs a).requires tt) (λ κs a x e. (block.clauses 𝓛 mem run κs a).ensures tt x e)
      (goals.block-at (block-size z)) block-reads.Post z.0 (WpFn 𝓤 H 𝓣.C 𝓣.Λ mine.block-function) (λ x ws q. two 𝓤 _ _ q.0 q.1) (fact_mono 𝓤 _ _ (λ p. (refl, p)))
      (WpFn-mono 𝓤 H 𝓛.laws 𝓣 mine.block-function) (met (z.0, tt))

  abbrev pub body-contract : Contract 𝓤
  body-contract = triple_of 𝓛 body.signature (body.spec 𝓛 mem run)

  abbrev pub body-size : body-contract.Ghost → ℕ
  body-size y = sizes.body_size y.0.3.0.now y.0.3.1.0.now y.0.3.1.1.0 y.0.3.1.1.1.0 y.0.3.1.1.1.1.0 y.0.3.1.1.1.1.1.0

  pub body-below : (𝓣 : Tables 𝓤 H) (n : ℕ) → Below body-contract body-size (𝓣.C #body) n → Known 𝓛 𝓣 2 body-kinds.ps body-kinds.r (goals.body-below n) body-reads.Post #body
  body-below 𝓣 n known y = known_at 𝓛 2 body-kinds.ps body-kinds.r (λ κs a. (body.clauses 𝓛 mem run κs a).requires tt) (λ κs a x e. (body.clauses 𝓛 mem run κs a).ensures tt x e)
      (goals.body-below n) body-reads.Post y.0 (𝓣.C #body) (λ x ws. both 𝓤 _ _ _ (λ p q. (p, q))) (λ p. fact_i 𝓤 _ _ p.1) (fm_of 𝓤 H 𝓛.laws 𝓣 #body) (λ p. known y p.0)

  pub body-met : (𝓣 : Tables 𝓤 H) (z : body-contract.Ghost) → Triple 𝓤 (WpFn 𝓤 H 𝓣.C 𝓣.Λ mine.body-function) (plain_of 𝓛 2 body-kinds.ps body-kinds.r (goals.body-at (body-size z)) body-reads.Post)
      → ent 𝓤 (body-contract.pre z) (WpFn 𝓤 H 𝓣.C 𝓣.Λ mine.body-function (body-contract.args z) (body-contract.post z))
  body-met 𝓣 z met = met_at 𝓛 2 body-kinds.ps body-kinds.r (λ κs a. (body.clauses 𝓛 mem run κs a).requires tt) (λ κs a x e. (body.clauses 𝓛 mem run κs a).ensures tt x e)
      (goals.body-at (body-size z)) body-reads.Post z.0 (WpFn 𝓤 H 𝓣.C 𝓣.Λ mine.body-function) (λ x ws q. two 𝓤 _ _ q.0 q.1) (fact_mono 𝓤 _ _ (λ p. (refl, p)))
      (WpFn-mono 𝓤 H 𝓛.laws 𝓣 mine.body-function) (met (z.0, tt))

  abbrev pub declarations-contract : Contract 𝓤
  declarations-contract = triple_of 𝓛 declarations.signature (declarations.spec 𝓛 mem run)

  abbrev pub declarations-size : declarations-contract.Ghost → ℕ
  declarations-size y = sizes.declarations_size y.0.3.0.now y.0.3.1.0.now y.0.3.1.1.0 y.0.3.1.1.1.0 y.0.3.1.1.1.1.0 y.0.3.1.1.1.1.1.0 y.0.3.1.1.1.1.1.1.0

  pub declarations-below : (𝓣 : Tables 𝓤 H) (n : ℕ) → Below declarations-contract declarations-size (𝓣.C #declarations) n → Known 𝓛 𝓣 2 declarations-kinds.ps declarations-kinds.r (goals.declarations-below n) declarations-reads.Post #declarations
  declarations-below 𝓣 n known y = known_at 𝓛 2 declarations-kinds.ps declarations-kinds.r (λ κs a. (declarations.clauses 𝓛 mem run κs a).requires tt) (λ κs a x e. (declarations.clauses 𝓛 mem run κs a).ensures tt x e)
      (goals.declarations-below n) declarations-reads.Post y.0 (𝓣.C #declarations) (λ x ws. both 𝓤 _ _ _ (λ p q. (p, q))) (λ p. fact_i 𝓤 _ _ p.1) (fm_of 𝓤 H 𝓛.laws 𝓣 #declarations) (λ p. known y p.0)

  pub declarations-met : (𝓣 : Tables 𝓤 H) (z : declarations-contract.Ghost) → Triple 𝓤 (WpFn 𝓤 H 𝓣.C 𝓣.Λ mine.declarations-function) (plain_of 𝓛 2 declarations-kinds.ps declarations-kinds.r (goals.declarations-at (declarations-size z)) declarations-reads.Post)
      → ent 𝓤 (declarations-contract.pre z) (WpFn 𝓤 H 𝓣.C 𝓣.Λ mine.declarations-function (declarations-contract.args z) (declarations-contract.post z))
  declarations-met 𝓣 z met = met_at 𝓛 2 declarations-kinds.ps declarations-kinds.r (λ κs a. (declarations.clauses 𝓛 mem run κs a).requires tt) (λ κs a x e. (declarations.clauses 𝓛 mem run κs a).ensures tt x e)
      (goals.declarations-at (declarations-size z)) declarations-reads.Post z.0 (WpFn 𝓤 H 𝓣.C 𝓣.Λ mine.declarations-function) (λ x ws q. two 𝓤 _ _ q.0 q.1) (fact_mono 𝓤 _ _ (λ p. (refl, p)))
      (WpFn-mono 𝓤 H 𝓛.laws 𝓣 mine.declarations-function) (met (z.0, tt))

  abbrev pub statement-contract : Contract 𝓤
  statement-contract = triple_of 𝓛 statement.signature (statement.spec 𝓛 mem run)

  abbrev pub statement-size : statement-contract.Ghost → ℕ
  statement-size y = sizes.statement_size y.0.3.0.now y.0.3.1.0.now y.0.3.1.1.0 y.0.3.1.1.1.0 y.0.3.1.1.1.1.0 y.0.3.1.1.1.1.1.0 y.0.3.1.1.1.1.1.1.0 y.0.3.1.1.1.1.1.1.1.0

  pub statement-below : (𝓣 : Tables 𝓤 H) (n : ℕ) → Below statement-contract statement-size (𝓣.C #statement) n → Known 𝓛 𝓣 2 statement-kinds.ps statement-kinds.r (goals.statement-below n) statement-reads.Post #statement
  statement-below 𝓣 n known y = known_at 𝓛 2 statement-kinds.ps statement-kinds.r (λ κs a. (statement.clauses 𝓛 mem run κs a).requires tt) (λ κs a x e. (statement.clauses 𝓛 mem run κs a).ensures tt x e)
      (goals.statement-below n) statement-reads.Post y.0 (𝓣.C #statement) (λ x ws. both 𝓤 _ _ _ (λ p q. (p, q))) (λ p. fact_i 𝓤 _ _ p.1) (fm_of 𝓤 H 𝓛.laws 𝓣 #statement) (λ p. known y p.0)

  pub statement-met : (𝓣 : Tables 𝓤 H) (z : statement-contract.Ghost) → Triple 𝓤 (WpFn 𝓤 H 𝓣.C 𝓣.Λ mine.statement-function) (plain_of 𝓛 2 statement-kinds.ps statement-kinds.r (goals.statement-at (statement-size z)) statement-reads.Post)
      → ent 𝓤 (statement-contract.pre z) (WpFn 𝓤 H 𝓣.C 𝓣.Λ mine.statement-function (statement-contract.args z) (statement-contract.post z))
  statement-met 𝓣 z met = met_at 𝓛 2 statement-kinds.ps statement-kinds.r (λ κs a. (statement.clauses 𝓛 mem run κs a).requires tt) (λ κs a x e. (statement.clauses 𝓛 mem run κs a).ensures tt x e)
      (goals.statement-at (statement-size z)) statement-reads.Post z.0 (WpFn 𝓤 H 𝓣.C 𝓣.Λ mine.statement-function) (λ x ws q. two 𝓤 _ _ q.0 q.1) (fact_mono 𝓤 _ _ (λ p. (refl, p)))
      (WpFn-mono 𝓤 H 𝓛.laws 𝓣 mine.statement-function) (met (z.0, tt))

  abbrev pub statements-contract : Contract 𝓤
  statements-contract = triple_of 𝓛 statements.signature (statements.spec 𝓛 mem run)

  abbrev pub statements-size : statements-contract.Ghost → ℕ
  statements-size y = sizes.statements_size y.0.3.0.now y.0.3.1.0.now y.0.3.1.1.0 y.0.3.1.1.1.0 y.0.3.1.1.1.1.0

  pub statements-below : (𝓣 : Tables 𝓤 H) (n : ℕ) → Below statements-contract statements-size (𝓣.C #statements) n → Known 𝓛 𝓣 2 statements-kinds.ps statements-kinds.r (goals.statements-below n) statements-reads.Post #statements
  statements-below 𝓣 n known y = known_at 𝓛 2 statements-kinds.ps statements-kinds.r (λ κs a. (statements.clauses 𝓛 mem run κs a).requires tt) (λ κs a x e. (statements.clauses 𝓛 mem run κs a).ensures tt x e)
      (goals.statements-below n) statements-reads.Post y.0 (𝓣.C #statements) (λ x ws. both 𝓤 _ _ _ (λ p q. (p, q))) (λ p. fact_i 𝓤 _ _ p.1) (fm_of 𝓤 H 𝓛.laws 𝓣 #statements) (λ p. known y p.0)

  pub statements-met : (𝓣 : Tables 𝓤 H) (z : statements-contract.Ghost) → Triple 𝓤 (WpFn 𝓤 H 𝓣.C 𝓣.Λ mine.statements-function) (plain_of 𝓛 2 statements-kinds.ps statements-kinds.r (goals.statements-at (statements-size z)) statements-reads.Post)
      → ent 𝓤 (statements-contract.pre z) (WpFn 𝓤 H 𝓣.C 𝓣.Λ mine.statements-function (statements-contract.args z) (statements-contract.post z))
  statements-met 𝓣 z met = met_at 𝓛 2 statements-kinds.ps statements-kinds.r (λ κs a. (statements.clauses 𝓛 mem run κs a).requires tt) (λ κs a x e. (statements.clauses 𝓛 mem run κs a).ensures tt x e)
      (goals.statements-at (statements-size z)) statements-reads.Post z.0 (WpFn 𝓤 H 𝓣.C 𝓣.Λ mine.statements-function) (λ x ws q. two 𝓤 _ _ q.0 q.1) (fact_mono 𝓤 _ _ (λ p. (refl, p)))
      (WpFn-mono 𝓤 H 𝓛.laws 𝓣 mine.statements-function) (met (z.0, tt))
