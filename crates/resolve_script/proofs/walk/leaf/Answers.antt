-- `resolve_script::walk::leaf` meets its contract. Assumes nothing.
use Rattle.resolve_script.proofs.Records.{variable-written, label-written, action-written, onward-alone}
use borrow.Author.Rules.{rules}
use Rattle.resolve_script.proofs.walk.leaf.Goals as goal

pub returns-in-21078-clause-written : goal.returns-in-21078-clause-written
returns-in-21078-clause-written c = search (rules, variable-written)

pub returns-in-16972-clause-written : goal.returns-in-16972-clause-written
returns-in-16972-clause-written c = search (rules, label-written)

pub returns-in_default-clause-written : goal.returns-in_default-clause-written
returns-in_default-clause-written c = search (rules, action-written)

pub returns-in_default-clause-onward : goal.returns-in_default-clause-onward
returns-in_default-clause-onward c = search (rules, onward-alone)
