-- `search_numbers::number_at` meets its contract. Assumes nothing.
use borrow.Author.Rules.{rules}
use Rattle.search_numbers.proofs.Words.{number-from}
use Rattle.search_numbers.proofs.number_at.Goals as goal

pub returns : goal.returns
returns c = search (rules, number-from)
