-- Both words of the answer are those of the check's verdict.
use Rattle.std.proofs.Common.{rules}
use Rattle.check_call.proofs.Words.{fit_words, refused-words}
use Rattle.check_call.proofs.call.Goals as goal

pub returns-in-Ok : goal.returns-in-Ok
returns-in-Ok c = search (rules, fit_words)

pub returns-in-Err : goal.returns-in-Err
returns-in-Err c = search (rules, refused-words)
