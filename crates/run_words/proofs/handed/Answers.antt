use Rattle.std.proofs.Common.{rules, arith, pos, get_or, w32, FitsSigned, ◌∙◌}
use mir.Facts.{to_z-of_z}
use Rattle.run_words.proofs.Signs.{read_back}
use Rattle.run_words.proofs.Kept.{handed-direct, handed-formal}
use Rattle.run_words.proofs.handed.Goals as goal

pub returns-then-formal_of-eq0 : goal.returns-then-formal_of-eq0
returns-then-formal_of-eq0 c =
    read_back c.word_of.result c.word_of.type_inv ∙ c.word_of.ensures
    ∙ handed-direct c.args.cells.now c.args.word c.args.cell c.formal_of.ensures.0 (omega arith) c.target_of.ensures c.held_word.ensures

pub returns : goal.returns
returns c =
    let f : FitsSigned w32 (get_or c.args.cells.now c.args.cell (pos 0)) = search rules in
    to_z-of_z f ∙ handed-formal c.args.cells.now c.args.word c.args.cell c.formal_of.ensures.0 (λ e. omega arith)
