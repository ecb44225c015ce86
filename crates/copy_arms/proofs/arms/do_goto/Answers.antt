-- `do_goto` meets its contract.
use Rattle.copy_arms.proofs.arms.do_goto.Goals as goal

pub returns : goal.returns
returns c = rw (c.target.ensures.0, c.activation_of.ensures, c.named-label.ensures)
