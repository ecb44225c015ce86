-- By whether the name has a word.
use Rattle.std.proofs.Common.{◌-◌, sym, ap, ◌∙◌, arith}
use Rattle.chain_links.specs.Running.{links-none-to, links-some-to}
use Rattle.chain_links.proofs.links_to.Goals as goal

pub returns-then-word-eq0 : goal.returns-then-word-eq0
returns-then-word-eq0 c = (sym (links-none-to c.args.here.level c.args.word c.if-word-eq0.true), omega arith)

pub returns : goal.returns
returns c =
    let s = c.args in
    (ap (λ n. s.here.level - n) c.level_of.ensures.0 ∙ sym (links-some-to s.here.level s.word c.if-word-eq0.false), omega arith)
