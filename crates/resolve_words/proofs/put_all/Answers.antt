-- The words put so far stand, and one more.
use Rattle.std.proofs.Common.{arith}
use Rattle.std.proofs.lemmas.List.{take_all}
use Rattle.std.proofs.Math.Path.{subst}
use Rattle.resolve_words.specs.Growth.{Grown}
use Rattle.resolve_words.proofs.Growth.{grown-nothing, grown-further}
use Rattle.resolve_words.proofs.put_all.Goals as goal

pub loop-i-init : goal.loop-i-init
loop-i-init c = λ s. grown-nothing _ _

pub loop-i-preserved : goal.loop-i-preserved
loop-i-preserved c = λ s. grown-further c.args.words.now (omega arith) s c.put.ensures (c.loop-i.invariant s)

pub returns : goal.returns
returns c =
    λ s. subst (Grown c.args.code.now c.loop-i.code c.args.at) (take_all c.loop-i.i c.args.words.now c.loop-i-test.false) (c.loop-i.invariant s)
