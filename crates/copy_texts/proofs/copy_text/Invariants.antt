-- The words up to q are copied, and noting the others gives what noting all gives.
use Rattle.std.proofs.Common.{◌-◌, ◌≡◌}
use Rattle.copy_texts.specs.Texts.{Copied, noted_from}
use Rattle.copy_texts.proofs.copy_text.Given as goal

abbrev pub invariant-loop-q : goal.invariant-loop-q
invariant-loop-q l = record {
  copied : Copied l.fn.area l.area l.names l.from l.to l.given l.level l.first l.place l.q;
  noted : noted_from l.targets l.names l.lowest l.level l.q (l.end - l.q) ≡ noted_from l.fn.targets l.names l.lowest l.level l.place (l.end - l.place);
}
