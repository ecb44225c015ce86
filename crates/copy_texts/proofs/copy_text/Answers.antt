-- One word more is copied and noted; at the end no other is left.
use Rattle.std.proofs.Common.{arith, ◌∙◌}
use Rattle.copy_texts.proofs.Going.{notes-done, notes-more, copied_more}
use Rattle.copy_texts.proofs.copy_text.Goals as goal

pub loop-q-preserved : goal.loop-q-preserved
loop-q-preserved c =
    let l = c.loop-q in
    let s = c.args in
    record {
      copied = copied_more _ _ _ _ _ _ _ _ _ _ c.requires l.area l.q (omega arith) c.loop-q-test.true l.invariant.copied
          c.from_u32-word.result c.renew.result c.from_u32-word.ensures.0 c.renew.ensures;
      noted = notes-more s.names.now s.lowest s.level l.targets c.note.new.targets l.q s.end c.from_u32-word.result
          c.loop-q-test.true c.from_u32-word.ensures.0 c.note.ensures ∙ l.invariant.noted;
    }

pub returns-clause-targets_after : goal.returns-clause-targets_after
returns-clause-targets_after c =
    let l = c.loop-q in
    notes-done c.args.names.now c.args.lowest c.args.level l.targets l.q c.args.end c.loop-q-test.false ∙ l.invariant.noted
