-- What was read of the block is its `Head`; what is asked on the way, and what is made, follow from it (`Entering`).
use Rattle.std.proofs.Common.{ap, ◌∙◌}
use Rattle.resolved.specs.Resolved.{level_in}
use Rattle.resolved.specs.Layout.{formals_in, names_in, end_in, first_in}
use Rattle.copy_entry.proofs.Entering.{Head, renewable, copyable, entered}
use Rattle.copy_entry.proofs.enter.Goals as goal

pub renew-requires : goal.renew-requires
renew-requires c =
    let e = c.code_at-head.ensures.0 in
    let h : Head c.args.code.now c.args.body c.level_of-level.result c.formals_of-formals.result c.names_of-count.result c.code_at-word.result = record {
      level-is = c.level_of-level.ensures.0 ∙ ap level_in e;
      formals-is = c.formals_of-formals.ensures.0 ∙ ap formals_in e;
      count-is = c.names_of-count.ensures ∙ ap names_in e;
      word-is = c.code_at-word.ensures.0;
    } in
    renewable c.requires h

pub copy_text-requires : goal.copy_text-requires
copy_text-requires c =
    let e = c.code_at-head.ensures.0 in
    let h : Head c.args.code.now c.args.body c.level_of-level.result c.formals_of-formals.result c.names_of-count.result c.code_at-word.result = record {
      level-is = c.level_of-level.ensures.0 ∙ ap level_in e;
      formals-is = c.formals_of-formals.ensures.0 ∙ ap formals_in e;
      count-is = c.names_of-count.ensures ∙ ap names_in e;
      word-is = c.code_at-word.ensures.0;
    } in
    copyable c.requires h (c.end_of-end.ensures.0 ∙ ap end_in c.code_at-bounds.ensures.0)

pub returns : goal.returns
returns c =
    let e = c.code_at-head.ensures.0 in
    let h : Head c.args.code.now c.args.body c.level_of-level.result c.formals_of-formals.result c.names_of-count.result c.code_at-word.result = record {
      level-is = c.level_of-level.ensures.0 ∙ ap level_in e;
      formals-is = c.formals_of-formals.ensures.0 ∙ ap formals_in e;
      count-is = c.names_of-count.ensures ∙ ap names_in e;
      word-is = c.code_at-word.ensures.0;
    } in
    entered c.requires h (c.end_of-end.ensures.0 ∙ ap end_in c.code_at-bounds.ensures.0) (c.first_of.ensures ∙ ap first_in c.code_at-bounds.ensures.0)
    c.note.ensures c.note_names.ensures c.renew.ensures c.copy_text.ensures.copied c.copy_text.ensures.targets_after c.clear.ensures
