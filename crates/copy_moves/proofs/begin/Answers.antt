-- What the script's fill leaves is what the renewing and the copying ask, and what they make is what `BegunIn` says (`Beginning`).
use Rattle.std.proofs.Common.{ap, ◌∙◌}
use Rattle.resolved.specs.Layout.{names_in, end_in, first_in}
use Rattle.copy_moves.proofs.Beginning.{start-renewable, start-copyable, begun}
use Rattle.copy_moves.proofs.begin.Goals as goal

pub renew-requires : goal.renew-requires
renew-requires c = start-renewable c.requires c.fill.ensures.area_len_unchanged c.code_at.ensures.0

pub copy_text-requires : goal.copy_text-requires
copy_text-requires c =
    start-copyable c.requires c.fill.ensures.area_len_unchanged (c.end_of-end.ensures.0 ∙ ap end_in c.code_at-bounds.ensures.0)

pub returns : goal.returns
returns c =
    begun c.requires c.fill.ensures.area_len_unchanged (c.end_of-end.ensures.0 ∙ ap end_in c.code_at-bounds.ensures.0)
    (c.first_of.ensures ∙ ap first_in c.code_at-bounds.ensures.0)
    (c.names_of.ensures ∙ ap names_in c.code_at-head.ensures.0) c.code_at.ensures.0 c.fill.ensures.by_index c.renew.ensures
    c.copy_text.ensures.copied c.copy_text.ensures.targets_after
