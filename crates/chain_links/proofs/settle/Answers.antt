-- What is read, followed and written is there, and what is found is what the looked-up name is.
use Rattle.std.proofs.Common.{ap, ◌∙◌, set, arith}
use Rattle.chain_records.specs.declared.Activation.{Activation}
use Rattle.chain_links.specs.Records.{as-linked, with_next}
use Rattle.chain_links.specs.Moving.{room-there, linked}
use Rattle.chain_links.proofs.Settling.{own_within, outer, reached, found}
use Rattle.chain_links.proofs.settle.Goals as goal

pub read-own-requires : goal.read-own-requires
read-own-requires c = (room-there c.requires.0.running c.args.here.live (omega arith)).there

pub looked_up-word-requires : goal.looked_up-word-requires
looked_up-word-requires c = own_within c.requires.0.running c.read-own.result c.read-own.ensures

pub links_to-requires : goal.links_to-requires
links_to-requires c = outer c.requires.0.running c.read-own.result c.read-own.ensures c.looked_up-word.result c.looked_up-word.ensures

pub follow-there-requires : goal.follow-there-requires
follow-there-requires c = as-linked (linked c.requires.0.running)

pub push-requires : goal.push-requires
push-requires c = (room-there c.requires.0.running c.args.here.live (omega arith)).there

pub found_by-requires : goal.found_by-requires
found_by-requires c =
    reached c.requires.0.running c.read-own.result c.read-own.ensures c.looked_up-word.result c.looked_up-word.ensures
    c.links_to.result c.links_to.ensures.0 c.follow-there.result c.follow-there.ensures

pub returns : goal.returns
returns c = (
  λ v. c.found_by.ensures ∙ found v.running c.read-own.result c.read-own.ensures c.looked_up-word.result c.looked_up-word.ensures
      c.links_to.result c.links_to.ensures.0 c.follow-there.result c.follow-there.ensures,
  c.push.ensures ∙ ap (set c.args.records.now c.args.here.live) (c.with_next.ensures ∙ ap (λ (a : Activation). with_next a c.args.here.at) c.read-own.ensures),
)
