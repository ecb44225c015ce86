-- The parts of `Entrance`, one after another.
use Rattle.std.proofs.Common.{arith, rules}
use Rattle.chain_links.proofs.Entrance.{fitting, handing, fresh-there, entered-to}
use Rattle.chain_links.proofs.entering.enter.Goals as goal

pub arguments_end-requires : goal.arguments_end-requires
arguments_end-requires c = omega (arith, c.requires.handing.there, c.requires.handing.low)

pub hand-requires : goal.hand-requires
hand-requires c = handing _ _ _ _ _ c.requires c.arguments_end.ensures

pub read-own-requires : goal.read-own-requires
read-own-requires c = (fitting _ _ _ _ _ c.requires).room-here.there

pub with_next-requires : goal.with_next-requires
with_next-requires c = omega (arith, (fitting _ _ _ _ _ c.requires).back-within)

pub push-requires : goal.push-requires
push-requires c = (fitting _ _ _ _ _ c.requires).room-here.there

pub begun-new-requires : goal.begun-new-requires
begun-new-requires c = let f = fitting _ _ _ _ _ c.requires in (f.body-within, omega (arith, f.link-high, f.room-here.few))

pub overflow_add-here : goal.overflow_add-here
overflow_add-here c = let few = (fitting _ _ _ _ _ c.requires).room_next.few in search rules

pub push-requires-2 : goal.push-requires-2
push-requires-2 c = (fresh-there _ _ _ _ _ c.requires c.read-own.result c.with_next.result c.read-own.ensures c.with_next.ensures c.push.new.records c.push.ensures).there

pub entered-requires : goal.entered-requires
entered-requires c =
    let f = fitting _ _ _ _ _ c.requires in
    rw c.begun-new.ensures (f.body-within, f.room_next.few, f.formals-few, f.names-few)

pub returns : goal.returns
returns c =
    λ w. entered-to _ _ _ _ _ w c.read-own.result c.with_next.result c.read-own.ensures c.with_next.ensures c.push.new.records c.push.ensures
    c.begun-new.result c.begun-new.ensures c.push-2.new.records c.push-2.ensures c.arguments_end.result c.arguments_end.ensures
    c.hand.new.cells c.entered.new.cells c.hand.ensures c.entered.result c.entered.ensures
