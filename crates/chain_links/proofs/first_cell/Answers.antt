-- The links that are followed lead where the lists' do, and no link leads to the innermost activation's own cell.
use Rattle.std.proofs.Common.{ℕ, ◌*◌, ◌<◌, sym, ap, ◌∙◌, arith, rules}
use Rattle.arrays.proofs.Names.{follow}
use Rattle.chain_links.specs.Records.{as-linked, hop-follows, links_in}
use Rattle.chain_links.proofs.first_cell.Goals as goal

pub follow-requires : goal.follow-requires
follow-requires c = as-linked c.requires.0.seen.linked

pub overflow_mul-result : goal.overflow_mul-result
overflow_mul-result c =
    let few : c.follow.result < 256 = omega (arith, c.follow.ensures.1, c.requires.0.seen.linked.room.few) in
    search rules

pub returns-then-count-eq0 : goal.returns-then-count-eq0
unfolding follow
returns-then-count-eq0 c =
    c.requires.1 ∙ ap (λ (k : ℕ). 32 * follow (links_in c.args.records.now) c.args.here.live k) (sym c.if-count-eq0.true ∙ c.hops-count.ensures)

pub returns : goal.returns
returns c =
    let live = c.args.here.live in
    ap (λ (m : ℕ). 32 * m) (c.follow.ensures.0 ∙ hop-follows c.requires.0.seen.linked live c.hops-count.result (omega arith)
    ∙ ap (λ (m : ℕ). follow (links_in c.args.records.now) live m) c.hops-count.ensures)
