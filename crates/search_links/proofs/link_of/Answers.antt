use Rattle.search_links.proofs.Steps.{from-there, encloses}
use Rattle.search_links.proofs.link_of.Goals as goal

pub shallower-requires : goal.shallower-requires
shallower-requires c = from-there c.requires.0 c.requires.1 c.onward.ensures

pub returns : goal.returns
returns c = encloses _ _ _ _ c.requires.0 c.requires.1 c.onward.ensures c.level_at.ensures c.shallower.ensures
