-- Names found by an engine that runs (`Running`): its way of finding them is right (`finds-by-chain`), and what it may read of a name of the next
-- statement (`reachable`), or of the looked-up one (`seen-reached`). `not_seen`, `seen-designates`, `seen-links`: what is found of the latter.
use Rattle.std.specs.Prelude.{ℕ, ◌-◌, List}
use Rattle.frames.specs.Frame.{Frame, designates, links_followed}
use Rattle.chain_links.specs.declared.Found.{Found}

-- what is found of a name
abbrev pub found_in : List Frame → ℕ → Found
found_in fs name = record { designator = designates fs name; links = links_followed fs name }
