-- The definitions' engine for each of those that programs name, with the area that a call gives it.
use Rattle.language.specs.Call as Call
use Rattle.program_engines.specs.declared.Engine.{Engine}
use Rattle.program_engines.specs.declared.Engine.TheVariants.{Copy, Chain, Display, Search}

abbrev pub engine_named : Engine → Call.Engine
engine_named Copy = Call.copying 65536
engine_named Chain = Call.chain 256
engine_named Display = Call.display
engine_named Search = Call.search
