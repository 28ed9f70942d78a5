-- Inner: a reader without where its filters lie in memory.
use Rattle.filter.specs.declared.nesting.Nesting.{Nesting}
use Rattle.filter.specs.declared.reader.Reader.{Reader}
use Rattle.filter.specs.LevelViews.{nest_of}
use Rattle.filter.specs.Levels.{Nest}
use Rattle.filter.specs.Steps.{State}

abbrev pub nest_in : Nesting → Nest
nest_in n = nest_of n.outer.items n.inner

abbrev pub state_of : Reader → State
state_of r = record { wanted = r.wanted; nest = nest_in r.nesting }
