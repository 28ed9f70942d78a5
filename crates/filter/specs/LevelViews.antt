-- Inner: levels without where their filters lie in memory.
use Rattle.std.specs.Prelude.{List, map, reverse}
use Rattle.filter.specs.declared.level.Level.{Level}
use Rattle.filter.specs.Filters.{tree_of}
use Rattle.filter.specs.Levels.{LevelTree, Nest}

abbrev pub level_of : Level → LevelTree
level_of l = record { alls = map tree_of l.alls.items; ones = map tree_of l.ones.items; nots = l.nots }

-- the levels around one, the innermost last, and that one
abbrev pub nest_of : List Level → Level → Nest
nest_of outer inner = record { outer = reverse (map level_of outer); inner = level_of inner }
