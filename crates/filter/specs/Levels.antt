-- What was read of an expression so far (own).
use Rattle.std.specs.Prelude.{ℕ, ◌+◌, List, [], ◌∷◌, ◌++◌, Result, Ok, Err, ◌==◌, if◌then◌else◌}
use Rattle.filter.specs.declared.error.Fault.{Fault}
use Rattle.filter.specs.declared.error.Fault.TheVariants.{Depth, Unopened, Unclosed}
use Rattle.filter.specs.FilterTree.{FilterTree, all_of, any_of, with_nots}

-- of an expression, or of what stands in parentheses: the lists of `and` that an `or` ended, the filters of the last one, and
-- how many `not` stand before the next filter
pub record LevelTree : Type 0 where
  pub alls : List FilterTree
  pub ones : List FilterTree
  pub nots : ℕ

abbrev pub empty_level : LevelTree
empty_level = record { alls = []; ones = []; nots = 0 }

abbrev pub with_not : LevelTree → LevelTree
with_not l = record { alls = l.alls; ones = l.ones; nots = l.nots + 1 }

-- a filter ends the `not` that stand before it
abbrev pub with_one : LevelTree → FilterTree → LevelTree
with_one l f = record { alls = l.alls; ones = l.ones ++ with_nots l.nots f ∷ []; nots = 0 }

-- an `or` ends a list of `and`
abbrev pub with_or : LevelTree → LevelTree
with_or l = record { alls = l.alls ++ all_of l.ones ∷ []; ones = []; nots = l.nots }

abbrev pub filter_of : LevelTree → FilterTree
filter_of l = any_of (l.alls ++ all_of l.ones ∷ [])

-- the levels around what is read, the innermost first, and that level itself
pub record Nest : Type 0 where
  pub outer : List LevelTree
  pub inner : LevelTree

abbrev pub empty_nest : Nest
empty_nest = record { outer = []; inner = empty_level }

-- how many `(` and `not` are open around a level
abbrev pub count_open : List LevelTree → ℕ
count_open [] = 0
count_open (l ∷ ls) = l.nots + count_open ls + 1

abbrev pub open_in : Nest → ℕ
open_in n = n.inner.nots + count_open n.outer

-- the most `(` and `not` that are open at once
abbrev pub max_open : ℕ
max_open = 64

abbrev pub if_room : Nest → Nest → Result Nest Fault
if_room old new = if open_in old == max_open then Err Depth else Ok new

-- after `(`
abbrev pub nest_open : Nest → Result Nest Fault
nest_open n = if_room n (record { outer = n.inner ∷ n.outer; inner = empty_level })

-- after `not`
abbrev pub nest_not : Nest → Result Nest Fault
nest_not n = if_room n (record { outer = n.outer; inner = with_not n.inner })

-- after a filter
abbrev pub nest_one : Nest → FilterTree → Nest
nest_one n f = record { outer = n.outer; inner = with_one n.inner f }

-- after `or`
abbrev pub nest_or : Nest → Nest
nest_or n = record { outer = n.outer; inner = with_or n.inner }

abbrev pub close_into : List LevelTree → FilterTree → Result Nest Fault
close_into [] f = Err Unopened
close_into (l ∷ ls) f = Ok (record { outer = ls; inner = with_one l f })

-- after `)`
abbrev pub nest_close : Nest → Result Nest Fault
nest_close n = close_into n.outer (filter_of n.inner)

abbrev pub ended_in : List LevelTree → FilterTree → Result FilterTree Fault
ended_in [] f = Ok f
ended_in (l ∷ ls) f = Err Unclosed

-- at the end
abbrev pub nest_end : Nest → Result FilterTree Fault
nest_end n = ended_in n.outer (filter_of n.inner)
