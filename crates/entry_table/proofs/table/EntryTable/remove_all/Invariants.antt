use Rattle.std.proofs.Common.{◌≡◌, length}
use Rattle.entry_table.specs.Entries.{is_of, entries_but}
use Rattle.entry_table.proofs.table.EntryTable.remove_all.Given as goal

-- the entries of the others are as they were
abbrev pub invariant-theirs : goal.invariant-theirs
invariant-theirs l = entries_but (is_of l.connection) l.self ≡ entries_but (is_of l.connection) l.initial.self

abbrev pub decreases-theirs : goal.decreases-theirs
decreases-theirs l = length l.self.entries
