use Rattle.std.proofs.Common.{subst}
use Rattle.entry_table.specs.Entries.{AreEntries}
use Rattle.entry_table.proofs.Finding.{AreEntries-held}
use Rattle.entry_table.proofs.table.EntryTable.last_id.Goals as goal

pub returns-clause-sound : goal.returns-clause-sound
returns-clause-sound c = subst AreEntries c.self.view_is (AreEntries-held c.self.inside.slab c.self.inside.last c.self.inside.count c.self.invariant)
