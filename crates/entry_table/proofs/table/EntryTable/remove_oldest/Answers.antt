use Rattle.std.proofs.Common.{◌∙◌}
use Rattle.entry_table.specs.declared.search.Wanted.TheVariants.{Any}
use Rattle.entry_table.specs.Entries.{is_of}
use Rattle.entry_table.specs.Searching.{is_wanted}
use Rattle.entry_table.proofs.Finding.{find-same, and-true}
use Rattle.entry_table.proofs.table.EntryTable.remove_oldest.Goals as goal

pub returns-clause-entry : goal.returns-clause-entry
returns-clause-entry c = c.take.ensures.entry ∙ find-same (is_wanted Any c.args.connection) (is_of c.args.connection) (λ e. and-true (is_of c.args.connection e)) c.args.self.now.entries
