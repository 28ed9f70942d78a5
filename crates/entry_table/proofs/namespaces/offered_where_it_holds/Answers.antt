use Rattle.entry_table.proofs.NamespacesFound.{fits_where_it_holds}
use Rattle.entry_table.proofs.namespaces.offered_where_it_holds.Goals as goal

pub returns : goal.returns
returns c = fits_where_it_holds
