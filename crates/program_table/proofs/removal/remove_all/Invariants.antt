use Rattle.std.proofs.Common.{length}
use Rattle.program_table.specs.Ties.{registrations_of, AreTied}
use Rattle.program_table.specs.Removal.{AreSomeGone}
use Rattle.program_table.proofs.removal.remove_all.Given as goal

abbrev pub invariant-theirs : goal.invariant-theirs
invariant-theirs l = AreTied l.names l.entries × AreSomeGone l.connection (registrations_of l.initial.names l.initial.entries) (registrations_of l.names l.entries)

abbrev pub decreases-theirs : goal.decreases-theirs
decreases-theirs l = length l.entries.entries
