use Rattle.owners.specs.Registry.{max_names}
use Rattle.owners.proofs.FreeSlots.{free_from_start}
use Rattle.owners.proofs.holdings.Holdings.new.Goals as goal

pub invariant_of-result : goal.invariant_of-result
invariant_of-result c = free_from_start max_names c.in_ok-slots.slots.items c.in_ok-slots.ensures
