use Rattle.std.proofs.Common.{◌≡◌, ℕ, nat_lt}
use Rattle.summary.specs.Sets.{has_slot, IsSet}
use Rattle.filter_reasons.proofs.slots.first_slots.Given as goal

abbrev pub invariant-loop-slot : goal.invariant-loop-slot
invariant-loop-slot l = IsSet l.slots × ((other : ℕ) → has_slot l.slots other ≡ nat_lt other l.slot)
