use Rattle.outbox.proofs.Merges.{places_all, places_each}
use Rattle.outbox.proofs.laws.places_rise.Goals as goal

pub returns : goal.returns
returns c = record { all = places_all; each = places_each }
