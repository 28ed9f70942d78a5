-- Inner: the step of a seat that takes an item.
use Rattle.std.specs.Prelude.{◌≡◌, ℕ}
use Rattle.outbox.specs.Items.{Item}
use Rattle.outbox.specs.declared.rule.SeatView.{SeatView}
use Rattle.outbox.specs.Counts.{InOrder}
use Rattle.outbox.specs.Places.{PlacesRise}
use Rattle.outbox.specs.Views.{after_taken}

-- the list taken is longer by this item, which some seat put, and in order
abbrev pub TakesNext : SeatView → Item → SeatView → Type 0
TakesNext v x w = (seat : ℕ) × (w ≡ after_taken v (seat, x)) × InOrder w.taken × PlacesRise w.taken
