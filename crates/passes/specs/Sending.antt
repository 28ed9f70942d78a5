-- Inner: what a pass's messages are sent by.
use Rattle.std.specs.Prelude.{◌≡◌, ◌≢◌, ℕ, List, [], Option, Some, None}
use Rattle.routing.specs.SenderView.{RecipientSeatView, SenderView}
use Rattle.passes.specs.Passes.{PassState}

module _ {M : Type 0} where
  -- what the pass's messages are sent by; before the first message it has no seats
  abbrev pub sending : PassState M → SenderView
  sending v = record { origin = v.connection; count = v.count; recipient_seats = v.recipient_seats }

-- the count of the last broadcast, 0 before the first
abbrev pub count_in : Option SenderView → ℕ
count_in None = 0
count_in (Some s) = s.count

abbrev pub recipient_seats_in : Option SenderView → List RecipientSeatView
recipient_seats_in None = []
recipient_seats_in (Some s) = s.recipient_seats

-- the sender is the connection's
abbrev pub SendsFor : ℕ → Option SenderView → Type 0
SendsFor connection None = Unit {0}
SendsFor connection (Some s) = (s.origin ≡ connection) × (connection ≢ 0)
