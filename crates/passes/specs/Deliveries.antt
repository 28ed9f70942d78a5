-- Inner: what became of a unicast message, once the sender has its seat.
use Rattle.std.specs.Prelude.{◌≡◌, ℕ, true, false, List, Option, Some, None, Result, Ok}
use Rattle.routing.specs.SenderView.{SenderView}
use Rattle.routing.specs.RecipientSeats.{shut_at, SentTo}
use Rattle.passes.specs.declared.unicasts.Sent.{Sent}
use Rattle.passes.specs.declared.unicasts.Sent.TheVariants.{Put, Full, NoOwner}

module _ {E : Type 0} where
  -- it was put to the connection that was found, or its outbox is shut, or none was found
  abbrev pub IsDelivered : Option ℕ → Result (Option ℕ) E → List ℕ → SenderView → SenderView → Sent → Type 0
  IsDelivered place seated bytes old new (Put n) = (seated ≡ Ok (Some n)) × SentTo place n bytes true old new
  IsDelivered place seated bytes old new (Full n) = (seated ≡ Ok (Some n)) × SentTo place n bytes false old new × (shut_at n new.recipient_seats ≡ true)
  IsDelivered place seated bytes old new NoOwner = (seated ≡ Ok None) × (new ≡ old)
