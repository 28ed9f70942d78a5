-- Names that clients ask about, and who owns them (D-Bus Specification, "Message Bus Names").
use Rattle.std.specs.Prelude.{◌≡◌, ◌≢◌, ◌⊎◌, ◌<◌, ◌^◌, ℕ, true, false, List, [], ◌∷◌, map, Option, Some, None, Result, Ok, Err, if◌then◌else◌}
use Rattle.signature.specs.Name.{is_bus_name, bus_name}
use Rattle.owners.specs.Queues.{owner_of, queue_of}
use Rattle.owners.specs.Claimable.{is_claimable}
use Rattle.unique_name.specs.UniqueNames.{unique_name}
use Rattle.router.specs.Command.{Command}
use Rattle.router.specs.Connections.{is_connected}
use Rattle.router.specs.Passes.{PassState}
use Rattle.router.specs.State.{State}
use Rattle.bus_messages.specs.declared.error_name.ErrorName.TheVariants.{InvalidArgs}
use Rattle.peers.specs.declared.refused.Refused.{Refused}
use Rattle.peers.specs.declared.refused.Refused.TheVariants.{Error, Ended}
use Rattle.peers.specs.declared.owner.AskedName.{AskedName}
use Rattle.peers.specs.declared.owner.AskedName.TheVariants as asked
use Rattle.peers.specs.declared.owner.Owner.{Owner}
use Rattle.peers.specs.declared.owner.Owner.TheVariants as whose

-- it is the unique name of this connection, or of none
abbrev pub IsNumbered : List ℕ → Option ℕ → Type 0
IsNumbered text (Some n) = text ≡ unique_name n
IsNumbered text None = (n : ℕ) → n < 2 ^ 64 → text ≢ unique_name n

-- what a text is as a bus name
abbrev pub IsAsked : List ℕ → Result AskedName Refused → Type 0
IsAsked text (Ok asked.Bus) = text ≡ bus_name
IsAsked text (Ok (asked.Unique number)) = IsNumbered text number
IsAsked text (Ok (asked.WellKnown name)) = (name ≡ text) × (is_claimable text ≡ true)
IsAsked text (Err why) = (why ≡ Error InvalidArgs) × (is_bus_name text ≡ false)

-- the connection of a number
abbrev pub connection_of : Option ℕ → Option Owner
connection_of None = None
connection_of (Some n) = Some (whose.Connection n)

module _ {M : Type 0} where
  -- Who owns a name: the bus its own; the connection of its number, where that is there, a unique one; and the first in
  -- its queue any other.
  abbrev pub owner_in : State M → AskedName → Option Owner
  owner_in s asked.Bus = Some whose.Bus
  owner_in s (asked.Unique None) = None
  owner_in s (asked.Unique (Some n)) = if is_connected n s.connections then Some (whose.Connection n) else None
  owner_in s (asked.WellKnown name) = connection_of (owner_of name s.registrations.claims)

  -- Who owns a name or waits for it, in order: the bus alone its own; the connection of its number, where that is there, a
  -- unique one; and those in its queue any other.
  abbrev pub queue_in : State M → AskedName → List (List ℕ)
  queue_in s asked.Bus = bus_name ∷ []
  queue_in s (asked.Unique None) = []
  queue_in s (asked.Unique (Some n)) = if is_connected n s.connections then unique_name n ∷ [] else []
  queue_in s (asked.WellKnown name) = map unique_name (queue_of name s.registrations.claims)

  -- the pass has seen what is published, unless the bus has ended
  abbrev pub HasLooked : Refused → List (Command M) → PassState M → Type 0
  HasLooked Ended history w = Unit {0}
  HasLooked why history w = w.seen ≡ history

  -- the owner of the name that a text is, in a state; or that it is no name, or the bus has ended
  abbrev pub IsOwnerOf : State M → List ℕ → Result (Option Owner) Refused → Type 0
  IsOwnerOf s text (Ok owner) = (name : AskedName) × IsAsked text (Ok name) × (owner ≡ owner_in s name)
  IsOwnerOf s text (Err why) = (why ≡ Ended) ⊎ IsAsked text (Err why)
