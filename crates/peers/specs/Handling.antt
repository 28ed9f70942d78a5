-- Where a client's message goes (D-Bus Specification, "Message Bus Message Routing").
use Rattle.std.specs.Prelude.{ℕ, ◌≡◌, ◌⊎◌, Bool, true, false, ◌&&◌, List, Option, Some, None, Result, Ok, Err}
use Rattle.std.specs.Str.{bytes_eq}
use Rattle.signature.specs.Name.{bus_name}
use Rattle.outbox.specs.Seated.{OutboxId}
use Rattle.message_view.specs.declared.kind.Kind.{Kind}
use Rattle.message_view.specs.declared.kind.Kind.TheVariants as kinds
use Rattle.message_view.specs.Message.{Message, destination_of}
use Rattle.message_view.specs.Valid.{Valid}
use Rattle.bus_messages.specs.declared.call.Call.{Call}
use Rattle.bus_messages.specs.declared.call.CallError.{CallError}
use Rattle.bus_messages.specs.Calls.{IsReadAs}
use Rattle.bus_messages.specs.CallErrors.{error_name_of}
use Rattle.peers.specs.Answers.{IsRefused}
use Rattle.peers.specs.Calling.{HasSent}
use Rattle.peers.specs.Passing.{HasBroadcast, IsRequestOf, is_call}
use Rattle.peers.specs.PeerState.{PeerState}
use Rattle.peers.specs.Table.{Performs}
use Rattle.peers.specs.declared.error.AnswerError.{AnswerError}
use Rattle.peers.specs.declared.error.AnswerError.TheVariants.{Monitor}
use Rattle.peers.specs.declared.refused.Refused.TheVariants.{Error}
use Rattle.peers.specs.declared.request.Request.{Request}
use Rattle.peers.specs.declared.shares.Shares.{Shares}

-- whether the D-Bus Specification has this kind of messages
abbrev pub is_known : Kind → Bool
is_known (kinds.Other code) = false
is_known _ = true

abbrev pub is_signal : Kind → Bool
is_signal kinds.Signal = true
is_signal _ = false

-- a message without a destination, or with that of the bus, may be for the bus
abbrev pub names_bus : Option (List ℕ) → Bool
names_bus None = true
names_bus (Some name) = bytes_eq name bus_name

-- a call of the bus itself
abbrev pub is_for_bus : Message → Bool
is_for_bus m = is_call m.kind && names_bus (destination_of m)

module _ {M : Type 0} where
  -- The bus understands the call, and does what the table of methods says; or it is refused with the error of the reading.
  abbrev pub CallsBus : (M → OutboxId) → Shares → Message → PeerState M → Result (Unit {0}) AnswerError → PeerState M → Type 0
  CallsBus outbox_of shares m v result w =
      (request : Request) × IsRequestOf m request
      × (((call : Call) × IsReadAs m (Ok call) × Performs outbox_of shares request call v result w)
      ⊎ ((error : CallError) × IsReadAs m (Err error) × IsRefused request (Error (error_name_of error)) v result w))

  -- a message that isn't for the bus, by whether its kind is known, whether it is a signal, and its destination
  abbrev pub PassesOn : (M → OutboxId) → Shares → List ℕ → Bool → Bool → Option (List ℕ) → PeerState M → Result (Unit {0}) AnswerError → PeerState M → Type 0
  PassesOn outbox_of shares bytes known true None v result w = HasBroadcast outbox_of bytes v result w
  PassesOn outbox_of shares bytes known false None v result w = (result ≡ Ok tt) × (w ≡ v)
  PassesOn outbox_of shares bytes true signal (Some to) v result w = HasSent outbox_of shares bytes to v result w
  PassesOn outbox_of shares bytes false signal (Some to) v result w = (result ≡ Ok tt) × (w ≡ v)

  abbrev pub HandledAs : (M → OutboxId) → Shares → List ℕ → Message → Bool → PeerState M → Result (Unit {0}) AnswerError → PeerState M → Type 0
  HandledAs outbox_of shares bytes m true v result w = CallsBus outbox_of shares m v result w
  HandledAs outbox_of shares bytes m false v result w = PassesOn outbox_of shares bytes (is_known m.kind) (is_signal m.kind) (destination_of m) v result w

  -- A client that watches the bus may send nothing; its pass is closed.
  abbrev pub HandledOf : (M → OutboxId) → Bool → Shares → List ℕ → PeerState M → Result (Unit {0}) AnswerError → PeerState M → Type 0
  HandledOf outbox_of true shares bytes v result w = (result ≡ Err Monitor) × (w ≡ v)
  HandledOf outbox_of false shares bytes v result w = (m : Message) → Valid bytes m → HandledAs outbox_of shares bytes m (is_for_bus m) v result w

  -- A message of these bytes is handled: a call of the bus is answered, a signal without destination is a broadcast, another
  -- message with a destination goes there, and all else is dropped. What the client takes of the bus is within these shares.
  abbrev pub Handles : (M → OutboxId) → Shares → List ℕ → PeerState M → Result (Unit {0}) AnswerError → PeerState M → Type 0
  Handles outbox_of shares bytes v result w = HandledOf outbox_of v.pass.is_closed shares bytes v result w
