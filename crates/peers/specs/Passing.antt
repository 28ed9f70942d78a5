-- What a peer passes on for its client (D-Bus Specification, "Message Bus Message Routing").
use Rattle.std.specs.Prelude.{ℕ, ◌≡◌, ◌⊎◌, Bool, true, false, ◌&&◌, ◌||◌, ◌==◌, List, [], Option, Some, None, Result, Ok, Err, MatchResult, bit_and, if◌then◌else◌}
use mathlib.Core.List.{IsPrefix}
use Rattle.outbox.specs.Seated.{OutboxId}
use Rattle.message_view.specs.declared.kind.Kind.{Kind}
use Rattle.message_view.specs.declared.kind.Kind.TheVariants.{MethodCall}
use Rattle.message_view.specs.Message.{Message}
use Rattle.message_view.specs.Valid.{Valid}
use Rattle.message_build.specs.Building.{IsTooLarge}
use Rattle.message_build.specs.Stamped.{with_sender}
use Rattle.bus_messages.specs.Sent.{no_reply_expected}
use Rattle.bus_messages.specs.declared.error_name.ErrorName.TheVariants as names
use Rattle.router.specs.BusError.{BusError}
use Rattle.router.specs.Source.TheVariants.{Own}
use Rattle.router.specs.History.{after}
use Rattle.router.specs.Recipients.{AreRecipients}
use Rattle.router.specs.Passes.{PassState}
use Rattle.router.specs.Routes.{HasRouted, HasNotPut, IsUnrouted}
use Rattle.router.specs.Unicasts.{Unicasts, IsUnsent}
use Rattle.router.specs.Sent.{Sent}
use Rattle.router.specs.Sent.TheVariants as sent
use Rattle.router.specs.Standing.TheVariants as standings
use Rattle.peers.specs.declared.error.AnswerError.{AnswerError}
use Rattle.peers.specs.declared.error.AnswerError.TheVariants.{NoMemory}
use Rattle.peers.specs.declared.request.Request.{Request}
use Rattle.peers.specs.declared.refused.Refused.{Refused}
use Rattle.peers.specs.declared.refused.Refused.TheVariants.{Error, Ended}
use Rattle.peers.specs.Answers.{IsRefused}
use Rattle.peers.specs.PeerState.{PeerState, name_of}
use Rattle.peers.specs.Refusals.{refusal_of}

-- the message of some bytes, stamped with this sender, has these bytes
abbrev pub IsStamped : List ℕ → List ℕ → List ℕ → Type 0
IsStamped bytes sender stamped = (m : Message) → Valid bytes m → Valid stamped (with_sender m sender)

-- with its sender it would be above the limits
abbrev pub IsOverLimit : List ℕ → List ℕ → Type 0
IsOverLimit bytes sender = (m : Message) → Valid bytes m → IsTooLarge (with_sender m sender)

-- whether it is a method call
abbrev pub is_call : Kind → Bool
is_call MethodCall = true
is_call _ = false

-- the serial of a message, and whether its sender waits for an answer
abbrev pub IsRequestOf : Message → Request → Type 0
IsRequestOf m request = (request.serial ≡ m.serial) × (request.wants_answer ≡ (bit_and m.flags no_reply_expected == 0))

-- what the loss of a message comes to that nobody waits for
abbrev pub loss_of : Refused → Result (Unit {0}) AnswerError
loss_of Ended = Err NoMemory
loss_of (Error names.NoMemory) = Err NoMemory
loss_of (Error _) = Ok tt

module _ {M : Type 0} where
  -- the peer with another pass
  abbrev pub with_pass : PeerState M → PassState M → PeerState M
  with_pass v pass = record v { pass = pass }

  -- what is left of a pass that is given back to the bus, which takes one that is closed or was never connected
  abbrev pub left_to_drop : PassState M → Option (PassState M)
  left_to_drop v = if v.is_closed || v.connection == 0 then None else Some v

  -- the pass has seen more, and did nothing
  abbrev pub HasSeenMore : PassState M → PassState M → Type 0
  HasSeenMore v w = IsPrefix v.seen w.seen × (w ≡ record v { seen = w.seen })

  -- the message with its sender is for nobody, after what the pass has seen
  abbrev pub IsForNobody : List ℕ → PeerState M → PassState M → Type 0
  IsForNobody bytes v w = (m : Message) → Valid bytes m → AreRecipients (after w.seen) (Some v.pass.connection) (with_sender m (name_of v)) []

  -- A broadcast of the client: it was put, stamped with the client's name, to its recipients; or nothing was put, since it
  -- is for nobody, or would be above the limits with its sender.
  abbrev pub HasBroadcast : (M → OutboxId) → List ℕ → PeerState M → Result (Unit {0}) AnswerError → PeerState M → Type 0
  HasBroadcast outbox_of bytes v (Ok _) w =
      (w ≡ with_pass v w.pass)
      × ((HasSeenMore v.pass w.pass × (IsForNobody bytes v w.pass ⊎ IsOverLimit bytes (name_of v)))
      ⊎ ((mid : PassState M) × (stamped recipients refused : List ℕ) × HasSeenMore v.pass mid × IsStamped bytes (name_of v) stamped × HasRouted standings.Apart outbox_of Own stamped mid recipients refused w.pass))
  HasBroadcast outbox_of bytes v (Err error) w =
      (error ≡ NoMemory) × (w ≡ with_pass v w.pass) × (mid : PassState M) × HasSeenMore v.pass mid × ((w.pass ≡ mid) ⊎ ((why : BusError) × IsUnrouted outbox_of why mid w.pass))

  -- A message is given up: a call whose caller waits is answered with an error, another message is dropped, but for want
  -- of memory the session ends.
  abbrev pub IsGivenUp : Bool → Request → Refused → PeerState M → Result (Unit {0}) AnswerError → PeerState M → Type 0
  IsGivenUp true request why v result w = IsRefused request why v result w
  IsGivenUp false request why v result w = (w ≡ v) × (result ≡ loss_of why)

  -- the message of these bytes is given up
  abbrev pub GivesUp : List ℕ → Refused → PeerState M → Result (Unit {0}) AnswerError → PeerState M → Type 0
  GivesUp bytes why v result w = (m : Message) → Valid bytes m → (request : Request) × IsRequestOf m request × IsGivenUp (is_call m.kind && request.wants_answer) request why v result w

  -- What comes of a message for its sender, by what became of it. It is given up if nobody owns the name, or for a fault.
  abbrev pub Concludes : List ℕ → Result Sent BusError → PeerState M → Result (Unit {0}) AnswerError → PeerState M → Type 0
  Concludes bytes (Ok sent.NoOwner) v result w = GivesUp bytes (Error names.ServiceUnknown) v result w
  Concludes bytes (Ok put) v result w = (result ≡ Ok tt) × (w ≡ v)
  Concludes bytes (Err error) v result w = GivesUp bytes (refusal_of error) v result w

  -- the stamped message went so to the owner of a name, or nothing was put
  abbrev pub WentSo : (M → OutboxId) → List ℕ → List ℕ → PassState M → Result Sent BusError → PassState M → Type 0
  WentSo outbox_of to stamped v went w = MatchResult went (λ sent. Unicasts standings.Apart outbox_of to stamped v sent w) (λ error. IsUnsent outbox_of error v w)

  -- a stamped message to the owner of a name, of the bytes that the client sent
  abbrev pub SendsAtOnce : (M → OutboxId) → List ℕ → List ℕ → List ℕ → PeerState M → Result (Unit {0}) AnswerError → PeerState M → Type 0
  SendsAtOnce outbox_of bytes to stamped v result w =
      (mid : PassState M) × (went : Result Sent BusError) × WentSo outbox_of to stamped v.pass went mid × Concludes bytes went (with_pass v mid) result w

  -- the same, maybe after the name was found to have no owner, so that nothing was put
  abbrev pub SendsStamped : (M → OutboxId) → List ℕ → List ℕ → List ℕ → PeerState M → Result (Unit {0}) AnswerError → PeerState M → Type 0
  SendsStamped outbox_of bytes to stamped v result w =
      SendsAtOnce outbox_of bytes to stamped v result w ⊎ ((looked : PassState M) × HasNotPut outbox_of v.pass looked × SendsAtOnce outbox_of bytes to stamped (with_pass v looked) result w)
