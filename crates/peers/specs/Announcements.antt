-- What the bus announces of names (D-Bus Specification, "Message Bus Messages": NameOwnerChanged, NameLost, NameAcquired).
use Rattle.std.specs.Prelude.{ℕ, ◌≡◌, ◌⊎◌, List, [], ◌∷◌, codes, Option, Some, None, Result, Ok, Err, IfOk}
use Rattle.std.specs.Result.{result_and}
use Rattle.outbox.specs.Seated.{OutboxId}
use Rattle.owners.specs.declared.answer.Change.{Change}
use Rattle.message_build.specs.Asked.{Asked}
use Rattle.message_build.specs.Building.{AreAsked}
use Rattle.bus_messages.specs.Sent.{signal_asked}
use Rattle.unique_name.specs.UniqueNames.{unique_name}
use Rattle.router.specs.BusError.{BusError}
use Rattle.router.specs.Command.{Command}
use Rattle.router.specs.Source.TheVariants.{Bus}
use Rattle.router.specs.Passes.{PassState}
use Rattle.router.specs.Routes.{HasRouted, IsUnrouted}
use Rattle.router.specs.Unicasts.{Unicasts, IsUnsent}
use Rattle.router.specs.Sent.{Sent}
use Rattle.router.specs.Standing.{Standing}
use Rattle.router.specs.Standing.TheVariants as standings
use Rattle.peers.specs.declared.error.AnswerError.{AnswerError}
use Rattle.peers.specs.declared.error.AnswerError.TheVariants.{NoMemory}
use Rattle.peers.specs.Answers.{after_serial}
use Rattle.peers.specs.Passing.{with_pass}
use Rattle.peers.specs.PeerState.{PeerState, name_of}

-- an owner's name, empty for none
abbrev pub owner_text : Option ℕ → List ℕ
owner_text None = []
owner_text (Some n) = unique_name n

-- NameOwnerChanged with this serial, of a name whose owner was one connection and is another now
unfoldable pub change_asked : ℕ → List ℕ → Option ℕ → Option ℕ → Asked
change_asked serial name old new = signal_asked serial None (codes "NameOwnerChanged") (name ∷ owner_text old ∷ owner_text new ∷ [])

-- a signal with this serial to one connection, whose argument is a name
unfoldable pub told_asked : ℕ → List ℕ → List ℕ → ℕ → Asked
told_asked serial member name n = signal_asked serial (Some (unique_name n)) member (name ∷ [])

module _ {M : Type 0} where
  -- The pass sent this message of the bus to the owner of a name, who may be gone; or nothing was put.
  abbrev pub IsTold : Standing → (M → OutboxId) → Asked → List ℕ → PassState M → Result (Unit {0}) AnswerError → PassState M → Type 0
  IsTold standing outbox_of asked to v (Ok _) w = (bytes : List ℕ) × (sent : Sent) × AreAsked asked bytes × Unicasts standing outbox_of to bytes v sent w
  IsTold standing outbox_of asked to v (Err error) w = (error ≡ NoMemory) × ((w ≡ v) ⊎ ((why : BusError) × IsUnsent outbox_of why v w))

  -- The pass put this broadcast of the bus to its recipients, or nothing was put.
  abbrev pub IsSignalled : Standing → (M → OutboxId) → Asked → PassState M → Result (Unit {0}) AnswerError → PassState M → Type 0
  IsSignalled standing outbox_of asked v (Ok _) w = (bytes recipients refused : List ℕ) × AreAsked asked bytes × HasRouted standing outbox_of Bus bytes v recipients refused w
  IsSignalled standing outbox_of asked v (Err error) w = (error ≡ NoMemory) × ((w ≡ v) ⊎ ((why : BusError) × IsUnrouted outbox_of why v w))

  -- one of the bus's messages was made and sent by the peer's pass
  abbrev pub IsMade : PeerState M → PeerState M → Type 0
  IsMade v w = w ≡ with_pass (after_serial v) w.pass

  -- The same under the lock of the bus: what was put stands after this history, which is what the pass has then seen.
  abbrev pub HasTold : Standing → (M → OutboxId) → List (Command M) → Asked → List ℕ → PeerState M → Result (Unit {0}) AnswerError → PeerState M → Type 0
  HasTold standing outbox_of history asked to v result w = IsMade v w × IsTold standing outbox_of asked to v.pass result w.pass × IfOk result (λ _. w.pass.seen ≡ history)

  abbrev pub HasSignalled : Standing → (M → OutboxId) → List (Command M) → Asked → PeerState M → Result (Unit {0}) AnswerError → PeerState M → Type 0
  HasSignalled standing outbox_of history asked v result w = IsMade v w × IsSignalled standing outbox_of asked v.pass result w.pass × IfOk result (λ _. w.pass.seen ≡ history)

  -- a connection is told by this signal that a name was lost or acquired; nobody is nobody
  abbrev pub TellsOwner : Standing → (M → OutboxId) → List (Command M) → List ℕ → List ℕ → Option ℕ → PeerState M → Result (Unit {0}) AnswerError → PeerState M → Type 0
  TellsOwner standing outbox_of history member name None v result w = (result ≡ Ok tt) × (w ≡ v)
  TellsOwner standing outbox_of history member name (Some n) v result w = HasTold standing outbox_of history (told_asked v.serial member name n) (unique_name n) v result w

  -- A change of a name's owner after this history: NameLost to the old one, NameOwnerChanged to all whose rules hold of it,
  -- NameAcquired to the new one, in this order, and nothing else. They stand at the place of the next command, which makes the
  -- change. The result is the first error of these, if there is one.
  abbrev pub Announces : (M → OutboxId) → List (Command M) → Change → PeerState M → Result (Unit {0}) AnswerError → PeerState M → Type 0
  Announces outbox_of history change v result w =
      (mid next : PeerState M) × (lost changed acquired : Result (Unit {0}) AnswerError)
      × TellsOwner standings.Next outbox_of history (codes "NameLost") change.name change.old v lost mid
      × HasSignalled standings.Next outbox_of history (change_asked mid.serial change.name change.old change.new) mid changed next
      × TellsOwner standings.Next outbox_of history (codes "NameAcquired") change.name change.new next acquired w
      × (result ≡ result_and (result_and lost changed) acquired)

  -- a change, if there is one, is announced
  abbrev pub AnnouncesAny : (M → OutboxId) → List (Command M) → Option Change → PeerState M → Result (Unit {0}) AnswerError → PeerState M → Type 0
  AnnouncesAny outbox_of history None v result w = (result ≡ Ok tt) × (w ≡ v)
  AnnouncesAny outbox_of history (Some change) v result w = Announces outbox_of history change v result w

  -- the client's own unique name is there after this history: NameOwnerChanged, then NameAcquired, at the place of its last
  -- command, which made it
  abbrev pub AnnouncesArrival : (M → OutboxId) → List (Command M) → PeerState M → Result (Unit {0}) AnswerError → PeerState M → Type 0
  AnnouncesArrival outbox_of history v result w =
      (mid : PeerState M) × (changed acquired : Result (Unit {0}) AnswerError)
      × HasSignalled standings.Last outbox_of history (change_asked v.serial (name_of v) None (Some v.pass.connection)) v changed mid
      × TellsOwner standings.Last outbox_of history (codes "NameAcquired") (name_of v) (Some v.pass.connection) mid acquired w
      × (result ≡ result_and changed acquired)
