-- What calls are answered (D-Bus Specification, "Message Format").
use Rattle.std.specs.Prelude.{ℕ, ◌≡◌, ◌⊎◌, ◌++◌, Bool, true, false, List, [], ◌∷◌, Some, None, Result, Ok, Err, IfErr, codes}
use Rattle.outbox.specs.Items.{Item}
use Rattle.outbox.specs.Seated.{OutboxId}
use Rattle.signature.specs.DataType.{array, basic}
use Rattle.message_value.specs.Value.{Values, elements, text, no_values, one_value}
use Rattle.message_build.specs.Adding.{with_argument}
use Rattle.message_build.specs.Asked.{Asked}
use Rattle.message_build.specs.Building.{AreAsked}
use Rattle.bus_messages.specs.Bodies.{with_text}
use Rattle.bus_messages.specs.Sent.{reply_asked, error_asked}
use Rattle.bus_messages.specs.declared.body.Body.{Body}
use Rattle.bus_messages.specs.declared.body.Body.TheVariants.{Nothing}
use Rattle.bus_messages.specs.declared.error_name.ErrorName.{ErrorName}
use Rattle.bus_messages.specs.declared.error_name.ErrorName.TheVariants as names
use Rattle.router.specs.Command.{Command}
use Rattle.router.specs.Routes.{HasNotPut}
use Rattle.router.specs.Sent.TheVariants.{Put}
use Rattle.router.specs.Standing.{Standing}
use Rattle.router.specs.Unicasts.{Unicasts}
use Rattle.peers.specs.declared.error.AnswerError.{AnswerError}
use Rattle.peers.specs.declared.error.AnswerError.TheVariants.{NoMemory, Slow, Monitor}
use Rattle.peers.specs.declared.request.Request.{Request}
use Rattle.peers.specs.declared.refused.Refused.{Refused}
use Rattle.peers.specs.declared.refused.Refused.TheVariants.{Error, Ended}
use Rattle.peers.specs.PeerState.{OwnState, PeerState, name_of}
use Rattle.peers.specs.Serials.{serial_after}

-- what is printed of an error
abbrev pub answer_error_name : AnswerError → List ℕ
answer_error_name Slow = codes "Slow"
answer_error_name NoMemory = codes "NoMemory"
answer_error_name Monitor = codes "Monitor"

-- what is known of an outbox after a put that ended so: one for which there is no room shuts it, and has it written out
abbrev pub after_refusal : AnswerError → OwnState → OwnState
after_refusal Slow own = record own { knows_shut = true; is_waiting = true }
after_refusal _ own = own

-- after a put of this message
abbrev pub after_own_put : Item → OwnState → OwnState
after_own_put item own = record own { put = own.put ++ item ∷ []; is_waiting = true }

-- of an outbox that was found to be shut, that is known
abbrev pub after_finding : AnswerError → OwnState → OwnState
after_finding Slow own = record own { knows_shut = true }
after_finding _ own = own

-- why a message isn't put: there is no room for it, or no memory
abbrev pub IsUnput : AnswerError → Type 0
IsUnput error = (error ≡ Slow) ⊎ (error ≡ NoMemory)

-- One message more was put to the client by this outbox, whose bytes are so; or nothing was put.
abbrev pub IsOwnPut : (List ℕ → Type 0) → OwnState → Result (Unit {0}) AnswerError → OwnState → Type 0
IsOwnPut P own (Ok _) new = (item : Item) × (item.mark ≡ None) × P item.bytes × (new ≡ after_own_put item own)
IsOwnPut P own (Err error) new = IsUnput error × (new ≡ after_refusal error own)

-- that there is no room is said only of an outbox that is known to be shut
abbrev pub IsShutIf : AnswerError → OwnState → Type 0
IsShutIf Slow own = own.knows_shut ≡ true
IsShutIf _ own = Unit {0}

-- the answer to a call, with this serial and to this name
unfoldable pub reply_with : ℕ → List ℕ → Request → Body → Asked
reply_with serial to request body = reply_asked serial (Some to) request.serial body

-- the answer with a text
unfoldable pub text_with : ℕ → List ℕ → Request → List ℕ → Asked
text_with serial to request string = with_text (reply_asked serial (Some to) request.serial Nothing) string

-- texts as the elements of an array
abbrev pub text_values : List (List ℕ) → Values
text_values [] = no_values
text_values (string ∷ more) = one_value (text string) (text_values more)

-- the answer with an array of texts
unfoldable pub texts_with : ℕ → List ℕ → Request → List (List ℕ) → Asked
texts_with serial to request texts = with_argument (reply_asked serial (Some to) request.serial Nothing) (array (basic 115)) (elements (text_values texts))

-- the error that a call is answered with
unfoldable pub fault_with : ℕ → List ℕ → Request → ErrorName → Asked
fault_with serial to request name = error_asked serial (Some to) request.serial name

-- the bytes are those of one of two messages
abbrev pub IsEither : Asked → Asked → List ℕ → Type 0
IsEither asked other bytes = AreAsked asked bytes ⊎ AreAsked other bytes

-- A Hello is refused with just this error, or with the error NoMemory in its place, if its caller waits for an answer. It is the
-- first message of the bus to the client, which has no name yet that it could go to.
abbrev pub TurnsAwayIf : Bool → Request → ErrorName → OwnState → Result (Unit {0}) AnswerError → OwnState → Type 0
TurnsAwayIf false request name own result new = (result ≡ Ok tt) × (new ≡ own)
TurnsAwayIf true request name own result new = IsOwnPut (IsEither (error_asked 1 None request.serial name) (error_asked 1 None request.serial names.NoMemory)) own result new

module _ {M : Type 0} where
  -- a session ends for want of room only where the client's outbox is known to be shut
  abbrev pub SlowIfShut : {A : Type 0} → Result A AnswerError → PeerState M → Type 0
  SlowIfShut result w = IfErr result (λ error. IsShutIf error w.own)

  -- The same of a call; and only want of memory ends one whose caller waits for no answer: no room is needed for one.
  abbrev pub UnlessShut : {A : Type 0} → Bool → Result A AnswerError → PeerState M → Type 0
  UnlessShut wants_answer result w = (wants_answer ≡ false → IfErr result (λ error. error ≡ NoMemory)) × SlowIfShut result w

  -- One message more was put to the client, whose bytes are so; or nothing was put.
  abbrev pub IsPut : (List ℕ → Type 0) → PeerState M → Result (Unit {0}) AnswerError → PeerState M → Type 0
  IsPut P v (Ok _) w = (item : Item) × (item.mark ≡ None) × P item.bytes × (w ≡ record v { own = after_own_put item v.own })
  IsPut P v (Err error) w = IsUnput error × (w ≡ record v { own = after_refusal error v.own })

  -- The same by the client's pass, of a message that tells of names: it was put to the client, who owns its unique name, at the
  -- place at which it stands after this history, which is what the pass has then seen. Or nothing was put.
  abbrev pub IsPutAt : Standing → (M → OutboxId) → List (Command M) → (List ℕ → Type 0) → PeerState M → Result (Unit {0}) AnswerError → PeerState M → Type 0
  IsPutAt standing outbox_of history P v (Ok _) w =
      (bytes : List ℕ) × (n : ℕ) × P bytes × Unicasts standing outbox_of (name_of v) bytes v.pass (Put n) w.pass × (w.pass.seen ≡ history) × (w ≡ record v { pass = w.pass })
  IsPutAt standing outbox_of history P v (Err error) w =
      IsUnput error × ((w.pass ≡ v.pass) ⊎ HasNotPut outbox_of v.pass w.pass) × (w ≡ record v { pass = w.pass; own = after_finding error v.own })

  -- one serial is used for a message of the bus
  abbrev pub after_serial : PeerState M → PeerState M
  after_serial v = record v { serial = serial_after v.serial }

  -- the error that a call of the client is answered with
  abbrev pub fault_asked : PeerState M → Request → ErrorName → Asked
  fault_asked v request name = fault_with v.serial (name_of v) request name

  -- The call of a caller that waits is answered with just this message, or with the error NoMemory in its place; or the
  -- answer finds no room or no memory, and nothing is put. The call of one that doesn't wait is answered with nothing. How an
  -- answer is put is said by `put`: `IsPut`, or `IsPutAt` where it tells of names.
  abbrev pub AnswersBy : ((List ℕ → Type 0) → PeerState M → Result (Unit {0}) AnswerError → PeerState M → Type 0) → Bool → Request → Asked → PeerState M → Result (Unit {0}) AnswerError → PeerState M → Type 0
  AnswersBy put false request asked v result w = (result ≡ Ok tt) × (w ≡ v)
  AnswersBy put true request asked v result w = put (IsEither asked (fault_asked v request names.NoMemory)) (after_serial v) result w

  -- the call is answered with an error; or the bus has ended, and with it the session
  abbrev pub RefusesBy : ((List ℕ → Type 0) → PeerState M → Result (Unit {0}) AnswerError → PeerState M → Type 0) → Request → Refused → PeerState M → Result (Unit {0}) AnswerError → PeerState M → Type 0
  RefusesBy put request Ended v result w = (result ≡ Err NoMemory) × (w ≡ v)
  RefusesBy put request (Error name) v result w = AnswersBy put request.wants_answer request (fault_asked v request name) v result w

  abbrev pub IsAnswered : Request → Asked → PeerState M → Result (Unit {0}) AnswerError → PeerState M → Type 0
  IsAnswered request asked v result w = AnswersBy IsPut request.wants_answer request asked v result w

  abbrev pub IsRefused : Request → Refused → PeerState M → Result (Unit {0}) AnswerError → PeerState M → Type 0
  IsRefused request why v result w = RefusesBy IsPut request why v result w
