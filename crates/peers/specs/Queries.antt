-- What the calls are answered that only ask (D-Bus Specification, "Message Bus Messages").
use Rattle.std.specs.Prelude.{ℕ, ◌≡◌, ◌⊎◌, ◌++◌, false, List, [], ◌∷◌, map, Option, Some, None, is_some, Result, Ok, Err}
use Rattle.std.specs.Char.{to_ascii_lowercase}
use Rattle.std.specs.Str.{IsUtf8}
use Rattle.signature.specs.Name.{bus_name}
use Rattle.outbox.specs.Seated.{OutboxId}
use Rattle.bus_messages.specs.declared.body.Body.{Body}
use Rattle.bus_messages.specs.declared.body.Body.TheVariants as bodies
use Rattle.bus_messages.specs.declared.error_name.ErrorName.{ErrorName}
use Rattle.bus_messages.specs.declared.error_name.ErrorName.TheVariants as names
use Rattle.unique_name.specs.UniqueNames.{unique_name}
use Rattle.router.specs.Connections.{numbers_of}
use Rattle.router.specs.History.{after}
use Rattle.router.specs.Names.{AreNames}
use Rattle.router.specs.Passes.{PassState}
use Rattle.router.specs.Standing.TheVariants as standings
use Rattle.router.specs.State.{State}
use Rattle.peers.specs.Answers.{AnswersBy, IsPut, IsPutAt, IsRefused, RefusesBy, text_with, texts_with}
use Rattle.peers.specs.Asked.{IsAsked, IsOwnerOf, queue_in}
use Rattle.peers.specs.Passing.{HasSeenMore, with_pass}
use Rattle.peers.specs.PeerState.{PeerState, name_of}
use Rattle.peers.specs.Rows.{RepliesBy}
use Rattle.peers.specs.declared.error.AnswerError.{AnswerError}
use Rattle.peers.specs.declared.identity.Identity.{Identity}
use Rattle.peers.specs.declared.owner.AskedName.{AskedName}
use Rattle.peers.specs.declared.owner.Owner.{Owner}
use Rattle.peers.specs.declared.owner.Owner.TheVariants as whose
use Rattle.peers.specs.declared.refused.Refused.{Refused}
use Rattle.peers.specs.declared.refused.Refused.TheVariants.{Error, Ended}
use Rattle.peers.specs.declared.request.Request.{Request}

-- the bus's id, in small letters
abbrev pub bus_id : Identity → List ℕ
bus_id identity = map to_ascii_lowercase identity.guid

-- the number of the user that a client runs as, where it is known
abbrev pub user_found : Option ℕ → Result Body ErrorName
user_found (Some number) = Ok (bodies.Number number)
user_found None = Err names.Failed

-- all that is known of a client
abbrev pub credentials_of : Option ℕ → Body
credentials_of (Some number) = bodies.User number
credentials_of None = bodies.EmptyDict

-- why a list can't be told: the bus has ended, or memory was refused
abbrev pub CannotList : Refused → Type 0
CannotList why = (why ≡ Ended) ⊎ (why ≡ Error names.NoMemory)

-- those who own a name or wait for it, or the error of a name that nobody owns
abbrev pub queue_found : List (List ℕ) → Result (List (List ℕ)) Refused
queue_found [] = Err (Error names.NameHasNoOwner)
queue_found (first ∷ others) = Ok (first ∷ others)

module _ {M : Type 0} where
  -- the call is answered with a text, which is put so
  abbrev pub RepliesTextBy : ((List ℕ → Type 0) → PeerState M → Result (Unit {0}) AnswerError → PeerState M → Type 0) → Request → List ℕ → PeerState M → Result (Unit {0}) AnswerError → PeerState M → Type 0
  RepliesTextBy put request text v result w = AnswersBy put request.wants_answer request (text_with v.serial (name_of v) request text) v result w

  abbrev pub RepliesText : Request → List ℕ → PeerState M → Result (Unit {0}) AnswerError → PeerState M → Type 0
  RepliesText request text v result w = RepliesTextBy IsPut request text v result w

  -- the call is answered with an array of texts
  abbrev pub RepliesTextsBy : ((List ℕ → Type 0) → PeerState M → Result (Unit {0}) AnswerError → PeerState M → Type 0) → Request → List (List ℕ) → PeerState M → Result (Unit {0}) AnswerError → PeerState M → Type 0
  RepliesTextsBy put request texts v result w = AnswersBy put request.wants_answer request (texts_with v.serial (name_of v) request texts) v result w

  abbrev pub RepliesTexts : Request → List (List ℕ) → PeerState M → Result (Unit {0}) AnswerError → PeerState M → Type 0
  RepliesTexts request texts v result w = RepliesTextsBy IsPut request texts v result w

  -- the digits of an id as a text, or an error if they are none
  abbrev pub RepliesDigits : Request → List ℕ → PeerState M → Result (Unit {0}) AnswerError → PeerState M → Type 0
  RepliesDigits request digits v result w =
      (IsUtf8 digits × RepliesText request digits v result w) ⊎ ((IsUtf8 digits → ⊥) × IsRefused request (Error names.Failed) v result w)

  -- the machine's id, or an error if there is none
  abbrev pub RepliesMachineId : Request → Option (List ℕ) → PeerState M → Result (Unit {0}) AnswerError → PeerState M → Type 0
  RepliesMachineId request (Some digits) v result w = RepliesDigits request digits v result w
  RepliesMachineId request None v result w = IsRefused request (Error names.Failed) v result w

  -- the texts that were found, or why there are none
  abbrev pub RepliesFound : ((List ℕ → Type 0) → PeerState M → Result (Unit {0}) AnswerError → PeerState M → Type 0) → Request → Result (List (List ℕ)) Refused → PeerState M → Result (Unit {0}) AnswerError → PeerState M → Type 0
  RepliesFound put request (Ok texts) v result w = RepliesTextsBy put request texts v result w
  RepliesFound put request (Err why) v result w = RefusesBy put request why v result w

  -- What is found in what the pass has then seen is answered. The answer bears the place of just that state.
  abbrev pub AnswersFound : (M → OutboxId) → (State M → Result (List (List ℕ)) Refused → Type 0) → Request → PeerState M → Result (Unit {0}) AnswerError → PeerState M → Type 0
  AnswersFound outbox_of P request v result w =
      (pass : PassState M) × (found : Result (List (List ℕ)) Refused) × HasSeenMore v.pass pass × P (after pass.seen) found
      × RepliesFound (IsPutAt standings.State outbox_of pass.seen) request found (with_pass v pass) result w

  -- All names in a state: that of the bus, the unique names of the connections by their rising numbers, and the well-known
  -- names that are owned in the order of bytes.
  abbrev pub AreAllNames : State M → Result (List (List ℕ)) Refused → Type 0
  AreAllNames s (Ok texts) = (owned : List (List ℕ)) × AreNames s.registrations.claims owned × (texts ≡ (bus_name ∷ map unique_name (numbers_of s.connections)) ++ owned)
  AreAllNames s (Err why) = CannotList why

  -- those who own a name or wait for it in a state
  abbrev pub AreQueued : AskedName → State M → Result (List (List ℕ)) Refused → Type 0
  AreQueued name s found = (found ≡ queue_found (queue_in s name)) ⊎ ((why : Refused) × CannotList why × (found ≡ Err why))

  -- those of the name that a text is; or it is no name
  abbrev pub AreQueuedFor : List ℕ → State M → Result (List (List ℕ)) Refused → Type 0
  AreQueuedFor text s found = ((name : AskedName) × IsAsked text (Ok name) × AreQueued name s found) ⊎ ((why : Refused) × ((why ≡ Ended) ⊎ IsAsked text (Err why)) × (found ≡ Err why))

  -- The owner of the name, in what the pass has then seen, is answered so. The answer bears the place of just that state.
  abbrev pub AnswersOwner : (M → OutboxId) → List ℕ → (((List ℕ → Type 0) → PeerState M → Result (Unit {0}) AnswerError → PeerState M → Type 0) → Result (Option Owner) Refused → PeerState M → Result (Unit {0}) AnswerError → PeerState M → Type 0) → PeerState M → Result (Unit {0}) AnswerError → PeerState M → Type 0
  AnswersOwner outbox_of name P v result w =
      (pass : PassState M) × (owner : Result (Option Owner) Refused) × HasSeenMore v.pass pass × IsOwnerOf (after pass.seen) name owner
      × P (IsPutAt standings.State outbox_of pass.seen) owner (with_pass v pass) result w

  -- the unique name of the owner
  abbrev pub NamesOwner : Request → ((List ℕ → Type 0) → PeerState M → Result (Unit {0}) AnswerError → PeerState M → Type 0) → Result (Option Owner) Refused → PeerState M → Result (Unit {0}) AnswerError → PeerState M → Type 0
  NamesOwner request put (Ok (Some whose.Bus)) v result w = RepliesTextBy put request bus_name v result w
  NamesOwner request put (Ok (Some (whose.Connection n))) v result w = RepliesTextBy put request (unique_name n) v result w
  NamesOwner request put (Ok None) v result w = RefusesBy put request (Error names.NameHasNoOwner) v result w
  NamesOwner request put (Err why) v result w = RefusesBy put request why v result w

  -- whether there is one; a text that is no name has none
  abbrev pub TellsWhetherOwned : Request → ((List ℕ → Type 0) → PeerState M → Result (Unit {0}) AnswerError → PeerState M → Type 0) → Result (Option Owner) Refused → PeerState M → Result (Unit {0}) AnswerError → PeerState M → Type 0
  TellsWhetherOwned request put (Ok owner) v result w = RepliesBy put request (bodies.Truth (is_some owner)) v result w
  TellsWhetherOwned request put (Err (Error names.InvalidArgs)) v result w = RepliesBy put request (bodies.Truth false) v result w
  TellsWhetherOwned request put (Err why) v result w = RefusesBy put request why v result w

  -- arguments or an error if there is one, and an error if there is none
  abbrev pub TellsOfOwned : Request → Result Body ErrorName → ErrorName → ((List ℕ → Type 0) → PeerState M → Result (Unit {0}) AnswerError → PeerState M → Type 0) → Result (Option Owner) Refused → PeerState M → Result (Unit {0}) AnswerError → PeerState M → Type 0
  TellsOfOwned request (Ok body) missing put (Ok (Some owner)) v result w = RepliesBy put request body v result w
  TellsOfOwned request (Err error) missing put (Ok (Some owner)) v result w = RefusesBy put request (Error error) v result w
  TellsOfOwned request found missing put (Ok None) v result w = RefusesBy put request (Error missing) v result w
  TellsOfOwned request found missing put (Err why) v result w = RefusesBy put request why v result w
