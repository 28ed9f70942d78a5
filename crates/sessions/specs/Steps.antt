-- What a session does with its client's bytes (D-Bus Specification, "Message Format" and "Message Bus Message Routing").
use Rattle.std.specs.Prelude.{ℕ, ◌≡◌, ◌⊎◌, ◌↔◌, ◌++◌, take, IsTrue, Bool, true, false, List, [], Option, Some, None, Result, Ok, Err, IsErr}
use Rattle.auth.specs.Talk.{Standing, talk, taken_of}
use Rattle.auth.specs.declared.stage.Stage.TheVariants.{Begun, Failed}
use Rattle.outbox.specs.Seated.{OutboxId}
use Rattle.message_view.specs.Message.{Message}
use Rattle.message_view.specs.Valid.{Valid}
use Rattle.frames.specs.Stream.{IsMessage, BeginsWithMessage, IsFault}
use Rattle.peers.specs.declared.error.AnswerError.{AnswerError}
use Rattle.peers.specs.declared.request.Request.{Request}
use Rattle.peers.specs.declared.shares.Shares.{Shares}
use Rattle.peers.specs.Arrival.{Registers}
use Rattle.peers.specs.Handling.{Handles}
use Rattle.peers.specs.Passing.{IsRequestOf}
use Rattle.peers.specs.PeerState.{PeerState}
use Rattle.sessions.specs.Errors.{error_of_answer}
use Rattle.sessions.specs.Hello.{is_hello}
use Rattle.sessions.specs.Newcomers.{IsNewcomer}
use Rattle.sessions.specs.SessionState.{SessionState, outbox_after}
use Rattle.sessions.specs.declared.error.SessionError.{SessionError}
use Rattle.sessions.specs.declared.error.SessionError.TheVariants.{Auth, Message as faulty, NoMemory, Slow}
use Rattle.sessions.specs.declared.step.Step.{Step}
use Rattle.sessions.specs.declared.step.Step.TheVariants.{Done, Waits}

-- whether the session goes on after its client was answered, or could not be
abbrev pub outcome_of : Result (Unit {0}) AnswerError → Result (Unit {0}) SessionError
outcome_of (Ok _) = Ok tt
outcome_of (Err error) = Err (error_of_answer error)

-- the bytes in a message's place have this fault
abbrev pub IsFaultOf : List ℕ → SessionError → Type 0
IsFaultOf unread (faulty fault) = IsFault unread fault
IsFaultOf unread _ = ⊥

-- a line leads the talk from where it stands to where it then stands, and messages come next exactly where it then is over
abbrev pub Hears : List ℕ → Standing → Standing → Bool → Type 0
Hears line standing later has_begun = ((talk standing line).standing ≡ later) × (IsTrue has_begun ↔ (later.stage ≡ Begun))

-- why a line ends the session: it has failed the talk, or there was no room or no memory for its answer
abbrev pub EndsTalk : SessionError → Standing → Type 0
EndsTalk error later = ((error ≡ Auth) × (later.stage ≡ Failed)) ⊎ ((error ≡ Slow) ⊎ (error ≡ NoMemory))

module _ {M : Type 0} where
  -- The client's outbox is found to be shut, and nothing else has changed. Before Hello clauses don't see what its outbox
  -- has.
  abbrev pub IsFoundShut : Option (PeerState M) → Option (PeerState M) → Type 0
  IsFoundShut None peer = peer ≡ None
  IsFoundShut (Some v) peer = peer ≡ Some (record v { own = record v.own { knows_shut = true } })

  -- a session ends as slow only where the outbox of its client, which has said Hello, is known to be shut
  abbrev pub IsShutIf : Option (PeerState M) → SessionError → Type 0
  IsShutIf (Some v) Slow = v.own.knows_shut ≡ true
  IsShutIf (Some v) _ = Unit {0}
  IsShutIf None error = Unit {0}

  -- A message is handled by the client's peer. The first one makes the peer, whose name it is answered with, if it is Hello, and the
  -- peer has the client's outbox; or it makes none, and the session ends.
  abbrev pub Takes : (M → OutboxId) → Shares → List ℕ → Option OutboxId → Option (PeerState M) → Result (Unit {0}) SessionError → Option (PeerState M) → Type 0
  Takes outbox_of shares message outbox (Some v) result peer = (w : PeerState M) × (handled : Result (Unit {0}) AnswerError) × Handles outbox_of shares message v handled w × (peer ≡ Some w) × (result ≡ outcome_of handled)
  Takes outbox_of shares message outbox None result None = IsErr result
  Takes outbox_of shares message outbox None result (Some w) =
      (v : PeerState M) × (request : Request) × (registered : Result (Unit {0}) AnswerError)
      × IsNewcomer outbox_of v × (outbox ≡ Some v.own.outbox) × ((m : Message) → Valid message m → (is_hello m ≡ true) × IsRequestOf m request) × Registers outbox_of v.pass.seen request v registered w × (result ≡ outcome_of registered)

  -- this message comes next in the client's bytes; it is handled, and then taken from them
  abbrev pub HandlesNext : (M → OutboxId) → Shares → List ℕ → SessionState M → SessionState M → Type 0
  HandlesNext outbox_of shares message v w = IsMessage message × (v.unread ≡ message ++ w.unread) × Takes outbox_of shares message v.outbox v.peer (Ok tt) w.peer × (w ≡ record v { unread = w.unread; outbox = outbox_after w.peer v.outbox; peer = w.peer })

  -- The next message is handled; no whole one is there; or the session ends, by the
  -- fault of the bytes in a message's place, or by what handling the message came to.
  abbrev pub TakesMessage : (M → OutboxId) → Shares → SessionState M → Result Step SessionError → SessionState M → Type 0
  TakesMessage outbox_of shares v (Ok Done) w = (message : List ℕ) × HandlesNext outbox_of shares message v w
  TakesMessage outbox_of shares v (Ok Waits) w = (BeginsWithMessage v.unread → ⊥) × (w ≡ v)
  TakesMessage outbox_of shares v (Err error) w =
      (IsFaultOf v.unread error × (w ≡ v))
      ⊎ ((message rest : List ℕ) × IsMessage message × (v.unread ≡ message ++ rest) × Takes outbox_of shares message v.outbox v.peer (Err error) w.peer × (w ≡ record v { outbox = outbox_after w.peer v.outbox; peer = w.peer }))

  -- The next line of the talk is heard, and is then no longer there: as many bytes as the talk takes. Or nothing is there, or the
  -- client has no outbox for an answer any more; or the session ends where the line has led the talk.
  abbrev pub TakesLine : SessionState M → Result Step SessionError → SessionState M → Type 0
  TakesLine v (Ok Done) w =
      (line : List ℕ) × (v.unread ≡ line ++ w.unread) × (line ≡ take (taken_of v.standing v.unread) v.unread)
      × Hears line v.standing w.standing w.has_begun × (w ≡ record v { standing = w.standing; has_begun = w.has_begun; unread = w.unread })
  TakesLine v (Ok Waits) w = ((v.unread ≡ []) ⊎ (v.outbox ≡ None)) × (w ≡ v)
  TakesLine v (Err error) w =
      (w ≡ record v { standing = w.standing; has_begun = w.has_begun })
      × (w.standing ≡ (talk v.standing (take (taken_of v.standing v.unread) v.unread)).standing) × EndsTalk error w.standing

  -- messages once the talk is over, and lines before
  abbrev pub TakesNext : Bool → (M → OutboxId) → Shares → SessionState M → Result Step SessionError → SessionState M → Type 0
  TakesNext true outbox_of shares v result w = TakesMessage outbox_of shares v result w
  TakesNext false outbox_of shares v result w = TakesLine v result w

  -- The next line or message is handled. What ends the session is answered then, and always after.
  abbrev pub Steps : (M → OutboxId) → Shares → SessionState M → Result Step SessionError → SessionState M → Type 0
  Steps outbox_of shares v (Ok step) w = (v.fault ≡ None) × TakesNext v.has_begun outbox_of shares v (Ok step) w
  Steps outbox_of shares v (Err error) w =
      ((v.fault ≡ Some error) × (w ≡ v))
      ⊎ ((v.fault ≡ None) × (mid : SessionState M) × (w ≡ record mid { fault = Some error }) × (((error ≡ Slow) × IsFoundShut v.peer mid.peer × (mid ≡ record v { peer = mid.peer })) ⊎ TakesNext v.has_begun outbox_of shares v (Err error) mid))

  -- bytes are added to those that were fed, or memory was refused, and the session ends
  abbrev pub Feeds : List ℕ → SessionState M → Result (Unit {0}) SessionError → SessionState M → Type 0
  Feeds bytes v (Ok _) w = (v.fault ≡ None) × (w ≡ record v { unread = v.unread ++ bytes })
  Feeds bytes v (Err error) w = ((v.fault ≡ Some error) × (w ≡ v)) ⊎ ((v.fault ≡ None) × (error ≡ NoMemory) × (w ≡ record v { fault = Some error }))
