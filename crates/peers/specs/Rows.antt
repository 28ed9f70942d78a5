-- What each method of the bus does, and is answered (D-Bus Specification, "Message Bus Messages").
use Rattle.std.specs.Prelude.{◌≡◌, ℕ, List, Result, Ok, Err}
use Rattle.bus_messages.specs.declared.body.Body.{Body}
use Rattle.bus_messages.specs.declared.body.Body.TheVariants as bodies
use Rattle.router.specs.BusError.{BusError}
use Rattle.router.specs.Reply.{Reply}
use Rattle.router.specs.Reply.TheVariants as replies
use Rattle.router.specs.Passes.{PassState}
use Rattle.peers.specs.declared.error.AnswerError.{AnswerError}
use Rattle.peers.specs.declared.request.Request.{Request}
use Rattle.peers.specs.Answers.{AnswersBy, IsPut, IsRefused, reply_with}
use Rattle.peers.specs.Holdings.{HoldingsState}
use Rattle.peers.specs.Passing.{with_pass}
use Rattle.peers.specs.PeerState.{PeerState, name_of}
use Rattle.peers.specs.Refusals.{refusal_of}

module _ {M : Type 0} where
  -- the call is answered with these arguments, which are put so
  abbrev pub RepliesBy : ((List ℕ → Type 0) → PeerState M → Result (Unit {0}) AnswerError → PeerState M → Type 0) → Request → Body → PeerState M → Result (Unit {0}) AnswerError → PeerState M → Type 0
  RepliesBy put request body v result w = AnswersBy put request.wants_answer request (reply_with v.serial (name_of v) request body) v result w

  abbrev pub Replies : Request → Body → PeerState M → Result (Unit {0}) AnswerError → PeerState M → Type 0
  Replies request body v result w = RepliesBy IsPut request body v result w

  -- an empty answer if the bus did what was asked, or the error of its refusal
  abbrev pub Confirms : Request → Result Reply BusError → PeerState M → Result (Unit {0}) AnswerError → PeerState M → Type 0
  Confirms request (Ok _) v result w = Replies request bodies.Nothing v result w
  Confirms request (Err error) v result w = IsRefused request (refusal_of error) v result w

  -- the pass made this call of the bus, and then what follows from the bus's answer was done
  abbrev pub HasCalled : (Result Reply BusError → PassState M → Type 0) → (Result Reply BusError → PeerState M → Type 0) → PeerState M → Type 0
  HasCalled P Q v = (asked : Result Reply BusError) × (pass : PassState M) × P asked pass × Q asked (with_pass v pass)

  -- the peer of a client whose holdings have changed so
  abbrev pub with_holdings : (HoldingsState → HoldingsState) → PeerState M → PeerState M
  with_holdings change v = record v { holdings = change v.holdings }

  -- the client is told whether the call was done, and what it holds changes by the bus's answer
  abbrev pub IsConfirmed : Request → (Result Reply BusError → PassState M → Type 0) → (Result Reply BusError → HoldingsState → HoldingsState) → PeerState M → Result (Unit {0}) AnswerError → PeerState M → Type 0
  IsConfirmed request P change v result w = HasCalled P (λ asked mid. Confirms request asked (with_holdings (change asked) mid) result w) v

  -- the id of an entry, or the error of a refusal
  abbrev pub Numbers : Request → Result Reply BusError → PeerState M → Result (Unit {0}) AnswerError → PeerState M → Type 0
  Numbers request (Ok (replies.Entry id)) v result w = Replies request (bodies.Number id) v result w
  Numbers request (Ok _) v result w = (result ≡ Ok tt) × (w ≡ v)
  Numbers request (Err error) v result w = IsRefused request (refusal_of error) v result w

  -- the client is told the new entry's id, and what it holds changes by the bus's answer
  abbrev pub NumbersEntry : Request → (Result Reply BusError → PassState M → Type 0) → (Result Reply BusError → HoldingsState → HoldingsState) → PeerState M → Result (Unit {0}) AnswerError → PeerState M → Type 0
  NumbersEntry request P change v result w = HasCalled P (λ asked mid. Numbers request asked (with_holdings (change asked) mid) result w) v
