-- What RequestName and ReleaseName do, and are answered (D-Bus Specification, "Message Bus Messages").
use Rattle.std.specs.Prelude.{ℕ, ◌≡◌, ◌⊎◌, List, Result, Ok, Err}
use Rattle.std.specs.Result.{result_and}
use Rattle.outbox.specs.Seated.{OutboxId}
use Rattle.owners.specs.WellKnown.{name_in}
use Rattle.owners.specs.declared.error.ClaimError.{ClaimError}
use Rattle.owners.specs.Numbers.{name_reply_number}
use Rattle.bus_messages.specs.declared.body.Body.TheVariants.{Number}
use Rattle.bus_messages.specs.declared.error_name.ErrorName.TheVariants.{InvalidArgs}
use Rattle.router.specs.BusError.{BusError}
use Rattle.router.specs.Reply.{Reply}
use Rattle.router.specs.Reply.TheVariants as replies
use Rattle.router.specs.Calls.{Once}
use Rattle.router.specs.NameCall.{NameCall}
use Rattle.router.specs.NameCall.TheVariants as calls
use Rattle.router.specs.Standing.TheVariants as standings
use Rattle.peers.specs.declared.error.AnswerError.{AnswerError}
use Rattle.peers.specs.declared.request.Request.{Request}
use Rattle.peers.specs.declared.refused.Refused.TheVariants.{Error}
use Rattle.peers.specs.Answers.{IsPutAt, IsRefused, RefusesBy}
use Rattle.peers.specs.Holdings.{HoldingsState, after_request, after_release}
use Rattle.peers.specs.OwnerChanges.{ChangesOwner}
use Rattle.peers.specs.PeerState.{PeerState}
use Rattle.peers.specs.Refusals.{refusal_of}
use Rattle.peers.specs.Shares.{WithinShare, WithinMemory, name_limit}
use Rattle.peers.specs.declared.shares.Shares.{Shares}
use Rattle.peers.specs.Rows.{RepliesBy, with_holdings}

module _ {M : Type 0} where
  -- the number of the bus's answer, or the error of its refusal, which is put so
  abbrev pub TellsNamed : ((List ℕ → Type 0) → PeerState M → Result (Unit {0}) AnswerError → PeerState M → Type 0) → Request → Result Reply BusError → PeerState M → Result (Unit {0}) AnswerError → PeerState M → Type 0
  TellsNamed put request (Ok (replies.Name named)) v result w = RepliesBy put request (Number (name_reply_number named.answer)) v result w
  TellsNamed put request (Ok _) v result w = (result ≡ Ok tt) × (w ≡ v)
  TellsNamed put request (Err error) v result w = RefusesBy put request (refusal_of error) v result w

  -- the name isn't one that can be asked for
  abbrev pub IsUnclaimable : Request → List ℕ → PeerState M → Result (Unit {0}) AnswerError → PeerState M → Type 0
  IsUnclaimable request name v result w = (fault : ClaimError) × (name_in name ≡ Err fault) × IsRefused request (Error InvalidArgs) v result w

  -- The call was made: a change of the owner was announced, and then it came about. What the client holds changes by the bus's
  -- answer, and the client is told it, after what was announced, at the place of the state after the call. The result is the first
  -- error of these.
  abbrev pub ChangesName : (M → OutboxId) → Request → NameCall → (Result Reply BusError → HoldingsState → HoldingsState) → PeerState M → Result (Unit {0}) AnswerError → PeerState M → Type 0
  ChangesName outbox_of request call change v result w =
      (asked : Result Reply BusError) × (mid : PeerState M) × (announced answered : Result (Unit {0}) AnswerError)
      × Once (λ before next.
      ChangesOwner outbox_of call v before asked announced mid next × TellsNamed (IsPutAt standings.State outbox_of next.history) request asked (with_holdings (change asked) mid) answered w)
      × (result ≡ result_and announced answered)

  -- within the client's share of names
  abbrev pub RequestsName : (M → OutboxId) → Shares → Request → List ℕ → ℕ → PeerState M → Result (Unit {0}) AnswerError → PeerState M → Type 0
  RequestsName outbox_of shares request name flags v result w =
      IsUnclaimable request name v result w
      ⊎ WithinShare (name_limit shares name v.holdings) request (WithinMemory request (ChangesName outbox_of request (calls.Request name flags) (after_request name) v result w) v result w) v result w

  abbrev pub ReleasesName : (M → OutboxId) → Request → List ℕ → PeerState M → Result (Unit {0}) AnswerError → PeerState M → Type 0
  ReleasesName outbox_of request name v result w = IsUnclaimable request name v result w ⊎ ChangesName outbox_of request (calls.Release name) (after_release name) v result w
