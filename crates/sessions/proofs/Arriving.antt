-- The first message of a session.
use Rattle.std.proofs.Common.{◌≡◌, ◌∙◌, ℕ, List, Option, Some, None, Result, sym, ap}
use Rattle.outbox.specs.Seated.{OutboxId}
use Rattle.peers.specs.PeerState.{PeerState}
use Rattle.peers.specs.declared.error.AnswerError.{AnswerError}
use Rattle.peers.specs.declared.shares.Shares.{Shares}
use Rattle.sessions.specs.Newcomers.{IsRegistered}
use Rattle.sessions.specs.Steps.{Takes, outcome_of}
use Rattle.sessions.specs.declared.error.SessionError.{SessionError}

module _ {M : Type 0} where
  -- a newcomer is the peer that the first message makes
  pub taken : (outbox_of : M → OutboxId) (shares : Shares) (message : List ℕ) (outbox : Option OutboxId) (own : OutboxId) (registered : Result (Unit {0}) AnswerError) (result : Result (Unit {0}) SessionError) (w : PeerState M)
      → IsRegistered outbox_of message own registered w → outbox ≡ Some own → result ≡ outcome_of registered → Takes outbox_of shares message outbox None result (Some w)
  taken outbox_of shares message outbox own registered result w (v, request, newcomer, its, says, registers) is ends =
      (v, request, registered, newcomer, is ∙ ap Some (sym its), says, registers, ends)
