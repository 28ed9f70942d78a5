-- How a session ends.
use Rattle.std.proofs.Common.{◌≡◌, Option, Result, subst}
use Rattle.outbox.specs.Seated.{OutboxId}
use Rattle.peers.specs.declared.error.AnswerError.{AnswerError}
use Rattle.peers.specs.declared.leaving.Leaving.{Leaving}
use Rattle.peers.specs.Departure.{Leaves, HasLeft}
use Rattle.peers.specs.PeerState.{PeerState}
use Rattle.sessions.specs.Ends.{Ends, IsLeftOf}
use Rattle.sessions.specs.Steps.{outcome_of}
use Rattle.sessions.specs.declared.error.SessionError.{SessionError}

module _ {M : Type 0} where
  pub ends_by : (outbox_of : M → OutboxId) (v w : PeerState M) (leaving came : Leaving) (told : Result (Unit {0}) AnswerError) (result : Result (Unit {0}) SessionError) (rest : Option (PeerState M)) → leaving ≡ came → Leaves outbox_of v leaving told w → HasLeft leaving w → IsLeftOf came w rest → result ≡ outcome_of told
      → Ends outbox_of v result rest
  ends_by outbox_of v w leaving came told result rest is leaves left rest_is result_is =
      let P : Leaving → Type 0 = λ x. Leaves outbox_of v x told w in
      let Q : Leaving → Type 0 = λ x. HasLeft x w in
      (came, told, w, subst P is leaves, subst Q is left, rest_is, result_is)
