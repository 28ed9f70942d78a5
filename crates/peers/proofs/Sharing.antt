-- Calls within a client's share, and calls beyond it.
use Rattle.std.proofs.Common.{◌≡◌, Option, Some, None, Result, Err, inl, inr, sym, ap, subst, ◌∙◌}
use Rattle.bus_messages.specs.declared.exceeded.Exceeded.{Exceeded}
use Rattle.peers.specs.declared.error.AnswerError.{AnswerError}
use Rattle.peers.specs.declared.refused.Refused.{Refused}
use Rattle.peers.specs.declared.request.Request.{Request}
use Rattle.peers.specs.Answers.{IsRefused}
use Rattle.peers.specs.Holdings.{HoldingsState}
use Rattle.peers.specs.PeerState.{PeerState}
use Rattle.peers.specs.Refusals.{beyond}
use Rattle.peers.specs.Shares.{IsWithin, WithinShare, WithinMemory}

module _ {M : Type 0} where
  with_room : (exceeded : Option Exceeded) (request : Request) (Does : Type 0) (v w : PeerState M) (result : Result (Unit {0}) AnswerError) → exceeded ≡ None → Does → WithinShare exceeded request Does v result w
  with_room exceeded request Does v w result e does = let P : Option Exceeded → Type 0 = λ o. WithinShare o request Does v result w in subst P (sym e) does

  without_room : (exceeded : Option Exceeded) (limit : Exceeded) (request : Request) (Does : Type 0) (v w : PeerState M) (result : Result (Unit {0}) AnswerError) → exceeded ≡ Some limit → IsRefused request (beyond limit) v result w → WithinShare exceeded request Does v result w
  without_room exceeded limit request Does v w result e refused = let P : Option Exceeded → Type 0 = λ o. WithinShare o request Does v result w in subst P (sym e) refused

  -- the peer is seen as another record of the same
  pub within_share : (exceeded : HoldingsState → Option Exceeded) (request : Request) (Does : Type 0) (u v w : PeerState M) (result : Result (Unit {0}) AnswerError) → u ≡ v → exceeded u.holdings ≡ None → Does → WithinShare (exceeded v.holdings) request Does v result w
  within_share exceeded request Does u v w result is e does = with_room (exceeded v.holdings) request Does v w result (ap (λ (s : PeerState M). exceeded s.holdings) (sym is) ∙ e) does

  refused_for : (exceeded : Option Exceeded) (request : Request) (Does : Type 0) (why : Refused) (v w : PeerState M) (result : Result (Unit {0}) AnswerError) → IsWithin exceeded (Err why) → IsRefused request why v result w → WithinShare exceeded request (WithinMemory request Does v result w) v result w
  refused_for exceeded request Does why v w result (inl (limit, e, is)) refused =
      let P : Refused → Type 0 = λ y. IsRefused request y v result w in
      without_room exceeded limit request (WithinMemory request Does v result w) v w result e (subst P is refused)
  refused_for exceeded request Does why v w result (inr (e, is)) refused =
      let P : Refused → Type 0 = λ y. IsRefused request y v result w in
      with_room exceeded request (WithinMemory request Does v result w) v w result e (inr (subst P is refused))

  -- a call that is kept from the bus, by the client's share or for want of memory, of a peer that holds what it held
  pub kept_out : (exceeded : HoldingsState → Option Exceeded) (request : Request) (Does : Type 0) (why : Refused) (u v w : PeerState M) (held : HoldingsState) (result : Result (Unit {0}) AnswerError) → u ≡ v → held ≡ u.holdings → IsWithin (exceeded u.holdings) (Err why)
      → IsRefused request why (record u { holdings = held }) result w → WithinShare (exceeded v.holdings) request (WithinMemory request Does v result w) v result w
  kept_out exceeded request Does why u v w held result is h within refused =
      let S : PeerState M → Type 0 = λ s. WithinShare (exceeded s.holdings) request (WithinMemory request Does s result w) s result w in
      let Q : HoldingsState → Type 0 = λ x. IsRefused request why (record u { holdings = x }) result w in
      subst S is (refused_for (exceeded u.holdings) request Does why u w result within (subst Q h refused))
