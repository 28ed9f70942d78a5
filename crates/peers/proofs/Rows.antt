-- The rows of the table of methods.
use Rattle.std.proofs.Common.{◌≡◌, Result, subst}
use Rattle.router.specs.BusError.{BusError}
use Rattle.router.specs.Reply.{Reply}
use Rattle.router.specs.Passes.{PassState}
use Rattle.peers.specs.declared.error.AnswerError.{AnswerError}
use Rattle.peers.specs.declared.request.Request.{Request}
use Rattle.peers.specs.Holdings.{HoldingsState}
use Rattle.peers.specs.Passing.{with_pass}
use Rattle.peers.specs.PeerState.{PeerState}
use Rattle.peers.specs.Rows.{HasCalled, with_holdings, Confirms, IsConfirmed, Numbers, NumbersEntry}

module _ {M : Type 0} where
  -- a call of the pass, and what followed, of a peer that is seen as another record of the same
  pub called : (P : PassState M → Result Reply BusError → PassState M → Type 0) (Q : Result Reply BusError → PeerState M → Type 0) (u v : PeerState M) (asked : Result Reply BusError) (pass : PassState M) → u ≡ v → P u.pass asked pass → Q asked (with_pass u pass) → HasCalled (P v.pass) Q v
  called P Q u v asked pass is p q = (asked, pass, subst (λ (s : PeerState M). P s.pass asked pass) is p, subst (λ (s : PeerState M). Q asked (with_pass s pass)) is q)

  -- and what the client holds changed by the bus's answer
  pub confirmed : (request : Request) (P : PassState M → Result Reply BusError → PassState M → Type 0) (change : Result Reply BusError → HoldingsState → HoldingsState) (u v w : PeerState M) (asked : Result Reply BusError) (pass : PassState M) (held : HoldingsState) (result : Result (Unit {0}) AnswerError) → u ≡ v → P u.pass asked pass
      → held ≡ change asked u.holdings → Confirms request asked (record u { pass = pass; holdings = held }) result w → IsConfirmed request (P v.pass) change v result w
  confirmed request P change u v w asked pass held result is p h c =
      let Q : HoldingsState → Type 0 = λ x. Confirms request asked (record u { pass = pass; holdings = x }) result w in
      called P (λ reply mid. Confirms request reply (with_holdings (change reply) mid) result w) u v asked pass is p (subst Q h c)

  pub numbered : (request : Request) (P : PassState M → Result Reply BusError → PassState M → Type 0) (change : Result Reply BusError → HoldingsState → HoldingsState) (u v w : PeerState M) (asked : Result Reply BusError) (pass : PassState M) (held : HoldingsState) (result : Result (Unit {0}) AnswerError) → u ≡ v → P u.pass asked pass
      → held ≡ change asked u.holdings → Numbers request asked (record u { pass = pass; holdings = held }) result w → NumbersEntry request (P v.pass) change v result w
  numbered request P change u v w asked pass held result is p h c =
      let Q : HoldingsState → Type 0 = λ x. Numbers request asked (record u { pass = pass; holdings = x }) result w in
      called P (λ reply mid. Numbers request reply (with_holdings (change reply) mid) result w) u v asked pass is p (subst Q h c)
