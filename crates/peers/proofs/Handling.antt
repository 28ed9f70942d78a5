-- Where a message goes.
use Rattle.std.proofs.Common.{◌≡◌, ℕ, Bool, true, false, List, Option, Some, Result, sym, subst}
use Rattle.outbox.specs.Seated.{OutboxId}
use Rattle.message_view.specs.Message.{Message, destination_of}
use Rattle.message_view.specs.Valid.{Valid}
use Rattle.peers.specs.declared.error.AnswerError.{AnswerError}
use Rattle.peers.specs.declared.shares.Shares.{Shares}
use Rattle.peers.specs.Handling.{HandledAs, HandledOf, Handles, PassesOn, is_for_bus, is_known, is_signal}
use Rattle.peers.specs.Calling.{HasSent}
use Rattle.peers.specs.PeerState.{PeerState}

module _ {M : Type 0} where
  -- a message with a destination that isn't for the bus
  pub handled_to : (outbox_of : M → OutboxId) (shares : Shares) (bytes name : List ℕ) (m : Message) (v w : PeerState M) (result : Result (Unit {0}) AnswerError) → is_for_bus m ≡ false → is_known m.kind ≡ true → destination_of m ≡ Some name → HasSent outbox_of shares bytes name v result w
      → HandledAs outbox_of shares bytes m (is_for_bus m) v result w
  handled_to outbox_of shares bytes name m v w result f k d h =
      let B : Bool → Type 0 = λ b. HandledAs outbox_of shares bytes m b v result w in
      let K : Bool → Type 0 = λ b. PassesOn outbox_of shares bytes b (is_signal m.kind) (destination_of m) v result w in
      let D : Option (List ℕ) → Type 0 = λ o. PassesOn outbox_of shares bytes true (is_signal m.kind) o v result w in
      subst B (sym f) (subst K (sym k) (subst D (sym d) h))

  -- a message of a client that doesn't watch the bus
  pub handled_unwatching : (outbox_of : M → OutboxId) (shares : Shares) (bytes : List ℕ) (v w : PeerState M) (result : Result (Unit {0}) AnswerError) → v.pass.is_closed ≡ false → ((m : Message) → Valid bytes m → HandledAs outbox_of shares bytes m (is_for_bus m) v result w)
      → Handles outbox_of shares bytes v result w
  handled_unwatching outbox_of shares bytes v w result is_open h =
      let P : Bool → Type 0 = λ b. HandledOf outbox_of b shares bytes v result w in
      subst P (sym is_open) h
