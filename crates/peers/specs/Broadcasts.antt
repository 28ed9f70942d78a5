-- Inner: broadcasts of a peer's pass (own).
use Rattle.std.specs.Prelude.{ℕ, List, Result, Ok, Err}
use Rattle.outbox.specs.Seated.{OutboxId}
use Rattle.router.specs.BusError.{BusError}
use Rattle.router.specs.Source.{Source}
use Rattle.router.specs.Standing.{Standing}
use Rattle.router.specs.Passes.{PassState}
use Rattle.router.specs.Routes.{HasRouted, IsUnrouted}
use Rattle.peers.specs.declared.error.AnswerError.{AnswerError}

module _ {M : Type 0} where
  -- One broadcast more of the pass, which some outboxes may have refused; or nothing was put, for the bus's reason.
  abbrev pub Broadcasts : {A : Type 0} → Standing → (M → OutboxId) → Source → List ℕ → PassState M → Result A AnswerError → (recipients refused : List ℕ) → PassState M → Type 0
  Broadcasts standing outbox_of source bytes v (Ok _) recipients refused w = HasRouted standing outbox_of source bytes v recipients refused w
  Broadcasts standing outbox_of source bytes v (Err _) recipients refused w = (why : BusError) × IsUnrouted outbox_of why v w
