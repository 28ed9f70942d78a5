-- Unicast messages of a pass (own).
use Rattle.std.specs.Prelude.{◌≡◌, ◌⊎◌, ◌==◌, ℕ, true, List, None}
use Rattle.outbox.specs.Seated.{OutboxId}
use Rattle.program_table.specs.History.{after}
use Rattle.routing.specs.RecipientSeats.{shut_at, waits_at}
use Rattle.passes.specs.NameOwners.{IsOwner}
use Rattle.passes.specs.declared.error.BusError.{BusError}
use Rattle.passes.specs.declared.error.BusError.TheVariants as errors
use Rattle.passes.specs.declared.unicasts.Sent.{Sent}
use Rattle.passes.specs.declared.unicasts.Sent.TheVariants.{Put, NoOwner, Full}
use Rattle.passes.specs.declared.standing.Standing.{Standing}
use Rattle.passes.specs.Passes.{PassState}
use Rattle.passes.specs.Routes.{Sends, HasPut, HasNotPut}

module _ {M : Type 0} where
  -- What became of a unicast message with these bytes to the owner of a name, after what the pass has seen: it was put to
  -- the owner, and nothing was put anywhere else; or nothing was put, since nobody owns the name, or the owner's outbox is
  -- shut. The owner's outbox then waits to be written out. No count is used. The
  -- message bears the place at which it stands.
  abbrev pub Unicasts : Standing → (M → OutboxId) → List ℕ → List ℕ → PassState M → Sent → PassState M → Type 0
  Unicasts standing outbox_of to bytes v (Put n) w = IsOwner (after w.seen) to n × Sends outbox_of v w × (w.count ≡ v.count) × HasPut standing (λ m. n == m) bytes None v w × (waits_at n w.recipient_seats ≡ true)
  Unicasts standing outbox_of to bytes v NoOwner w = HasNotPut outbox_of v w × ((n : ℕ) → IsOwner (after w.seen) to n → ⊥)
  Unicasts standing outbox_of to bytes v (Full n) w = HasNotPut outbox_of v w × IsOwner (after w.seen) to n × (shut_at n w.recipient_seats ≡ true) × (waits_at n w.recipient_seats ≡ true)

  -- nothing was put
  abbrev pub IsUnsent : (M → OutboxId) → BusError → PassState M → PassState M → Type 0
  IsUnsent outbox_of error v w = ((error ≡ errors.Closed) × (w ≡ v)) ⊎ ((error ≡ errors.NoMemory) × HasNotPut outbox_of v w)
