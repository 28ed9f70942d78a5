-- What a pass has seen and done (own).
use Rattle.std.specs.Prelude.{◌≡◌, ◌≢◌, ℕ, ◌≤◌, ◌<◌, Bool, false, List, [], length, Option, Some, None}
use Rattle.program_table.specs.declared.command.Command.{Command}
use Rattle.program_table.specs.History.{own_commands}
use Rattle.routing.specs.SenderView.{RecipientSeatView}
use Rattle.passes.specs.declared.reading.Source.{Source}
use Rattle.passes.specs.declared.reading.Source.TheVariants.{Own, Bus}

-- the history that it has seen; the connection that its connect made, 0 before that; whether its close was accepted;
-- whether a call of its connection was Closed, or has ended the bus; how many of its calls were accepted; the count of its last
-- broadcast, 0 before the first; and its seats at the outboxes of those to whom it has sent
pub record PassState (M : Type 0) : Type 0 where
  pub seen : List (Command M)
  pub connection : ℕ
  pub is_closed : Bool
  pub is_shut_out : Bool
  pub took : ℕ
  pub count : ℕ
  pub recipient_seats : List RecipientSeatView

-- how many readers of passes that are over a bus keeps at most
abbrev pub max_kept : ℕ
max_kept = 256

module _ {M : Type 0} where
  -- a pass that has seen this, and did nothing
  abbrev pub new_pass : List (Command M) → PassState M
  new_pass seen = record { seen = seen; connection = 0; is_closed = false; is_shut_out = false; took = 0; count = 0; recipient_seats = [] }

  -- as many commands of its connection as it took were seen, its connect among them
  pub record HasTaken (v : PassState M) : Type 0 where
    pub none : v.connection ≡ 0 → v.took ≡ 0
    pub some : v.connection ≢ 0 → 0 < v.took
    pub own : v.took ≤ length (own_commands v.connection v.seen)

-- a pass that was never connected sends nothing, and one whose close was accepted nothing of its own
abbrev pub IsOpenTo : {M : Type 0} → Source → PassState M → Type 0
IsOpenTo Own v = (v.connection ≢ 0) × (v.is_closed ≡ false)
IsOpenTo Bus v = v.connection ≢ 0

-- the sender of the message that a pass asks for. None is the bus.
abbrev pub sender_of : Source → ℕ → Option ℕ
sender_of Own connection = Some connection
sender_of Bus connection = None
