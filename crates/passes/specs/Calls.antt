-- What the calls of a pass do, under the lock of the bus (own).
use Rattle.std.specs.Prelude.{◌≡◌, ◌≢◌, ◌⊎◌, ◌+◌, ◌<◌, ◌||◌, ℕ, Bool, true, false, List, [], ◌∷◌, ◌++◌, length, Result, Ok, Err}
use mathlib.Core.List.{IsPrefix}
use Rattle.program_table.specs.declared.capacity.Capacity.{Capacity}
use Rattle.program_table.specs.declared.command.Command.{Command}
use Rattle.program_table.specs.declared.command.Command.TheVariants.{Limit, Connect, DropOne}
use Rattle.program_table.specs.declared.command.Reply.{Reply}
use Rattle.program_table.specs.declared.command.Reply.TheVariants.{Connected, Nothing, Refused}
use Rattle.program_table.specs.declared.refusal.Refusal.{Refusal}
use Rattle.program_table.specs.Connections.{commands_of}
use Rattle.program_table.specs.Does.{is_accepted, reply_to}
use Rattle.program_table.specs.History.{after, own_commands}
use Rattle.published.specs.Publication.{Publication}
use Rattle.passes.specs.declared.error.BusError.{BusError}
use Rattle.passes.specs.declared.error.BusError.TheVariants as errors
use Rattle.passes.specs.Errors.{error_of, shuts_out}
use Rattle.passes.specs.Passes.{PassState}

module _ {M : Type 0} where
  -- the connection of this number is there and has no claim on a name, after this history
  abbrev pub HasNoClaim : ℕ → List (Command M) → Type 0
  HasNoClaim connection history = reply_to (after history) (DropOne connection) ≡ Nothing

  -- the pass has seen what is published, which begins with what it had seen
  abbrev pub HasSeenAll : PassState M → Publication M → PassState M → Type 0
  HasSeenAll v now w = IsPrefix v.seen now.history × (w ≡ record v { seen = now.history })

  -- the pass has seen what is published, after which its connection is there and has no claim on a name
  abbrev pub ClaimsNothing : PassState M → Publication M → PassState M → Type 0
  ClaimsNothing v now w = HasSeenAll v now w × HasNoClaim v.connection now.history

  -- its connection has a claim there, or isn't there; or fewer commands are published than it has seen
  abbrev pub ClaimsOrIsGone : PassState M → Publication M → PassState M → Type 0
  ClaimsOrIsGone v now w = (HasSeenAll v now w × (HasNoClaim v.connection now.history → ⊥)) ⊎ ((length now.history < length v.seen) × (w ≡ v))

  -- What is said of a call through the bus: it is so of what was published when it had the lock, and after it.
  abbrev pub Once : (Publication M → Publication M → Type 0) → Type 0
  Once P = (before : Publication M) × (next : Publication M) × P before next

  -- A command of w's connection is accepted after the history that is published, which begins with what the pass v had
  -- seen. It is published and seen by the pass w, and counted there, and nothing else of the pass changes but its connection and
  -- whether that was closed. The commands of the connection that w has seen are those that v had seen, and this one, and they are
  -- as many as it took.
  pub record IsDone (v : PassState M) (before : Publication M) (command : Command M) (reply : Reply) (w : PassState M) (next : Publication M) : Type 0 where
    pub begins : IsPrefix v.seen before.history
    pub accepted : is_accepted (after before.history) command ≡ true
    pub replies : reply ≡ reply_to (after before.history) command
    pub published : next.history ≡ before.history ++ command ∷ []
    pub same : w ≡ record v { seen = next.history; connection = w.connection; is_closed = w.is_closed; took = v.took + 1 }
    pub own : own_commands w.connection w.seen ≡ own_commands w.connection v.seen ++ command ∷ []
    pub all : length (own_commands w.connection w.seen) ≡ w.took

  -- the pass after a call that was Closed, or has ended the bus
  abbrev pub shut_out : PassState M → PassState M
  shut_out v = record v { is_shut_out = true }

  -- the pass after a call that was refused so
  abbrev pub after_error : BusError → PassState M → PassState M
  after_error error v = record v { is_shut_out = shuts_out error || v.is_shut_out }

  -- The state refuses the command. The pass has seen what is published.
  pub record IsRefused (v : PassState M) (before : Publication M) (command : Command M) (error : BusError) (w : PassState M) (next : Publication M) : Type 0 where
    pub begins : IsPrefix v.seen before.history
    pub refusal : Refusal
    pub replies : reply_to (after before.history) command ≡ Refused refusal
    pub error_is : error ≡ error_of refusal
    pub published : next.history ≡ before.history
    pub seen : w ≡ after_error error (record v { seen = before.history })

  -- of its own commands the pass finds those that it had seen, and as many as it took
  pub record KeepsOwn (v w : PassState M) : Type 0 where
    pub own : own_commands v.connection w.seen ≡ own_commands v.connection v.seen
    pub all : length (own_commands v.connection w.seen) ≡ w.took

  -- why a call is Closed, whatever the state says
  pub data IsShutOut (v : PassState M) (before : Publication M) : Type 0 where
    -- the pass was never connected
    unconnected : v.connection ≡ 0 → IsShutOut v before
    -- its close was accepted
    closed : v.is_closed ≡ true → IsShutOut v before
    -- the bus has ended
    ended : before.has_ended ≡ true → IsShutOut v before
    -- other commands of its connection are published than it took
    others : commands_of v.connection (after before.history).connections ≢ v.took → IsShutOut v before
    -- fewer commands are published than it has seen
    fewer : length before.history < length v.seen → IsShutOut v before

  -- Nothing was published, and the pass has seen at least what it had.
  pub record IsStopped (v : PassState M) (before : Publication M) (w : PassState M) (next : Publication M) : Type 0 where
    pub begins : IsPrefix v.seen w.seen
    pub same : w ≡ record v { seen = w.seen }
    pub published : next.history ≡ before.history

  -- memory was refused to what would be published, which ends the bus
  abbrev pub EndsBus : Publication M → BusError → Publication M → Type 0
  EndsBus before error next = (error ≡ errors.NoMemory) × (before.has_ended ≡ false) × (next.has_ended ≡ true)

  -- it was shut out, or has ended the bus, and the pass tells so from then on
  abbrev pub IsClosed : PassState M → Publication M → BusError → PassState M → Publication M → Type 0
  IsClosed v before error w next = IsStopped (shut_out v) before w next × (((error ≡ errors.Closed) × IsShutOut v before) ⊎ EndsBus before error next)

  -- a call that publishes a command of the pass's connection
  abbrev pub Answers : Bool → PassState M → Publication M → Command M → Result Reply BusError → PassState M → Publication M → Type 0
  Answers closes v before command (Ok reply) w next = IsDone v before command reply w next × (w.connection ≡ v.connection) × (w.is_closed ≡ closes)
  Answers closes v before command (Err error) w next = (IsRefused v before command error w next × KeepsOwn v w) ⊎ IsClosed v before error w next

  -- why a limit is Closed: the bus has ended, or accepts no more commands
  abbrev pub TakesNoLimit : Capacity → Publication M → Type 0
  TakesNoLimit most before = (before.has_ended ≡ true) ⊎ (is_accepted (after before.history) (Limit most) ≡ false)

  -- how much there may be is told by the next command, or nothing changes
  abbrev pub Limits : Capacity → Publication M → Result (Unit {0}) BusError → Publication M → Type 0
  Limits most before (Ok _) next = next.history ≡ before.history ++ Limit most ∷ []
  Limits most before (Err error) next = (next.history ≡ before.history) × (((error ≡ errors.Closed) × TakesNoLimit most before) ⊎ EndsBus before error next)

  -- why a Connect is Closed, whatever the state says
  pub data IsPast (v : PassState M) (before : Publication M) : Type 0 where
    -- the pass was connected already
    connected : v.connection ≢ 0 → IsPast v before
    -- its close was accepted
    closed : v.is_closed ≡ true → IsPast v before
    -- the bus has ended
    ended : before.has_ended ≡ true → IsPast v before
    -- fewer commands are published than it has seen
    fewer : length before.history < length v.seen → IsPast v before

  -- memory for the outbox's turn was refused, and nothing is published
  abbrev pub IsUnreserved : Publication M → BusError → Publication M → Type 0
  IsUnreserved before error next = (error ≡ errors.NoMemory) × (next ≡ before)

  -- the call that makes the pass's connection
  abbrev pub Connects : PassState M → Publication M → M → Result Reply BusError → PassState M → Publication M → Type 0
  Connects v before mailbox (Ok reply) w next = IsDone v before (Connect mailbox) reply w next × (reply ≡ Connected w.connection) × (w.is_closed ≡ false)
  Connects v before mailbox (Err error) w next =
      IsRefused v before (Connect mailbox) error w next ⊎ (IsStopped v before w next × (((error ≡ errors.Closed) × IsPast v before) ⊎ (EndsBus before error next ⊎ IsUnreserved before error next)))
