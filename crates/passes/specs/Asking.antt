-- What a pass is answered without the lock: of the state after a history that begins with what it had seen, which it
-- has then seen (own).
use Rattle.std.specs.Prelude.{◌≡◌, ◌⊎◌, ℕ, ◌<◌, ◌≤◌, List, Option, Result, Ok, Err}
use mathlib.Core.List.{IsPrefix}
use Rattle.arrayvec.specs.ArrayVec.{ArrayVec}
use Rattle.message_view.specs.Message.{Message}
use Rattle.message_view.specs.Valid.{Valid}
use Rattle.fan_out.specs.declared.error.FanError.TheVariants as fan_errors
use Rattle.program_table.specs.declared.command.Command.{Command}
use Rattle.program_table.specs.State.{State}
use Rattle.program_table.specs.History.{after}
use Rattle.program_table.specs.Recipients.{AreRecipients}
use Rattle.passes.specs.declared.error.BusError.{BusError}
use Rattle.passes.specs.declared.error.BusError.TheVariants as errors

-- as many workers as there may be
abbrev pub max_workers : ℕ
max_workers = 16

module _ {M : Type 0} where
  -- these are the recipients of the message of these bytes
  abbrev pub AreRecipientsOf : State M → Option ℕ → List ℕ → List ℕ → Type 0
  AreRecipientsOf s sender bytes found = (m : Message) → Valid bytes m → AreRecipients s sender m found

  -- Recipients that this many workers find. Their number is looked at before all else.
  abbrev pub TellsByWorkers : List (Command M) → Option ℕ → List ℕ → ℕ → Result (ArrayVec ℕ) BusError → List (Command M) → Type 0
  TellsByWorkers seen sender bytes workers (Ok found) later =
      (0 < workers) × (workers ≤ max_workers) × IsPrefix seen later × AreRecipientsOf (after later) sender bytes found.items
  TellsByWorkers seen sender bytes workers (Err error) later =
      ((error ≡ errors.Fan fan_errors.Workers) × ((workers ≡ 0) ⊎ (max_workers < workers)) × (later ≡ seen))
      ⊎ ((0 < workers) × (workers ≤ max_workers)
      × (((error ≡ errors.Closed) × (later ≡ seen)) ⊎ ((error ≡ errors.Fan fan_errors.NotStarted) × IsPrefix seen later)))
