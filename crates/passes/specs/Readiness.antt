-- Inner: what a pass that is admitted has seen.
use Rattle.std.specs.Prelude.{◌≡◌, Result, Ok, Err}
use Rattle.program_table.specs.History.{IsHistory}
use Rattle.published.specs.Publication.{Publication}
use Rattle.passes.specs.declared.error.BusError.{BusError}
use Rattle.passes.specs.declared.error.BusError.TheVariants as errors
use Rattle.passes.specs.Passes.{PassState, HasTaken}
use Rattle.passes.specs.Calls.{IsStopped, IsShutOut, shut_out}
use Rattle.passes.specs.Admission.{IsAdmitted}

module _ {M : Type 0} where
  -- it has then seen what is published
  pub record IsReady (v : PassState M) (before : Publication M) : Type 0 where
    pub legal : IsHistory before.history
    pub taken : HasTaken v
    pub seen : v.seen ≡ before.history
    pub admitted : IsAdmitted v before

  -- a pass is admitted, or Closed
  abbrev pub Admits : PassState M → Publication M → Result (Unit {0}) BusError → PassState M → Type 0
  Admits v before (Ok _) w = IsAdmitted v before × (w ≡ record v { seen = before.history }) × IsReady w before × HasTaken v
  Admits v before (Err error) w = (error ≡ errors.Closed) × IsStopped (shut_out v) before w before × IsShutOut v before
