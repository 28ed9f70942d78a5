-- Whether a pass may ask for something (own).
use Rattle.std.specs.Prelude.{◌≡◌, ◌≢◌, false}
use mathlib.Core.List.{IsPrefix}
use Rattle.program_table.specs.Connections.{commands_of}
use Rattle.program_table.specs.History.{after}
use Rattle.published.specs.Publication.{Publication}
use Rattle.passes.specs.Passes.{PassState}

module _ {M : Type 0} where
  -- nothing shuts the pass out: it is connected, the bus hasn't ended, and as many commands of the connection are
  -- published as it took
  pub record IsAdmitted (v : PassState M) (before : Publication M) : Type 0 where
    pub begins : IsPrefix v.seen before.history
    pub connected : v.connection ≢ 0
    pub open_still : v.is_closed ≡ false
    pub not_ended : before.has_ended ≡ false
    pub counts : commands_of v.connection (after before.history).connections ≡ v.took
