-- What is kept of the events so far (own).
use Rattle.std.specs.Prelude.{ℕ, List}
use Rattle.program_table.specs.State.{State}
use Rattle.world.specs.OpenJobs.{OpenJob}

-- how many there were, the state of the bus after them, and the open jobs by number
pub record WorldState : Type 0 where
  pub events : ℕ
  pub state : State (Unit {0})
  pub jobs : List (ℕ × OpenJob)
