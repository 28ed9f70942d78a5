-- The places in the history of the bus that messages about names bear (own).
use Rattle.std.specs.Prelude.{ℕ, ◌+◌, Option, Some, None}
use Rattle.passes.specs.declared.standing.Standing.{Standing}
use Rattle.passes.specs.declared.standing.Standing.TheVariants.{Apart, Next, Last, State}

-- The place of what is put where this many commands were published. The announcement of the n-th command is at 2n, and an answer in
-- the state after n commands at 2n + 1: so an answer comes after the announcements of all that led to what it tells, and before
-- those of what changes it.
abbrev pub place_at : Standing → ℕ → Option ℕ
place_at Apart commands = None
place_at Next commands = Some (commands + commands + 2)
place_at Last commands = Some (commands + commands)
place_at State commands = Some (commands + commands + 1)
