-- What the writer has published (own).
use Rattle.std.specs.Prelude.{Bool, false, List, [], ◌∷◌, ◌++◌, if◌then◌else◌}
use Rattle.program_table.specs.declared.command.Command.{Command}
use Rattle.program_table.specs.Does.{is_accepted}
use Rattle.program_table.specs.History.{after}

-- the published history, and whether the bus has ended, so that nothing more is published
pub record Publication (M : Type 0) : Type 0 where
  pub history : List (Command M)
  pub has_ended : Bool

module _ {M : Type 0} where
  abbrev pub nothing_published : Publication M
  nothing_published = record { history = []; has_ended = false }

  -- the history after a command, which becomes its next one where it is accepted
  abbrev pub with_next : List (Command M) → Command M → List (Command M)
  with_next history command = if is_accepted (after history) command then history ++ command ∷ [] else history
