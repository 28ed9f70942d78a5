-- The rule of the history, and what its steps tell (own).
use Rattle.std.specs.Prelude.{◌≡◌, true, List, [], ◌∷◌, length}
use Rattle.logbook.specs.Pages.{Cell}
use Rattle.program_table.specs.declared.command.Command.{Command}
use Rattle.program_table.specs.History.{IsHistory}

module _ {M : Type 0} where
  -- The commands were accepted, and the first word is how many they are. A book has two words, of which this one leaves
  -- the second at 0.
  pub record IsKept (cells : List Cell) (log : List (Command M)) : Type 0 where
    pub words : cells ≡ (length log, true) ∷ (0, true) ∷ []
    pub accepted : IsHistory log
