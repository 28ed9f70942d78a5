-- The rule over the published history and what each seat has seen of it (own).
use Rattle.std.specs.Prelude.{ℕ, ◌≡◌, List}
use mathlib.Core.List.{IsPrefix}
use mathlib.Core.Option.{some}
use lib.ListN.{get_elem?}
use Rattle.program_table.specs.declared.command.Command.{Command}

module _ {M : Type 0} where
  -- each view begins the published history
  abbrev pub Keeps : List (Command M) → List (List (Command M)) → Type 0
  Keeps history views = (seat : ℕ) (seen : List (Command M)) → get_elem? views seat ≡ some seen → IsPrefix seen history
