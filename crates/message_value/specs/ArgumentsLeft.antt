-- Inner: the arguments that are left of a body that was checked.
use Rattle.std.specs.Prelude.{◌≡◌, ℕ, ◌≤◌, List, [], ◌∷◌, length, Option, Some, None, Result, Ok, Err}
use Rattle.std.specs.List.{All}
use Rattle.signature.specs.DataType.{DataType, DataTypes, no_types, one_more, slices, AllFit}
use Rattle.signature.specs.Trees.{type_of}
use Rattle.message_value.specs.declared.order.Order.{Order}
use Rattle.message_value.specs.declared.error.MsgError.{MsgError}
use Rattle.message_value.specs.declared.arg.Arg.{Arg}
use Rattle.message_value.specs.Value.{Values, Value}
use Rattle.message_value.specs.Fits.{max_levels}
use Rattle.message_value.specs.Reading.{At, value_at, members_at}
use Rattle.message_value.specs.Arguments.{Argument, arguments_from, argument_of}
use Rattle.message_value.specs.ShownArguments.{shown_arg}

-- the types whose texts these are
abbrev pub with_tree : Option DataType → DataTypes → DataTypes
with_tree (Some type) types = one_more type types
with_tree None types = no_types

abbrev pub trees_in : List (List ℕ) → DataTypes
trees_in [] = no_types
trees_in (text ∷ more) = with_tree (type_of text) (trees_in more)

abbrev pub arguments_read : Order → ℕ → DataTypes → Result (Values × At) MsgError → List Argument
arguments_read order place types (Ok found) = arguments_from order place types found.0
arguments_read order place types (Err fault) = []

-- the arguments of types whose texts these are, from a place on
abbrev pub arguments_left : Order → List (List ℕ) → At → List Argument
arguments_left order texts at = arguments_read order at.place (trees_in texts) (members_at (value_at max_levels order) (trees_in texts) at)

-- these are the texts of types of values that can be read from there on
pub record AreLeft (order : Order) (texts : List (List ℕ)) (at : At) : Type 0 where
  pub types : DataTypes
  pub spelled : texts ≡ slices types
  pub fit : AllFit 0 0 types
  pub short : All (λ text. length text ≤ 255) texts
  pub found : Values × At
  pub read : members_at (value_at max_levels order) types at ≡ Ok found

-- It is the argument that reading gives, which ends at a place.
abbrev pub ShowsArgument : Order → DataType → ℕ → Arg → At → Result (Value × At) MsgError → Type 0
ShowsArgument order type place arg tail read = (found : Value × At) → read ≡ Ok found → (tail ≡ found.1) × (shown_arg arg ≡ argument_of order place type found.0)
