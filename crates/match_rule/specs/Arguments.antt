-- The arguments of a message that are texts (own).
use Rattle.std.specs.Prelude.{ℕ, List, Option, Some, None, option_map}
use Rattle.message_value.specs.Arguments.{Argument}

-- the code of its type and the text, of an argument that is one
abbrev pub text_in : Option Argument → Option (ℕ × List ℕ)
text_in None = None
text_in (Some argument) = option_map (λ text. (argument.code, text)) argument.text
