-- The arguments that the code lends, as those of the definitions (own).
use Rattle.std.specs.Prelude.{option_map}
use Rattle.message_value.specs.declared.arg.Arg.{Arg}
use Rattle.message_value.specs.Arguments.{Argument}

abbrev pub shown_arg : Arg → Argument
shown_arg arg = record { code = arg.code; place = arg.place; len = arg.len; text = option_map (λ text. text.now) arg.text }
