use Rattle.std.proofs.Common.{◌≡◌, ◌++◌, string_bytes}
use Rattle.std.specs.List.{flat_map}
use Rattle.bus_messages.specs.Introspection.{argument_text, arguments_text}
use Rattle.bus_messages.proofs.introspect.push_arguments.Given as goal

abbrev pub invariant-loop-one : goal.invariant-loop-one
invariant-loop-one l = string_bytes l.text ++ flat_map (argument_text l.before) l.one-iterator ≡ string_bytes l.fn.text ++ arguments_text l.before l.signature
