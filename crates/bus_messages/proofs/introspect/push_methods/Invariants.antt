use Rattle.std.proofs.Common.{◌≡◌, ◌++◌, drop, map, string_bytes}
use Rattle.bus_messages.specs.Introspection.{methods_text}
use Rattle.bus_messages.specs.Rows.{method_row_of}
use Rattle.bus_messages.proofs.introspect.push_methods.Given as goal

abbrev pub invariant-loop-row : goal.invariant-loop-row
invariant-loop-row l = string_bytes l.text ++ methods_text l.interface (map method_row_of (drop l.row-index l.rows)) ≡ string_bytes l.fn.text ++ methods_text l.interface (map method_row_of l.rows)
