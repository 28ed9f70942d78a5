use Rattle.std.proofs.Common.{◌≡◌, ◌++◌, length, take, drop}
use Rattle.signature.specs.DataType.{basic}
use Rattle.message_value.specs.declared.order.Order.TheVariants.{Little}
use Rattle.message_value.specs.Spelling.{elements_bytes}
use Rattle.message_build.specs.Adding.{string_values}
use Rattle.message_build.proofs.strings.push_elements.Given as goal

abbrev pub invariant-loop-string : goal.invariant-loop-string
invariant-loop-string l =
    (l.fn.bytes.items ++ elements_bytes Little (length l.fn.bytes.items) (basic 115) (string_values l.strings) ≡ l.bytes.items ++ elements_bytes Little (length l.bytes.items) (basic 115) (string_values (drop l.string-index l.strings)))
    × (take (length l.fn.bytes.items) l.bytes.items ≡ l.fn.bytes.items)
