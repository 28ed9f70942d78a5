use Rattle.std.proofs.Common.{◌≡◌, ◌++◌, length, take, drop}
use Rattle.signature.specs.DataType.{basic}
use Rattle.message_value.specs.declared.order.Order.TheVariants.{Little}
use Rattle.message_value.specs.Spelling.{elements_bytes}
use Rattle.message_build.specs.TextLists.{text_values}
use Rattle.message_build.proofs.text_lists.push_elements.Given as goal

abbrev pub invariant-loop-text : goal.invariant-loop-text
invariant-loop-text l =
    (l.fn.bytes.items ++ elements_bytes Little (length l.fn.bytes.items) (basic 115) (text_values l.texts) ≡ l.bytes.items ++ elements_bytes Little (length l.bytes.items) (basic 115) (text_values (drop l.text-index l.texts)))
    × (take (length l.fn.bytes.items) l.bytes.items ≡ l.fn.bytes.items)
