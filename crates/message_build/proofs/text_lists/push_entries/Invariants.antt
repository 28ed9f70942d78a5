use Rattle.std.proofs.Common.{◌≡◌, ◌++◌, length, take, drop}
use Rattle.signature.specs.DataType.{basic, array}
use Rattle.message_value.specs.declared.order.Order.TheVariants.{Little}
use Rattle.message_value.specs.Spelling.{entries_bytes}
use Rattle.message_build.specs.TextLists.{text_list_entries}
use Rattle.message_build.proofs.text_lists.push_entries.Given as goal

abbrev pub invariant-loop-list : goal.invariant-loop-list
invariant-loop-list l =
    (l.fn.bytes.items ++ entries_bytes Little (length l.fn.bytes.items) 115 (array (basic 115)) (text_list_entries l.lists) ≡ l.bytes.items ++ entries_bytes Little (length l.bytes.items) 115 (array (basic 115)) (text_list_entries (drop l.list-index l.lists)))
    × (take (length l.fn.bytes.items) l.bytes.items ≡ l.fn.bytes.items)
