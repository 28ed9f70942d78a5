use Rattle.std.proofs.Common.{◌≡◌, ◌++◌, true, length, drop}
use Rattle.std.specs.List.{list_all}
use Rattle.message_value.specs.declared.order.Order.TheVariants.{Little}
use Rattle.message_view.specs.Spelling.{fields_bytes}
use Rattle.message_build.specs.HeaderFields.{fields_of, may_be}
use Rattle.message_build.proofs.fields.push_fields.Given as goal

abbrev pub invariant-loop-field : goal.invariant-loop-field
invariant-loop-field l =
    (l.fn.bytes.items ++ fields_bytes Little (length l.fn.bytes.items) (fields_of l.fields) ≡ l.bytes.items ++ fields_bytes Little (length l.bytes.items) (fields_of (drop l.field-index l.fields)))
    × (list_all may_be (drop l.field-index l.fields) ≡ true)
