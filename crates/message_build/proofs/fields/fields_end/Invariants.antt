use Rattle.std.proofs.Common.{◌≡◌, ◌+◌, ◌≤◌, length, drop}
use Rattle.message_value.specs.declared.order.Order.TheVariants.{Little}
use Rattle.message_value.specs.Fits.{max_array_len}
use Rattle.message_view.specs.Spelling.{fixed_len, fields_bytes}
use Rattle.message_build.specs.HeaderFields.{fields_of}
use Rattle.message_build.proofs.fields.fields_end.Given as goal

abbrev pub invariant-loop-field : goal.invariant-loop-field
invariant-loop-field l =
    (fixed_len ≤ l.end)
    × (l.end ≤ fixed_len + max_array_len)
    × (fixed_len + length (fields_bytes Little fixed_len (fields_of l.fields)) ≡ l.end + length (fields_bytes Little l.end (fields_of (drop l.field-index l.fields))))
