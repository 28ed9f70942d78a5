use Rattle.std.proofs.Common.{◌≡◌, ◌<◌, ◌++◌, length, get_or, None, arith}
use Rattle.std.proofs.lemmas.List.{get_or_default}
use Rattle.message_value.specs.declared.order.Order.TheVariants.{Little}
use Rattle.message_view.specs.Spelling.{fields_bytes}
use Rattle.message_build.specs.HeaderFields.{fields_of}
use Rattle.message_build.proofs.FieldList.{left_at, allowed_at}
use Rattle.message_build.proofs.fields.push_fields.Goals as goal

pub loop-field-preserved : goal.loop-field-preserved
loop-field-preserved c =
    let i = c.loop-field.field-index in
    let xs = c.args.fields.now in
    let x = get_or xs i None in
    let lt : i < length xs = omega arith in
    let is : x ≡ get_or xs i x = get_or_default xs i None x lt in
    let old = c.args.bytes.now.items in
    let whole = old ++ fields_bytes Little (length old) (fields_of xs) in
    (left_at whole c.loop-field.bytes.items c.push_field.new.bytes.items i x xs lt is c.loop-field.invariant.0 c.in_ok-push_field.ensures, (allowed_at i x xs lt is c.loop-field.invariant.1).1)
