use Rattle.message_value.specs.declared.order.Order.TheVariants.{Little}
use Rattle.message_build.specs.HeaderFields.{field_of}
use Rattle.message_build.proofs.Appended.{pushed_field}
use Rattle.message_build.proofs.field.HeaderField.push.Goals as goal

pub returns : goal.returns
returns c =
    pushed_field c.push_value.result Little c.args.bytes.now.items c.align.new.bytes.items c.extend_from_slice.new.self.items c.push_value.new.bytes.items (field_of c.args.self) c.code.result c.type_byte.result c.in_ok-align.ensures c.in_ok-extend_from_slice.ensures.items c.code.ensures c.type_byte.ensures c.push_value.ensures
