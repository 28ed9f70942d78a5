use Rattle.std.proofs.Common.{sym}
use Rattle.signature.specs.DataType.{basic}
use Rattle.message_value.specs.Value.{number, text}
use Rattle.message_build.proofs.Dicts.{variant_appended}
use Rattle.message_build.proofs.facts.push_fact.Goals as goal

pub returns-in_ok-push_signature-in-Number : goal.returns-in_ok-push_signature-in-Number
returns-in_ok-push_signature-in-Number c =
    rw c.in-Number.is (variant_appended c.push_number.result c.args.bytes.now.items c.push_signature.new.bytes.items c.push_number.new.bytes.items (basic 117) (number c.in-Number.n)
    c.in_ok-push_signature-in-Number.ensures c.push_number.ensures)

pub returns-in_ok-push_signature-in-Text : goal.returns-in_ok-push_signature-in-Text
returns-in_ok-push_signature-in-Text c =
    rw c.in-Text.is (variant_appended c.push_string.result c.args.bytes.now.items c.push_signature-in-Text.new.bytes.items c.push_string.new.bytes.items (basic 115) (text c.in-Text.string.now)
    c.in_ok-push_signature-in-Text.ensures (rw (sym c.as_bytes.ensures.value) c.push_string.ensures))
