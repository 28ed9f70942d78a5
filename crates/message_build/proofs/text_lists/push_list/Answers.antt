use Rattle.std.proofs.Common.{string_bytes, sym}
use Rattle.signature.specs.DataType.{basic, array}
use Rattle.message_value.specs.Value.{text, elements}
use Rattle.message_build.specs.TextLists.{text_values}
use Rattle.message_build.proofs.Dicts.{entry_appended}
use Rattle.message_build.proofs.text_lists.push_list.Goals as goal

pub returns : goal.returns
returns c =
    let list = c.args.list.now in
    entry_appended c.push_texts.result c.args.bytes.now.items c.align.new.bytes.items c.push_string.new.bytes.items c.push_texts.new.bytes.items (array (basic 115)) (text (string_bytes list.key)) (elements (text_values list.texts.items))
    c.in_ok-align.ensures (rw (sym c.as_bytes.ensures.value) c.in_ok-push_string.ensures) (rw (sym c.deref.ensures.value) c.push_texts.ensures)
