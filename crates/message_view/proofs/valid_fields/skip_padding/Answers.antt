use Rattle.std.proofs.Common.{◌≡◌, ap, ◌∙◌}
use Rattle.message_value.specs.Spelling.{padding}
use Rattle.message_view.proofs.ValidFields.{never, padding_item, padding_is}
use Rattle.message_view.proofs.valid_fields.skip_padding.Goals as goal

pub unreachable-requires : goal.unreachable-requires
unreachable-requires c =
    let len : c.padding-len.result ≡ padding c.args.alignment c.args.cursor.now.place = c.padding-len.ensures ∙ ap (padding c.args.alignment) c.place.ensures in
    let item = padding_item c.args.alignment c.padding-len.result c.args.cursor.now len c.requires.read in
    never _ item.0 _ item.1 c.in_default.ensures.read

pub returns : goal.returns
returns c =
    let len : c.padding-len.result ≡ padding c.args.alignment c.args.cursor.now.place = c.padding-len.ensures ∙ ap (padding c.args.alignment) c.place.ensures in
    padding_is c.args.alignment c.padding-len.result c.args.cursor.now _ _ len c.requires.read c.in-Ok.ensures.read
