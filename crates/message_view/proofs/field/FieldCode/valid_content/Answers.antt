use Rattle.std.proofs.Common.{◌≡◌, ◌∙◌, sym, ap, subst}
use Rattle.signature.specs.DataType.{basic}
use Rattle.message_value.specs.Reading.{At, value_at, IsRead}
use Rattle.message_view.specs.Header.{type_code}
use Rattle.message_view.specs.FieldAnswers.{type_code_of}
use Rattle.message_view.proofs.ValidFields.{content_typed, content_valid, row_read}
use Rattle.message_view.proofs.field.FieldCode.valid_content.Goals as goal

pub skip_basic_signature-requires : goal.skip_basic_signature-requires
skip_basic_signature-requires c =
    let h = content_typed c.args.order c.args.self c.args.cursor.now c.requires in
    (type_code c.args.self, h.start, h.typed)

pub valid_value-requires : goal.valid_value-requires
valid_value-requires c =
    let h = content_typed c.args.order c.args.self c.args.cursor.now c.requires in
    let there : c.skip_basic_signature.new.cursor ≡ h.start = c.skip_basic_signature.ensures (basic (type_code c.args.self), h.start) h.typed in
    subst (λ (a : At). IsRead (value_at 63 c.args.order (basic (type_code_of c.field_type.result)) a)) (sym there) (row_read c.args.order c.args.self c.field_type.result h.start c.field_type.ensures h.valued)

pub returns-clause-read : goal.returns-clause-read
returns-clause-read c =
    let h = content_typed c.args.order c.args.self c.args.cursor.now c.requires in
    let there : c.skip_basic_signature.new.cursor ≡ h.start = c.skip_basic_signature.ensures (basic (type_code c.args.self), h.start) h.typed in
    content_valid c.args.order c.args.self c.field_type.result c.args.cursor.now h.start _ _ c.field_type.ensures h.typed (ap (value_at 63 c.args.order (basic (type_code_of c.field_type.result))) (sym there) ∙ c.valid_value.ensures.read) c.requires
