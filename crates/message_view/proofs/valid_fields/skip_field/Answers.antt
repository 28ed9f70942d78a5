use Rattle.std.proofs.Common.{[], Some, None}
use Rattle.message_view.proofs.ValidFields.{field_coded, field_held, field_ends}
use Rattle.message_view.proofs.valid_fields.skip_field.Goals as goal

pub valid_code-byte-requires : goal.valid_code-byte-requires
valid_code-byte-requires c = ([], field_coded c.args.order [] c.args.cursor.now c.requires)

pub skip_valid_content-requires : goal.skip_valid_content-requires
skip_valid_content-requires c =
    let coded = c.valid_code-byte.ensures [] (field_coded c.args.order [] c.args.cursor.now c.requires) in
    field_held c.args.order [] c.args.cursor.now _ _ None c.in_default.ensures coded c.requires

pub returns-in_default : goal.returns-in_default
returns-in_default c = λ field tail is.
    let coded = c.valid_code-byte.ensures [] (field_coded c.args.order [] c.args.cursor.now c.requires) in
    field_ends c.args.order [] c.args.cursor.now _ _ _ None _ field tail c.in_default.ensures coded c.skip_valid_content.ensures.1 is

pub valid_content-content-requires : goal.valid_content-content-requires
valid_content-content-requires c =
    let coded = c.valid_code-byte.ensures [] (field_coded c.args.order [] c.args.cursor.now c.requires) in
    field_held c.args.order [] c.args.cursor.now _ _ (Some c.in-Some.code) c.in-Some.ensures coded c.requires

pub returns : goal.returns
returns c = λ field tail is.
    let coded = c.valid_code-byte.ensures [] (field_coded c.args.order [] c.args.cursor.now c.requires) in
    field_ends c.args.order [] c.args.cursor.now _ _ _ (Some c.in-Some.code) _ field tail c.in-Some.ensures coded c.valid_content-content.ensures.read is
