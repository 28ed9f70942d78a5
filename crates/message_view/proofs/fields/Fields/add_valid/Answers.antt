use Rattle.std.proofs.Common.{Some, None, Ok}
use Rattle.message_view.proofs.ValidFields.{field_coded, field_held}
use Rattle.message_view.proofs.KeptExtents.{front_next, front_passed}
use Rattle.message_view.proofs.fields.Fields.add_valid.Goals as goal

pub valid_code-byte-requires : goal.valid_code-byte-requires
valid_code-byte-requires c = (c.requires.0, field_coded c.args.order c.requires.0 c.args.cursor.now c.requires.1)

pub skip_valid_content-requires : goal.skip_valid_content-requires
skip_valid_content-requires c =
    let coded = c.valid_code-byte.ensures c.requires.0 (field_coded c.args.order c.requires.0 c.args.cursor.now c.requires.1) in
    field_held c.args.order c.requires.0 c.args.cursor.now _ _ None c.in_default.ensures coded c.requires.1

pub returns-in_default : goal.returns-in_default
returns-in_default c = λ start front is read.
    let coded = c.valid_code-byte.ensures front (field_coded c.args.order front c.args.cursor.now read) in
    front_passed {X = Unit {0}} c.args.order start front c.args.self.now c.args.cursor.now _ _ _ (Ok tt) is c.in_default.ensures coded c.skip_valid_content.ensures

pub valid_content-content-requires : goal.valid_content-content-requires
valid_content-content-requires c =
    let coded = c.valid_code-byte.ensures c.requires.0 (field_coded c.args.order c.requires.0 c.args.cursor.now c.requires.1) in
    field_held c.args.order c.requires.0 c.args.cursor.now _ _ (Some c.in-Some.code) c.in-Some.ensures coded c.requires.1

pub returns : goal.returns
returns c = λ start front is read.
    let coded = c.valid_code-byte.ensures front (field_coded c.args.order front c.args.cursor.now read) in
    front_next c.args.order start front c.args.self.now _ c.args.cursor.now _ _ _ _ _ is c.put.ensures.shows c.put.ensures.lie c.valid_content-content.ensures.lies c.in-Some.ensures coded c.valid_content-content.ensures.read
