use Rattle.std.proofs.Common.{arith}
use Rattle.message_view.proofs.TextPlaces.{text_within}
use Rattle.message_view.proofs.valid_fields.valid_text.Goals as goal

pub before-requires : goal.before-requires
before-requires c =
    let lt = text_within c.args.order _ c.args.cursor.now _ _ c.skip_value-text.ensures.read in
    omega (arith, lt, c.place_word.ensures.place)
