use Rattle.message_view.proofs.ValidFields.{never, basic_item, item_reaches}
use Rattle.message_view.proofs.valid_fields.skip_basic_signature.Goals as goal

pub unreachable-requires : goal.unreachable-requires
unreachable-requires c = never _ _ _ (basic_item c.requires.0 c.args.cursor.now c.requires.1 c.requires.2) c.in_default.ensures.read

pub returns : goal.returns
returns c = item_reaches c.requires.0 c.args.cursor.now c.requires.1 _ _ c.requires.2 c.in-Ok.ensures.read
