use Rattle.message_value.proofs.SkipTexts.{short_fits}
use Rattle.message_value.proofs.text.TextType.skip_short.Goals as goal

pub skip_byte-len-requires : goal.skip_byte-len-requires
skip_byte-len-requires c = short_fits c.args.cursor.now c.requires.0 c.requires.1
