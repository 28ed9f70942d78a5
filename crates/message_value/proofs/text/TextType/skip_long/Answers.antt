use Rattle.message_value.specs.TextTypes.{text_code}
use Rattle.message_value.proofs.SkipTexts.{long_fits}
use Rattle.message_value.proofs.text.TextType.skip_long.Goals as goal

pub skip_word-len-requires : goal.skip_word-len-requires
skip_word-len-requires c = long_fits c.args.order (text_code c.args.self) c.args.cursor.now c.requires.0 c.requires.1
