use Rattle.std.proofs.Common.{sym, ◌∙◌}
use Rattle.message_value.proofs.PlainTexts.{path_utf8}
use Rattle.message_value.proofs.text.path_text.Goals as goal

pub from_utf8_unchecked-requires : goal.from_utf8_unchecked-requires
from_utf8_unchecked-requires c = path_utf8 c.args.bytes.now (sym c.check_path_bytes.ensures ∙ c.if-check_path_bytes.true)
