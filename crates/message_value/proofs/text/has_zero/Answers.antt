use Rattle.std.proofs.Common.{◌∙◌}
use Rattle.message_value.proofs.PlainTexts.{zero_found}
use Rattle.message_value.proofs.text.has_zero.Goals as goal

pub returns : goal.returns
returns c = c.is_some.ensures ∙ zero_found c.args.bytes.now c.memchr.result c.memchr.ensures
