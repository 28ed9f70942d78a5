use Rattle.std.proofs.Common.{sym, ap, ◌∙◌}
use Rattle.std.proofs.lemmas.Str.{is_utf8-from_IsUtf8}
use Rattle.message_value.proofs.PlainTexts.{no_text, plain, not_plain, plain_utf8, plain_allowed}
use Rattle.message_value.proofs.text.plain_text.Goals as goal

pub returns-in-Err : goal.returns-in-Err
returns-in-Err c = not_plain _ _ (no_text c.args.bytes.now c.in-Err.ensures.cases.0)

pub returns-in-Ok-2 : goal.returns-in-Ok-2
returns-in-Ok-2 c =
    let found = c.in-Ok-2.ensures.cases in
    (plain _ _ (is_utf8-from_IsUtf8 c.args.bytes.now found.1) (sym c.if-has_zero.ensures), ap (λ t. t.now) c.in-Ok-2.text-is ∙ found.0)

pub from_utf8_unchecked-requires : goal.from_utf8_unchecked-requires
from_utf8_unchecked-requires c = plain_utf8 c.args.bytes.now (sym c.is_plain_ascii.ensures ∙ c.if-is_plain_ascii.true)

pub returns-then-is_plain_ascii : goal.returns-then-is_plain_ascii
returns-then-is_plain_ascii c = (plain_allowed c.args.bytes.now (sym c.is_plain_ascii.ensures ∙ c.if-is_plain_ascii.true), c.from_utf8_unchecked.ensures)
