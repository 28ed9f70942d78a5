use Rattle.std.proofs.Common.{sym, ◌∙◌}
use Rattle.command_line.proofs.Numbers.{number_read}
use Rattle.command_line.proofs.number.number_in.Goals as goal

pub returns : goal.returns
returns c =
    c.ok.ensures.value
    ∙ number_read c.args.word.now c.parse.result (sym c.is_digits.ensures ∙ c.if-not-is_digits.false) c.parse.ensures.value.0
