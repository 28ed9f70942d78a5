use Rattle.std.proofs.Common.{sym, ◌∙◌}
use Rattle.match_key.proofs.ArgNames.{arg_named}
use Rattle.match_key.proofs.key.Key.of_word.Goals as goal

pub returns-in-Some-after_arg : goal.returns-in-Some-after_arg
returns-in-Some-after_arg c =
    c.arg_key.ensures ∙ sym (arg_named c.args.word.now c.in-Some-after_arg.rest.now c.in-Some-after_arg.ensures)
