use Rattle.std.proofs.Common.{sym}
use Rattle.watch_command.proofs.SaidWords.{word_said}
use Rattle.watch_command.proofs.options.Options.is_number.Goals as goal

pub returns-in-Some : goal.returns-in-Some
returns-in-Some c = λ e. word_said c.args.key c.args.self.now _ (sym c.in-Some.ensures)
