use Rattle.std.proofs.Common.{sym}
use Rattle.watch_command.specs.declared.words.Key.TheVariants.{Edition}
use Rattle.watch_command.proofs.SaidWords.{word_said}
use Rattle.watch_command.proofs.options.Options.is_edition.Goals as goal

pub returns-in-Some : goal.returns-in-Some
returns-in-Some c = λ e. word_said Edition c.args.self.now _ (sym c.in-Some.ensures)
