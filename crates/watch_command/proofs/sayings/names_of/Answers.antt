use Rattle.watch_command.specs.Sayings.{texts}
use Rattle.watch_command.proofs.NamesLeft.{name_added}
use Rattle.watch_command.proofs.sayings.names_of.Goals as goal

pub loop-word-preserved : goal.loop-word-preserved
loop-word-preserved c =
    name_added c.args.words.now c.loop-word.word-index _ (texts c.loop-word.found.items) (texts c.put_name.new.found.items) _ c.loop-word-test.true c.in_ok-put_name.ensures c.loop-word.invariant
