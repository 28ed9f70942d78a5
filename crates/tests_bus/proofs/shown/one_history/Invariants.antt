use Rattle.tests_bus.proofs.shown.one_history.Given as goal

abbrev pub ghosts-told_and_entered : goal.ghosts-told_and_entered
ghosts-told_and_entered g a = record { book = a.opened }
