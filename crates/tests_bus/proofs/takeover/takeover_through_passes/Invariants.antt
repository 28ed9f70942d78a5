use Rattle.tests_bus.proofs.takeover.takeover_through_passes.Given as goal

abbrev pub ghosts-take_over : goal.ghosts-take_over
ghosts-take_over g a = record { book = a.opened }
