use Rattle.tests_bus.proofs.ended.bus_is_gone.Given as goal

abbrev pub ghosts-look_after_the_end : goal.ghosts-look_after_the_end
ghosts-look_after_the_end g a = record { book = a.opened }
