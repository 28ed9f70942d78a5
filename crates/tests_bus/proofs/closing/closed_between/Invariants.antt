use Rattle.tests_bus.proofs.closing.closed_between.Given as goal

abbrev pub ghosts-route_and_close : goal.ghosts-route_and_close
ghosts-route_and_close g a = record { book = a.opened }
