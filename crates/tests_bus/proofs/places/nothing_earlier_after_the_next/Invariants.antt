use Rattle.tests_bus.proofs.places.nothing_earlier_after_the_next.Given as goal

abbrev pub ghosts-tell_ahead : goal.ghosts-tell_ahead
ghosts-tell_ahead g a = record { book = a.opened }
