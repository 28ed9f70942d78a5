use Rattle.tests_bus.proofs.places.broadcast_at_its_place.Given as goal

abbrev pub ghosts-broadcast_the_last : goal.ghosts-broadcast_the_last
ghosts-broadcast_the_last g a = record { book = a.opened }
