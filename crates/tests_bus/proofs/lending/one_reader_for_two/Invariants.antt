use Rattle.tests_bus.proofs.lending.one_reader_for_two.Given as goal

abbrev pub ghosts-lend_in_turn : goal.ghosts-lend_in_turn
ghosts-lend_in_turn g a = record { book = a.opened }
