use Rattle.tests_bus.proofs.sessions.second_of_one_connection.Given as goal

abbrev pub ghosts-connect_two : goal.ghosts-connect_two
ghosts-connect_two g a = record { book = a.opened }
