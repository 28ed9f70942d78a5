use Rattle.tests_bus.proofs.sessions.connection_257.Given as goal

abbrev pub ghosts-connect_all : goal.ghosts-connect_all
ghosts-connect_all g a = record { book = a.opened }
