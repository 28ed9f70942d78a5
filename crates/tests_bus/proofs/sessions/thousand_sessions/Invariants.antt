use Rattle.tests_bus.proofs.sessions.thousand_sessions.Given as goal

abbrev pub ghosts-open_and_close : goal.ghosts-open_and_close
ghosts-open_and_close g a = record { book = a.opened }
