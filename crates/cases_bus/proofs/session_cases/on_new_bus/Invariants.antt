use Rattle.cases_bus.proofs.session_cases.on_new_bus.Given as goal

abbrev pub ghosts-play : goal.ghosts-play
ghosts-play g a = record { book = a.opened }
