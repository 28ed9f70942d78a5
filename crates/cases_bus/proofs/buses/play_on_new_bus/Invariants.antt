use Rattle.cases_bus.proofs.buses.play_on_new_bus.Given as goal

abbrev pub ghosts-play_on : goal.ghosts-play_on
ghosts-play_on g a = record { book = a.opened }
