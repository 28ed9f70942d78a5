use Rattle.tests_bus.proofs.origins.order_of_two_origins.Given as goal

abbrev pub ghosts-send_and_take : goal.ghosts-send_and_take
ghosts-send_and_take g a = record { book = a.opened }
