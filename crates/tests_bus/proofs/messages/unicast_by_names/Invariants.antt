use Rattle.tests_bus.proofs.messages.unicast_by_names.Given as goal

abbrev pub ghosts-own_and_send : goal.ghosts-own_and_send
ghosts-own_and_send g a = record { book = a.opened }
