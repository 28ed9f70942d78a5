use Rattle.tests_bus.proofs.messages.own_recipient_once.Given as goal

abbrev pub ghosts-route_to_itself : goal.ghosts-route_to_itself
ghosts-route_to_itself g a = record { book = a.opened }
