use Rattle.tests_bus.proofs.messages.full_outbox.Given as goal

abbrev pub ghosts-send_one_too_many : goal.ghosts-send_one_too_many
ghosts-send_one_too_many g a = record { book = a.opened }
