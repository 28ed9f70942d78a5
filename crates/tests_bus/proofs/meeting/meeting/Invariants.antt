use Rattle.tests_bus.proofs.meeting.meeting.Given as goal

abbrev pub ghosts-meet : goal.ghosts-meet
ghosts-meet g a = record { book = a.opened }
