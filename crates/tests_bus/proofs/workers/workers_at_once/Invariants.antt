use Rattle.tests_bus.proofs.workers.workers_at_once.Given as goal

abbrev pub ghosts-find_by_workers : goal.ghosts-find_by_workers
ghosts-find_by_workers g a = record { book = a.opened }
