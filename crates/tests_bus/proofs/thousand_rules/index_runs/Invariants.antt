use Rattle.tests_bus.proofs.thousand_rules.index_runs.Given as goal

abbrev pub ghosts-subscribe_all : goal.ghosts-subscribe_all
ghosts-subscribe_all g a = record { book = a.opened }
