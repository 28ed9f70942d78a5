use Rattle.server.proofs.serving.serve.Given as goal

abbrev pub ghosts-serve_on : goal.ghosts-serve_on
ghosts-serve_on g a = record { book = a.opened }
