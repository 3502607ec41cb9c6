use Rattle.gb_server_examples.proofs.recorded.handed.Given as goal

abbrev pub ghosts-hand : goal.ghosts-hand
ghosts-hand g a = record { book = a.written.book }
