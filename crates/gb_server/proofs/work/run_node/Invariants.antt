use Rattle.gb_server.proofs.work.run_node.Given as goal

abbrev pub ghosts-run_recorded : goal.ghosts-run_recorded
ghosts-run_recorded g a = record { book = a.written.book }
