use Rattle.gb_server_examples.proofs.recorded.failed.Given as goal

abbrev pub ghosts-failing : goal.ghosts-failing
ghosts-failing g a = record { book = a.written.book }
