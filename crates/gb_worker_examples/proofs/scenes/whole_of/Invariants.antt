use Rattle.gb_host.specs.Common.{books_of}
use Rattle.gb_worker_examples.proofs.scenes.whole_of.Given as goal

abbrev pub ghosts-run : goal.ghosts-run
ghosts-run g a = record { plan = a.plan; books = books_of a.pasts.items }
