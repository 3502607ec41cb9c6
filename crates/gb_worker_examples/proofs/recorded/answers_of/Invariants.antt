use Rattle.gb_host.specs.Common.{books_of}
use Rattle.gb_worker_examples.proofs.recorded.answers_of.Given as goal

abbrev pub ghosts-answers : goal.ghosts-answers
ghosts-answers g a = record { plan = a.plan; books = books_of a.pasts.items }
