use Rattle.gb_host.specs.Common.{books_of}
use Rattle.gb_server_examples.proofs.recorded.fail_second.Given as goal

abbrev pub ghosts-failed : goal.ghosts-failed
ghosts-failed g a = record { plan = a.plan; books = books_of a.pasts.items }
