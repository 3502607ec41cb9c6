use Rattle.gb_host.specs.Common.{books_of}
use Rattle.gb_server_examples.proofs.recorded.hand_first.Given as goal

abbrev pub ghosts-handed : goal.ghosts-handed
ghosts-handed g a = record { plan = a.plan; books = books_of a.pasts.items }
