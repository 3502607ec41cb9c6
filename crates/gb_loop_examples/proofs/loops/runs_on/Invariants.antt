use Rattle.gb_host.specs.Common.{books_of}
use Rattle.gb_loop_examples.proofs.loops.runs_on.Given as goal

abbrev pub ghosts-run_host : goal.ghosts-run_host
ghosts-run_host g a = record { plan = a.plan; books = books_of a.pasts.items }
