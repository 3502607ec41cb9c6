use Rattle.gb_worker_examples.proofs.pasts.a_desk_goes_to_a_thread.Given as goal

-- the ledger that was just made
abbrev pub ghosts-on_a_thread : goal.ghosts-on_a_thread
ghosts-on_a_thread g a = record { name = a.blank.name; parts = a.blank.parts }
