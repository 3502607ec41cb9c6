use Rattle.gb_trace.proofs.carried.+add_comes.Given as goal

abbrev pub decreases-add_comes : goal.decreases-add_comes
decreases-add_comes l = l.count
