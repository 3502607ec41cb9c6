use Rattle.gb_alone.proofs.member.Member.+unfinished.Given as goal

abbrev pub decreases-unfinished : goal.decreases-unfinished
decreases-unfinished l = l.count
