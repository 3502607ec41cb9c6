use Rattle.gb_alone.proofs.marks.Marks.+add.Given as goal

abbrev pub decreases-add : goal.decreases-add
decreases-add l = l.count
