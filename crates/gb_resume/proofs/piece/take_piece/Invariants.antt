use Rattle.gb_types.specs.Common.{length}
use Rattle.gb_resume.proofs.KeptLemmas.{Taken}
use Rattle.gb_resume.proofs.piece.take_piece.Given as goal

abbrev pub invariant-lines : goal.invariant-lines
invariant-lines l = Taken l.wanted l.fn.begun l.begun l.fn.reading l.reading l.fn.kept.items l.kept.items l.piece l.rest

abbrev pub decreases-lines : goal.decreases-lines
decreases-lines l = length l.rest
