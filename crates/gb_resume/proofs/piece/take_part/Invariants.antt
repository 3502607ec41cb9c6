use Rattle.gb_resume.proofs.KeptLemmas.{Reads}
use Rattle.gb_resume.proofs.piece.take_part.Given as goal

abbrev pub invariant-reads : goal.invariant-reads
invariant-reads g l = Reads l.wanted l.fn.begun l.begun l.fn.reading l.reading l.kept.items (g.R.Read.remaining l.fn.reader) (g.R.Read.remaining l.reader)
