use Rattle.gb_types.specs.Common.{◌<◌, vec_len}
use Rattle.gb_resume.proofs.PartLemmas.{Stands}
use Rattle.gb_resume.proofs.all_parts.resume.Given as goal

abbrev pub invariant-parts : goal.invariant-parts
invariant-parts g l = (0 < vec_len l.space) × Stands (g.P.Parts.text l.parts) l.wanted l.fn.begun l.begun l.reading l.part
