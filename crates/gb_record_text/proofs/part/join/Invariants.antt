use Rattle.gb_record_text.proofs.JoinLemmas.{IsJoining}
use Rattle.gb_record_text.proofs.part.join.Given as goal

abbrev pub invariant-parts : goal.invariant-parts
invariant-parts l = IsJoining l.first.cluster l.first.tag l.yielded l.record l.least
