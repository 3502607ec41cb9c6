use Rattle.gb_types.specs.Common.{◌≡◌, length}
use Rattle.gb_spelling.proofs.MembersLemmas.{parts_of}
use Rattle.gb_schedule.proofs.VersionLemmas.{AreReadTo}
use Rattle.gb_schedule.proofs.versions.read_versions.Given as goal

abbrev pub invariant-loop-part : goal.invariant-loop-part
invariant-loop-part l = record { count : l.count ≡ length l.yielded; read : AreReadTo l.nodes (parts_of l.word) l.count l.versions }
