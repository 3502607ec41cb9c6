use Rattle.gb_types.specs.Common.{arith}
use Rattle.gb_types.proofs.ReadLemmas.{found}
use Rattle.gb_schedule.proofs.VersionLemmas.{version_reads}
use Rattle.gb_schedule.proofs.versions.read_version.Goals as goal

pub overflow_cast-byte : goal.overflow_cast-byte
overflow_cast-byte c = let read = found _ c.in_ok-byte.byte c.in_ok-byte.ensures in omega (arith, read)

pub returns : goal.returns
returns c = version_reads c.args.word.now c.in_ok-byte.byte c.from_byte.result c.in_ok-byte.ensures c.from_byte.ensures
