-- The numbers of the faults.
use Rattle.std.specs.Prelude.{ℕ}
use Rattle.gb_merge.specs.declared.fault.AuditFault.{AuditFault}
use Rattle.gb_merge.specs.declared.fault.AuditFault.TheVariants.{Stranger, Stuck, Differs, OutOfMemory}

abbrev pub fault_number : AuditFault → ℕ
fault_number Stranger = 1
fault_number Stuck = 2
fault_number Differs = 3
fault_number OutOfMemory = 4
