-- The exit status of the program.
use Rattle.std.specs.Prelude.{ℕ, Result, Ok, Err}
use Rattle.gb_simulate.specs.declared.{outcome.SimEnd.SimEnd, outcome.SimEnd.TheVariants.All, outcome.SimEnd.TheVariants.BadLine, outcome.SimFault.SimFault, outcome.SimFault.TheVariants.Read, outcome.SimFault.TheVariants.Write, outcome.SimFault.TheVariants.OutOfMemory}

-- 0: all lines were read; 1: a read or a write failed; 2: a bad line; 3: no memory
abbrev pub status : Result SimEnd SimFault → ℕ
status (Ok All) = 0
status (Err Read) = 1
status (Err Write) = 1
status (Ok (BadLine number why)) = 2
status (Err OutOfMemory) = 3
