use Rattle.gb_types.specs.Common.{Result, Ok, Err, IfErr}
use Rattle.gb_spelling.proofs.command_words.read_command.Goals as goal

pub returns-in-Make : goal.returns-in-Make
returns-in-Make c = record { spelt = rw c.in-Make.is c.read_make.ensures; memory = tt }

pub returns-in-Open : goal.returns-in-Open
returns-in-Open c = record { spelt = rw c.in-Open.is c.read_alone.ensures; memory = tt }

pub returns-in-Shut : goal.returns-in-Shut
returns-in-Shut c = record { spelt = rw c.in-Shut.is c.read_alone-in-Shut.ensures; memory = tt }

pub returns-in-Drop : goal.returns-in-Drop
returns-in-Drop c = record { spelt = rw c.in-Drop.is c.read_alone-in-Drop.ensures; memory = tt }

at_most : {T E : Type 0} {A : Type 0} (r : Result T E) → A → IfErr r (λ _. A)
at_most (Ok x) a = tt
at_most (Err e) a = a

pub returns-in-Say : goal.returns-in-Say
returns-in-Say c = record { spelt = rw c.in-Say.is c.read_say.ensures; memory = at_most _ c.in-Say.is }

pub returns-in-Fetch : goal.returns-in-Fetch
returns-in-Fetch c = record { spelt = rw c.in-Fetch.is c.read_fetch_command.ensures; memory = tt }
