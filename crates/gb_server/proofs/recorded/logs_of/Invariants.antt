use Rattle.gb_types.specs.Common.{◌≡◌, ◌++◌}
use Rattle.gb_server.proofs.recorded.logs_of.Given as goal

abbrev pub invariant-loop-place : goal.invariant-loop-place
invariant-loop-place g l = l.fn.recorders.items ≡ l.yielded ++ l.place-iterator.rest.items
