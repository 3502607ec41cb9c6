use Rattle.gb_types.specs.Common.{◌≡◌, take, map}
use Rattle.gb_rules.specs.Messages.{entry_in}
use Rattle.gb_rules.proofs.messages.entries_in.Given as goal

abbrev pub invariant-loop-m : goal.invariant-loop-m
invariant-loop-m l = l.entries ≡ map (entry_in l.known) (take l.m-index l.found)
