use Rattle.gb_types.specs.Common.{◌≡◌, ◌≤◌, take, length, vec_len, vec_capacity, map}
use Rattle.gb_rules.specs.Common.{entry_in}
use Rattle.gb_slot.proofs.slot.copies.Given as goal

abbrev pub invariant-loop-m : goal.invariant-loop-m
invariant-loop-m l = (l.entries.items ≡ map (entry_in l.store.entries) (take l.m-index l.messages)) × (vec_len l.entries ≡ l.m-index) × (length l.messages ≤ vec_capacity l.entries)
