-- If no group was made, packing begins at place 0 for each node, and each set is empty.
use Rattle.gb_types.specs.Common.{ℕ, ◌*◌, List, length, ap, sym, rules, refl, arith}
use Rattle.gb_types.specs.declared.{address.Addr.Addr, limits.TheConstants.NODES}
use Rattle.gb_rules.specs.declared.room.TheConstants.{GENERATIONS}
use Rattle.gb_slot.proofs.TakenLemmas.{none_taken}
use Rattle.gb_table.proofs.groups.Groups.new.Goals as goal

pub invariant_of-result : goal.invariant_of-result
invariant_of-result c =
    rw c.new-2.ensures.empty (
      search rules,
      record {
        places = record { size = refl; within = λ d. let none = none_taken NODES d in omega (arith, none) };
        index = search rules;
        members = search rules;
        covered = search rules;
        in_rooms = record { size = sym (ap (λ (es : List (Addr × ℕ)). GENERATIONS * length es) c.new.ensures.empty); each = λ p l. absurd (omega arith) };
      },
    )
