use Rattle.gb_types.specs.Common.{arith}
use Rattle.gb_spelling.proofs.members_word.read_node.Goals as goal

pub overflow_cast-number : goal.overflow_cast-number
overflow_cast-number c = let spelt = (c.read_number.ensures c.in_ok-number.number).0 c.in_ok-number.was in omega (arith, spelt)

pub new-requires : goal.new-requires
new-requires c = let spelt = (c.read_number.ensures c.in_ok-number.number).0 c.in_ok-number.was in omega (arith, spelt)
