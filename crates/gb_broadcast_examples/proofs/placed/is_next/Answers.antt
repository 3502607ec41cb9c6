use Rattle.gb_broadcast_examples.proofs.placed.is_next.Goals as goal

pub returns-in-Say : goal.returns-in-Say
returns-in-Say c = rw c.in-Say.is c.is_next_place.ensures

pub returns-in-Came : goal.returns-in-Came
returns-in-Came c = rw c.in-Came.is c.is_next_place-in-Came.ensures
