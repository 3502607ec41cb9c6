-- The parts of an item: the group that it names, and its message.
use Rattle.std.proofs.Common.{arith}
use Rattle.std.specs.Prelude.{ℕ, ◌<◌, ◌%◌, ◌&&◌, Bool, List, filter, nat_eq}
use Rattle.gb_types.specs.declared.{address.Addr.Addr, entry.Entry.Entry, limits.TheConstants.NODES}
use Rattle.gb_frame.specs.declared.item.Item.{Item}

pub rest_is_node : (n : ℕ) → n % NODES < NODES
rest_is_node n = omega arith

-- the address and the entry of an item; the number of its origin is reduced modulo NODES
abbrev pub address_of : Item → Addr
address_of i = record { tenant = i.tenant; group = i.group; generation = i.generation }

abbrev pub entry_of : Item → Entry
entry_of i = record { origin = record { number = i.origin % NODES; below = rest_is_node i.origin }; seq = i.seq; payload = i.payload }

-- the item that carries an entry of a group
abbrev pub item_for : Addr → Entry → Item
item_for g e = record { tenant = g.tenant; group = g.group; generation = g.generation; origin = e.origin.number; seq = e.seq; payload = e.payload }

-- whether an item names a group
abbrev pub names : Addr → Item → Bool
names g i = nat_eq g.tenant i.tenant && (nat_eq g.group i.group && nat_eq g.generation i.generation)

abbrev pub items_for : Addr → List Item → List Item
items_for g items = filter (names g) items
