use Rattle.gb_types.specs.Common.{arith, ◌≡◌, ◌-◌, ◌∙◌, Some, refl, sym, ap, slice_get, slice_get_read}
use Rattle.gb_cluster.proofs.CodeLemmas.{not_there, arrived}
use Rattle.gb_cluster.proofs.cluster.arrive.Goals as goal

pub returns-in_default : goal.returns-in_default
returns-in_default c plan = not_there plan c.args.nodes.now.items c.args.packets.now c.args.number c.if-number-eq0.false c.in_default.ensures.lookup.3

pub index_mut-node-requires : goal.index_mut-node-requires
index_mut-node-requires c =
    let found = c.in-Some.ensures.lookup in
    let at : slice_get c.args.packets.now (c.args.number - 1) ≡ Some c.in-Some.packet.now = slice_get_read c.args.packets.now _ (c.args.number - 1) c.in-Some.packet.now refl found.3.0 found.1 in
    let ends = c.requires.inside (c.args.number - 1) c.in-Some.packet.now at in
    omega (arith, ends, c.index.ensures.value)

pub hand_in-requires : goal.hand_in-requires
hand_in-requires c =
    let found = c.in-Some.ensures.lookup in
    let at : slice_get c.args.packets.now (c.args.number - 1) ≡ Some c.in-Some.packet.now = slice_get_read c.args.packets.now _ (c.args.number - 1) c.in-Some.packet.now refl found.3.0 found.1 in
    let ends = c.requires.inside (c.args.number - 1) c.in-Some.packet.now at in
    let value = c.index.ensures.value in
    let there : slice_get c.args.nodes.now.items c.index.result ≡ Some c.index_mut-node.result.now = slice_get_read c.args.nodes.now.items _ c.index.result c.index_mut-node.result.now refl (omega (arith, ends, value)) c.index_mut-node.ensures.value in
    c.requires.read (c.args.number - 1) c.in-Some.packet.now c.index_mut-node.result.now at (ap (slice_get c.args.nodes.now.items) (sym value) ∙ there)

pub returns : goal.returns
returns c plan =
    let found = c.in-Some.ensures.lookup in
    let at : slice_get c.args.packets.now (c.args.number - 1) ≡ Some c.in-Some.packet.now = slice_get_read c.args.packets.now _ (c.args.number - 1) c.in-Some.packet.now refl found.3.0 found.1 in
    let ends = c.requires.inside (c.args.number - 1) c.in-Some.packet.now at in
    arrived plan c.args.nodes.now.items c.args.packets.now c.args.number c.in-Some.packet.now c.index.result c.hand_in.result c.index_mut-node.result.now c.hand_in.new.node c.if-number-eq0.false at c.index.ensures.value
    (omega (arith, ends, c.index.ensures.value)) c.index_mut-node.ensures.value (c.hand_in.ensures c.args.packets.now)
