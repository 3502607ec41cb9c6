use Rattle.toml.specs.View.{view}
use Rattle.gb_cluster_file.proofs.ViewLemmas.{node_is}
use Rattle.gb_cluster_file.proofs.read.own_node_of.Goals as goal

pub returns-in-Ok-own_node-clause-ok : goal.returns-in-Ok-own_node-clause-ok
returns-in-Ok-own_node-clause-ok c =
    node_is (view c.args.value.now) c.in-Ok-own_node.places c.in-Ok.parts.packets.host.now c.in-Ok.parts.sessions.host.now c.in-Ok.parts.packets.port c.in-Ok.parts.sessions.port c.in-Ok.ensures.ok c.in-Ok-own_node.ensures.packets c.in-Ok-own_node.ensures.sessions
