use Rattle.gb_types.specs.Common.{arith}
use Rattle.toml.specs.View.{items_view}
use Rattle.gb_cluster_file.proofs.ViewLemmas.{item_count-view, nodes_count, nodes_ports}
use Rattle.gb_cluster_file.proofs.read.cluster_of.Goals as goal

pub returns-clause-within : goal.returns-clause-within
returns-clause-within c =
    let run = c.in_ok-run.ensures.ok in
    let tick = c.in_ok-tick.ensures.ok in
    let silence = c.in_ok-silence.ensures.ok in
    let room = c.in_ok-room.ensures.ok in
    let values = c.in_ok-values.ensures.ok in
    let count = nodes_count (items_view c.in_ok-values.values.now) c.in_ok-nodes.nodes.items c.in_ok-nodes.ensures.ok in
    let views = item_count-view c.in_ok-values.values.now in
    let least = values.1 in
    let most = values.2 in
    record {
      run = (run.1, run.2);
      tick = (tick.1, tick.2);
      silence = (silence.1, silence.2);
      room = (room.1, room.2);
      nodes = (omega (arith, count, views, least), omega (arith, count, views, most));
      ports = nodes_ports (items_view c.in_ok-values.values.now) c.in_ok-nodes.nodes.items c.in_ok-nodes.ensures.ok;
    }
