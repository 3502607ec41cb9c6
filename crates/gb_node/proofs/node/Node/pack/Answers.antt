use Rattle.gb_types.specs.Common.{◌≡◌, ◌<◌, true, false, rules}
use Rattle.gb_link.specs.Common.{has_room}
use Rattle.gb_node.specs.NodeStep.{is_reached, window_to}
use Rattle.gb_node.proofs.TurnLemmas.{packs}
use Rattle.gb_node.proofs.node.Node.pack.Goals as goal

pub returns-in-Ok-clause-turn : goal.returns-in-Ok-clause-turn
returns-in-Ok-clause-turn c =
    let v = c.args.self.now in
    let running : v.stopped ≡ false = search rules in
    let reached : is_reached v c.args.to ≡ true = search rules in
    let room : has_room (window_to v c.args.to.number) ≡ true = search rules in
    let some : 0 < c.measure-next.result.count = search rules in
    packs v c.send_batch.new.self c.args.to c.measure-next.result.most c.measure-next.result.count c.in-Ok.packet running reached room c.measure-next.ensures.most c.measure-next.ensures.count some c.in-Ok.ensures.packet c.in-Ok.ensures.state
