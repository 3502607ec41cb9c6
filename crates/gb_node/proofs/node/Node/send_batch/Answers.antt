use Rattle.gb_types.specs.Common.{length, ap, sym, ◌∙◌, length-map}
use Rattle.gb_table.specs.Common.{batch, item_at}
use Rattle.gb_node.specs.Frames.{items_of_frame}
use Rattle.gb_node.proofs.node.Node.send_batch.Goals as goal

pub write_frame-requires-clause-count : goal.write_frame-requires-clause-count
write_frame-requires-clause-count c =
    let groups = c.args.self.now.table.groups in
    let sent = ap (λ frame. length (items_of_frame frame)) c.in_ok-number.ensures.frame.2 in
    sent ∙ (length-map (batch c.args.self.now.table.version c.args.to.number c.args.next.most groups) (item_at groups.rows) ∙ sym c.requires.count)
