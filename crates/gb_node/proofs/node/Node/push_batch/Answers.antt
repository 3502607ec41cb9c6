use Rattle.gb_types.specs.Common.{rules, ◌≡◌, ◌<◌, ◌∙◌, ap, sym, length, get_or, set}
use Rattle.gb_link.specs.Common.{new_window}
use Rattle.gb_node.specs.Frames.{windows_of}
use Rattle.gb_table.specs.Common.{table_packed}
use Rattle.gb_node.specs.NodeStep.{batch_to, room_to}
use Rattle.gb_node.specs.contracts.node.Node.{the_view}
use Rattle.gb_node.proofs.WindowLemmas.{window_at, written_at, pushed_at, frame_at, on_both}
use Rattle.gb_node.proofs.node.Node.push_batch.Goals as goal

pub returns-clause-state : goal.returns-clause-state
returns-clause-state c =
    let i = c.self.inside in
    let within : c.index.result < length i.windows = search rules in
    let most : c.args.next.most ≡ room_to (the_view i) c.args.to = c.requires.most ∙ ap (λ v. room_to v c.args.to) (sym c.self.view_is) in
    rw (← c.self.view_is) (on_both c.pack.result c.pack.ensures.window c.pack.ensures.table (λ window table.
    let windows = pushed_at i.windows c.index.result c.args.to.number c.index-self-index.result c.pack.new.self (batch_to c.args.next.most i.table c.args.to) within c.index.ensures.value window in
    λ j. record { key = i.key; table = (table ∙ ap (λ r. table_packed c.args.to.number r i.table) most) j; room = i.room; windows = windows j; receivers = i.receivers; watch = i.detector; stopped = i.stopped }))

pub returns-clause-frame : goal.returns-clause-frame
returns-clause-frame c =
    let i = c.self.inside in
    let within : c.index.result < length i.windows = search rules in
    let at = c.index.ensures.value in
    let before = window_at i.windows c.index.result c.index-self-index.result within ∙ ap (λ k. get_or (windows_of i.windows) k new_window) at in
    let after = written_at i.windows c.index.result c.pack.new.self within ∙ ap (λ k. get_or (windows_of (set i.windows c.index.result c.pack.new.self)) k new_window) at in
    rw (← c.self.view_is) (frame_at c.pack.result _ _ _ _ (batch_to c.args.next.most i.table c.args.to) before after c.pack.ensures.frame)
