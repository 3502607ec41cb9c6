use Rattle.gb_types.specs.Common.{◌+◌, ◌<◌, ◌≤◌, ◌∙◌, length, take, arith, ap, sym, option_copied}
use Rattle.gb_rules.specs.Common.{row_of}
use Rattle.gb_node.specs.Common.{added, tenants_in}
use Rattle.gb_isolation.specs.Project.{reply_in, replies_in}
use Rattle.gb_trace.specs.NodeSteps.{past_in}
use Rattle.gb_trace.proofs.PastLemmas.{whole, longer, as_long, no_replies, replies_more, added_here, added_elsewhere, none_added}
use Rattle.gb_trace.proofs.RefusedLemmas.{found_more, copied_or}
use Rattle.gb_trace.proofs.observation.replies_at.Goals as goal
use Rattle.gb_trace.proofs.observation.replies_at.Goals.{then-is_at+in_ok-add_reply, else-is_at}

pub loop-i-init : goal.loop-i-init
loop-i-init c = (c.new-replies.ensures.items ∙ sym (no_replies c.args.a c.args.addr c.args.a), ap (row_of c.args.addr.tenant) (sym (none_added c.args.a)))

pub loop-i-preserved : goal.loop-i-preserved
loop-i-preserved c =
    let g = c.args.addr in
    let ds = c.args.node_steps.now in
    let i = c.loop-i.i in
    let d = c.index-node_steps-i.result in
    let before = past_in c.args.a (take i ds) in
    let lt : i < length ds = omega arith in
    elim c.if-is_at.branch [
      | then-is_at+in_ok-add_reply w ↦
          let at = sym c.is_at.ensures ∙ w.if-is_at.true in (
            rw w.replies-is
                (longer (replies_in c.args.a g) (reply_in c.args.a g before d.event d.answer) c.args.a ds i d c.loop-i.replies.items w.add_reply.new.replies.items lt c.index-node_steps-i.is
                at (replies_more c.args.a g (record { event = d.event; answer = d.answer }) before) w.in_ok-add_reply.ensures c.loop-i.invariant.0),
            rw w.row-is
                (found_more g.tenant (option_copied c.loop-i.row) (option_copied w.row_in.result) (option_copied w.or-row.result) (tenants_in before) (added d.event d.answer) (tenants_in (past_in c.args.a (take (i + 1) ds)))
                (added_here c.args.a ds i d lt c.index-node_steps-i.is at) c.loop-i.invariant.1 w.row_in.ensures (ap option_copied w.or-row.ensures ∙ copied_or c.loop-i.row w.row_in.result)),
          )
      | else-is_at w ↦
          let other = sym c.is_at.ensures ∙ w.if-is_at.false in (
            rw w.replies-is
                (as_long (replies_in c.args.a g) c.args.a ds i d c.loop-i.replies.items lt c.index-node_steps-i.is other c.loop-i.invariant.0),
            rw w.row-is
                (c.loop-i.invariant.1 ∙ ap (row_of g.tenant) (sym (added_elsewhere c.args.a ds i d lt c.index-node_steps-i.is other))),
          )
    ]

pub returns : goal.returns
returns c =
    let ds = c.args.node_steps.now in
    let all : length ds ≤ c.loop-i.i = omega arith in
    c.loop-i.invariant.0 ∙ ap (λ xs. replies_in c.args.a c.args.addr (past_in c.args.a xs)) (whole ds c.loop-i.i all)
