use Rattle.gb_types.specs.Common.{◌<◌, ◌≤◌, ◌∙◌, length, take, arith, ap, sym}
use Rattle.gb_node.specs.Common.{packed_for, frames_to}
use Rattle.gb_isolation.specs.Project.{group_items_of}
use Rattle.gb_trace.specs.NodeSteps.{past_in}
use Rattle.gb_trace.proofs.FrameLemmas.{no_items, items_more}
use Rattle.gb_trace.proofs.PastLemmas.{whole, longer, as_long}
use Rattle.gb_trace.proofs.observation.items_to.Goals as goal
use Rattle.gb_trace.proofs.observation.items_to.Goals.{then-is_at+in_ok-add_frame, else-is_at}

pub loop-i-init : goal.loop-i-init
loop-i-init c = c.new-items.ensures ∙ sym (no_items c.args.addr c.args.key.now c.args.b.number c.args.a)

pub loop-i-preserved : goal.loop-i-preserved
loop-i-preserved c =
    let g = c.args.addr in
    let key = c.args.key.now in
    let b = c.args.b.number in
    let ds = c.args.node_steps.now in
    let i = c.loop-i.i in
    let d = c.index-node_steps-i.result in
    let lt : i < length ds = omega arith in
    elim c.if-is_at.branch [
      | then-is_at+in_ok-add_frame w ↦
          rw w.items-is
          (longer (λ past. group_items_of g (frames_to key b past)) (group_items_of g (packed_for key b d.event d.answer)) c.args.a ds i d c.loop-i.items w.add_frame.new.items lt c.index-node_steps-i.is
          (sym c.is_at.ensures ∙ w.if-is_at.true) (items_more g key b (record { event = d.event; answer = d.answer }) (past_in c.args.a (take i ds))) w.in_ok-add_frame.ensures c.loop-i.invariant)
      | else-is_at w ↦
          rw w.items-is
          (as_long (λ past. group_items_of g (frames_to key b past)) c.args.a ds i d c.loop-i.items lt c.index-node_steps-i.is (sym c.is_at.ensures ∙ w.if-is_at.false) c.loop-i.invariant)
    ]

pub returns : goal.returns
returns c =
    let ds = c.args.node_steps.now in
    let all : length ds ≤ c.loop-i.i = omega arith in
    c.loop-i.invariant ∙ ap (λ xs. group_items_of c.args.addr (frames_to c.args.key.now c.args.b.number (past_in c.args.a xs))) (whole ds c.loop-i.i all)
