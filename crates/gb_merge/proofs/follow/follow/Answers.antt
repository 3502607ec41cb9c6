use Rattle.gb_types.specs.Common.{◌≡◌, ◌<◌, Some, length, refl, subst, arith, slice_get, slice_get_read}
use Rattle.gb_node.specs.declared.answer.NodeAnswer.{NodeAnswer}
use Rattle.gb_merge.specs.Woven.{IsTold, IsStepFault, IsFollowFault}
use Rattle.gb_merge.proofs.FollowingLemmas.{is_at-first, is_at-next, goes_there, fault_of}
use Rattle.gb_merge.proofs.follow.follow.Goals as goal
use Rattle.gb_types.proofs.ReadLemmas.{err_so}

pub loop-i-init : goal.loop-i-init
loop-i-init c = is_at-first c.args.cluster.now.plan c.args.events.now c.args.order.now c.args.cluster.now c.requires.fresh

pub happen-requires : goal.happen-requires
happen-requires c =
    let events = c.args.events.now in
    let picks = c.args.order.now in
    let i = c.loop-i.i in
    let e = c.index-events-i.result in
    let p = c.index-order-i.result in
    let inside : i < length picks = omega (arith, c.loop-i-test.true, c.requires.count) in
    let e_at : slice_get events i ≡ Some e = slice_get_read events (length events) i e refl c.loop-i-test.true c.index-events-i.is in
    let p_at : slice_get picks i ≡ Some p = slice_get_read picks (length picks) i p refl inside c.index-order-i.is in
    goes_there c.args.cluster.now.plan events picks i c.loop-i.cluster p e c.requires.events c.requires.placed p_at e_at c.loop-i.invariant

pub returns-in_err-happen-clause-err : goal.returns-in_err-happen-clause-err
returns-in_err-happen-clause-err c =
    let events = c.args.events.now in
    let picks = c.args.order.now in
    let i = c.loop-i.i in
    let e = c.index-events-i.result in
    let p = c.index-order-i.result in
    let inside : i < length picks = omega (arith, c.loop-i-test.true, c.requires.count) in
    let e_at : slice_get events i ≡ Some e = slice_get_read events (length events) i e refl c.loop-i-test.true c.index-events-i.is in
    let p_at : slice_get picks i ≡ Some p = slice_get_read picks (length picks) i p refl inside c.index-order-i.is in
    let fault = c.in_err-happen.field-0.0 in
    err_so c.from_residual.result fault (IsFollowFault c.args.cluster.now.plan picks) c.from_residual.ensures.1
    (fault_of (record { pasts = c.pasts_say.ensures; senders = c.packets_say.ensures.senders; starved = c.packets_say.ensures.starved }) c.packets_are_honest.ensures c.args.cluster.now.plan events picks i c.loop-i.cluster p e fault c.requires.events c.requires.placed p_at e_at c.loop-i.invariant
    (subst (λ (g : NodeAnswer). IsStepFault c.loop-i.cluster e g fault) c.answer.ensures c.in_err-happen.ensures.err))

pub loop-i-preserved : goal.loop-i-preserved
loop-i-preserved c =
    let events = c.args.events.now in
    let picks = c.args.order.now in
    let i = c.loop-i.i in
    let e = c.index-events-i.result in
    let p = c.index-order-i.result in
    let inside : i < length picks = omega (arith, c.loop-i-test.true, c.requires.count) in
    let e_at : slice_get events i ≡ Some e = slice_get_read events (length events) i e refl c.loop-i-test.true c.index-events-i.is in
    let p_at : slice_get picks i ≡ Some p = slice_get_read picks (length picks) i p refl inside c.index-order-i.is in
    is_at-next (record { pasts = c.pasts_say.ensures; senders = c.packets_say.ensures.senders; starved = c.packets_say.ensures.starved }) c.packets_are_honest.ensures c.args.cluster.now.plan events picks i c.loop-i.cluster p e c.happen.new.cluster c.requires.events c.requires.placed p_at e_at c.index-order-i.is c.index-events-i.is inside c.loop-i-test.true c.loop-i.invariant
    (subst (λ (g : NodeAnswer). IsTold c.loop-i.cluster e g c.happen.new.cluster) c.answer.ensures c.in_ok-happen.ensures.ok)
