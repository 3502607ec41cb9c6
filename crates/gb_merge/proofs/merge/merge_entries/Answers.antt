use Rattle.gb_types.specs.Common.{◌≡◌, [], List, length, sym, ◌∙◌, ap, subst}
use Rattle.gb_cluster.specs.Common.{ClusterValue}
use Rattle.gb_cluster.specs.declared.event.Event.{Event}
use Rattle.gb_types.specs.declared.plan.Plan.{Plan}
use Rattle.gb_types.proofs.ReadLemmas.{err_so}
use Rattle.gb_merge.specs.Interleaving.{Pick}
use Rattle.gb_merge.specs.Faults.{IsFault, IsStranger}
use Rattle.gb_merge.specs.Woven.{ArePlaced, IsWeaveFault, IsFollowFault}
use Rattle.gb_merge.proofs.MergingLemmas.{all_taken, whole_of, placed, events_count, weave_faulty, follow_faulty}
use Rattle.gb_merge.proofs.merge.merge_entries.Goals as goal

pub returns-in_err-woven-clause-err : goal.returns-in_err-woven-clause-err
returns-in_err-woven-clause-err c =
    let plan = c.args.plan.now in
    let tapes = c.args.tapes.items in
    let fault = c.in_err-woven.field-0.0 in
    err_so c.from_residual-in_err-woven.result fault (IsFault plan tapes) c.from_residual-in_err-woven.ensures.1
    (weave_faulty plan tapes fault (λ s. c.in_ok-have_stranger.ensures.none c.if-branch.false (subst (IsStranger c.new-reader.result) (sym c.as_slice.ensures.value) (subst (λ (p : Plan). IsStranger p tapes) (sym c.new-reader.ensures) s)))
    (subst (λ (p : Plan). IsWeaveFault p tapes fault) c.new-reader.ensures c.in_err-woven.ensures.err))

pub follow-requires-clause-placed : goal.follow-requires-clause-placed
follow-requires-clause-placed c =
    let tapes = c.args.tapes.items in
    let w = c.in_ok-woven.woven in
    let woven = c.in_ok-woven.ensures.ok in
    let whole = whole_of c.new-reader.result tapes woven.0 w.order.items w.events.items woven.1 woven.2 in
    let plan_is : c.in_ok-cluster.cluster.plan ≡ c.args.plan.now = ap (λ (v : ClusterValue). v.plan) c.in_ok-cluster.ensures.state in
    subst (λ (p : Plan). ArePlaced p.nodes c.as_slice-3.result.now) (sym plan_is) (subst (ArePlaced c.args.plan.now.nodes) (sym c.as_slice-3.ensures.value) (placed c.args.plan.now.nodes tapes (λ a. []) w.order.items c.requires.one_each (all_taken tapes w.order.items whole.whole)))

pub follow-requires-clause-count : goal.follow-requires-clause-count
follow-requires-clause-count c =
    let tapes = c.args.tapes.items in
    let w = c.in_ok-woven.woven in
    let woven = c.in_ok-woven.ensures.ok in
    let whole = whole_of c.new-reader.result tapes woven.0 w.order.items w.events.items woven.1 woven.2 in
    ap (λ (es : List Event). length es) c.as_slice-2.ensures.value ∙ (events_count c.new-reader.result [] w.order.items w.events.items whole.are_events ∙ ap (λ (ps : List Pick). length ps) (sym c.as_slice-3.ensures.value))

pub returns-in_err-follow-clause-err : goal.returns-in_err-follow-clause-err
returns-in_err-follow-clause-err c =
    let plan = c.args.plan.now in
    let tapes = c.args.tapes.items in
    let fault = c.in_err-follow.field-0.0 in
    let w = c.in_ok-woven.woven in
    let woven = c.in_ok-woven.ensures.ok in
    let whole = whole_of c.new-reader.result tapes woven.0 w.order.items w.events.items woven.1 woven.2 in
    let plan_is : c.in_ok-cluster.cluster.plan ≡ plan = ap (λ (v : ClusterValue). v.plan) c.in_ok-cluster.ensures.state in
    err_so c.from_residual-in_err-follow.result fault (IsFault plan tapes) c.from_residual-in_err-follow.ensures.1
    (follow_faulty plan tapes w.order.items fault (λ s. c.in_ok-have_stranger.ensures.none c.if-branch.false (subst (IsStranger c.new-reader.result) (sym c.as_slice.ensures.value) (subst (λ (p : Plan). IsStranger p tapes) (sym c.new-reader.ensures) s))) whole.whole
    (subst (λ (p : Plan). IsFollowFault p w.order.items fault) plan_is (subst (λ (ps : List Pick). IsFollowFault c.in_ok-cluster.cluster.plan ps fault) c.as_slice-3.ensures.value c.in_err-follow.ensures.err)))
