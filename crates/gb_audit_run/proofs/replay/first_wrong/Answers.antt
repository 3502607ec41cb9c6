use Rattle.gb_types.specs.Common.{◌≡◌, ◌<◌, length, get_or, subst, arith, All-more}
use Rattle.std.proofs.lemmas.Result.{err_from_is_err_and}
use Rattle.gb_record_text.specs.Laws.{IsAnswered}
use Rattle.gb_merge.specs.Common.{after_entry}
use Rattle.gb_node.specs.declared.tape.TapeEntry.{TapeEntry}
use Rattle.gb_audit_run.specs.Replayed.{IsGiven, IsUnfed}
use Rattle.gb_audit_run.proofs.ReplayLemmas.{replayed_more, given_more, starved_so}
use Rattle.gb_audit_run.proofs.replay.first_wrong.Goals as goal

pub returns-in_err-is_right-clause-err : goal.returns-in_err-is_right-clause-err
returns-in_err-is_right-clause-err c =
    let entry = c.index-entries-place.result in
    let within : c.loop-place.place < length c.args.entries.now = omega (arith, c.loop-place-test.true) in
    let unfed : IsUnfed c.loop-place.node (get_or c.args.entries.now c.loop-place.place entry) = subst (IsUnfed c.loop-place.node) c.index-entries-place.is c.in_err-is_right.ensures.err in
    let left = err_from_is_err_and c.from_residual.result c.from_residual.ensures.1 in
    rw left.1 (starved_so c.args.plan.now c.args.me c.args.entries.now c.loop-place.place entry c.loop-place.node within c.loop-place.invariant.0 c.loop-place.invariant.1 unfed)

pub loop-place-preserved : goal.loop-place-preserved
loop-place-preserved c =
    let entry = c.index-entries-place.result in
    let within : c.loop-place.place < length c.args.entries.now = omega (arith, c.loop-place-test.true) in
    let yes = c.if-not-branch.false in
    let given : IsGiven c.loop-place.node (get_or c.args.entries.now c.loop-place.place entry) = subst (IsGiven c.loop-place.node) c.index-entries-place.is (c.in_ok-is_right.ensures.given.0 yes) in
    let after : c.is_right.new.node ≡ after_entry c.loop-place.node (get_or c.args.entries.now c.loop-place.place entry) = subst (λ (e : TapeEntry). c.is_right.new.node ≡ after_entry c.loop-place.node e) c.index-entries-place.is (c.in_ok-is_right.ensures.after yes) in (
      replayed_more c.args.plan.now c.args.me c.args.entries.now c.loop-place.place entry c.loop-place.node c.is_right.new.node within c.loop-place.invariant.0 after,
      given_more c.args.plan.now c.args.me c.args.entries.now c.loop-place.place entry c.loop-place.node within c.loop-place.invariant.0 c.loop-place.invariant.1 given,
      All-more IsAnswered c.args.entries.now c.loop-place.place entry within c.loop-place.invariant.2 (subst IsAnswered c.index-entries-place.is (c.in_ok-is_right.ensures.answered yes)),
    )
