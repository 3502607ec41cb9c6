use Rattle.gb_types.specs.Common.{sym, subst}
use Rattle.gb_merge.specs.Woven.{HasStranger}
use Rattle.gb_merge.proofs.StrangerLemmas.{has_here, has_later, has_behind}
use Rattle.gb_merge.proofs.stranger.has_stranger.Goals as goal

pub returns-then-is_strange-clause-some : goal.returns-then-is_strange-clause-some
returns-then-is_strange-clause-some c = λ _.
    let plan = c.args.reader.now in
    let sent = c.args.sent.now in
    c.loop-entry.invariant.0 (subst (HasStranger plan c.args.a sent) (sym c.in-Some.ensures) (has_here plan c.args.a sent c.in-Some.entry.now c.take.new.self (c.is_strange.ensures.strange c.if-is_strange.true)))

pub loop-entry-preserved : goal.loop-entry-preserved
loop-entry-preserved c =
    let plan = c.args.reader.now in
    let sent = c.args.sent.now in
    let entry = c.in-Some.entry.now in
    let left = c.take.new.self in (
      λ has. c.loop-entry.invariant.0 (subst (HasStranger plan c.args.a sent) (sym c.in-Some.ensures) (has_later plan c.args.a sent entry left has)),
      λ has. has_behind plan c.args.a sent entry left (c.is_strange.ensures.known c.if-is_strange.false) (subst (HasStranger plan c.args.a sent) c.in-Some.ensures (c.loop-entry.invariant.1 has)),
    )
