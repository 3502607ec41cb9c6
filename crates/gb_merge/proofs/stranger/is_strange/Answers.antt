use Rattle.gb_types.specs.Common.{sym, ◌∙◌}
use Rattle.gb_merge.proofs.CodeLemmas.{none_is, some_is}
use Rattle.gb_merge.proofs.GoingLemmas.{blocked_is, sent_free}
use Rattle.gb_merge.proofs.stranger.is_strange.Goals as goal

pub returns-in-Some-clause-strange : goal.returns-in-Some-clause-strange
returns-in-Some-clause-strange c = λ none.
    blocked_is c.args.reader.now c.args.sent.now c.args.a c.args.event.now c.in-Some.bytes.now c.in-Some.ensures.0 c.in-Some.ensures.1 (sym (none_is c.number.result c.is_none.result c.is_none.ensures none) ∙ c.number.ensures)

pub returns-in-Some-clause-known : goal.returns-in-Some-clause-known
returns-in-Some-clause-known c = λ some blocked.
    let k = some_is c.number.result c.is_none.result c.is_none.ensures some in
    sent_free c.args.reader.now c.args.sent.now c.args.a k.0 c.args.event.now c.in-Some.bytes.now c.in-Some.ensures.0 (sym k.1 ∙ c.number.ensures) blocked
