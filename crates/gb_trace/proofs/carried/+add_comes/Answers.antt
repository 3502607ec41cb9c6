use Rattle.gb_types.specs.Common.{◌≡◌, List, subst, OnOk}
use Rattle.gb_alone.specs.declared.event.GroupStep.{GroupStep}
use Rattle.gb_trace.proofs.CountLemmas.{come_on}
use Rattle.gb_trace.proofs.carried.+add_comes.Goals as goal

pub returns : goal.returns
returns t c =
    subst (λ (xs : List GroupStep). OnOk c.add_comes.result (c.add_comes.new.steps.items ≡ xs))
    (come_on c.args.from c.args.to c.args.place c.in-Some.next c.args.count c.at.result c.args.steps.now.items c.push.new.self.items c.if-count-eq0.false c.in-Some.ensures.1 c.at.ensures c.in_ok-push.ensures.items)
    c.add_comes.ensures
