use Rattle.gb_types.specs.Common.{refl}
use Rattle.std.proofs.lemmas.List.Prefix.{front_rest}
use Rattle.gb_cluster.specs.declared.event.Event.TheVariants as Events
use Rattle.gb_answer_text.proofs.NoticedLemmas.{on_ok}
use Rattle.gb_simulate.proofs.OfClusterLemmas.{takes_so}
use Rattle.gb_simulate.proofs.obey.answer_arrival.Goals as goal

pub returns-clause-answers : goal.returns-clause-answers
returns-clause-answers c =
    on_ok c.put_answer.result
    (λ is. record {
      answer = c.arrive.result;
      next = c.arrive.new.self;
      takes = takes_so c.args.cluster.now c.arrive.new.self (Events.Arrive c.args.packet) c.arrive.result c.arrive.ensures.step;
      after_is = refl;
      text_is = front_rest c.put_answer.new.out.items c.args.text.now.items _ is;
    })
    c.put_answer.ensures.ok
