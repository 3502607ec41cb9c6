use Rattle.gb_isolation.specs.RunLaws.{RunIntegrity, RunOrder, RunDuties, RunAgreement}
use Rattle.gb_isolation.proofs.FedLemmas.{of_fed}
use Rattle.gb_isolation.proofs.SeenLemmas.{is_seen_alone}
use Rattle.gb_simulate.proofs.RunTextLemmas.{GroupsAreServed, texts_so}
use Rattle.gb_simulate.proofs.laws.texts_are_of_runs.Goals as goal

pub returns : goal.returns
returns c =
    let served : GroupsAreServed = λ plan run v comes g fed. record {
      isolated = c.groups_are_isolated.ensures plan run v comes g fed;
      seen = is_seen_alone plan run v g (c.groups_are_isolated.ensures plan run v comes g fed);
      fetched = c.logs_may_be_fetched.ensures plan run v comes g fed;
      alike = c.runs_agree.ensures plan run v comes g fed;
      integrity = of_fed RunIntegrity c.groups_keep_integrity.ensures plan run v comes g fed;
      order = of_fed RunOrder c.groups_keep_order.ensures plan run v comes g fed;
      duties = of_fed RunDuties c.groups_do_their_duties.ensures plan run v comes g fed;
      agreement = of_fed RunAgreement c.settled_groups_agree.ensures plan run v comes g fed;
    } in
    texts_so (record {
      pasts = c.nodes_have_pasts.ensures;
      ends = c.runs_have_one_end.ensures;
      packets = c.packets_are_honest.ensures;
      read = c.packets_are_read.ensures;
      links = c.links_hold.ensures;
      inside = c.nothing_is_outside.ensures;
      ticks = c.ticks_answer_new_notices.ensures;
      refusals = c.refusals_change_nothing.ensures;
      ample = c.ample_runs_feed_all.ensures;
      served = served;
    })
