use Rattle.gb_replay.proofs.replay.replay.Goals as goal

pub returns-in-Ok-compare-clause-entries : goal.returns-in-Ok-compare-clause-entries
returns-in-Ok-compare-clause-entries c = λ tapes m. (
  c.in-Ok.ensures.ok,
  c.answers_are_the_records.ensures c.args.plan.now tapes c.args.events.now m c.in-Ok.text.schedule.items c.in-Ok.text.answers.items c.in-Ok.ensures.ok,
)
