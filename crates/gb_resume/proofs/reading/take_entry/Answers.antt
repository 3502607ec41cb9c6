use Rattle.gb_types.specs.Common.{sym, ◌∙◌}
use Rattle.gb_resume.proofs.ReadLemmas.{at_again, at_starved}
use Rattle.gb_resume.proofs.reading.take_entry.Goals as goal

pub returns-then-wants_memory-clause-at : goal.returns-then-wants_memory-clause-at
returns-then-wants_memory-clause-at c = λ start before at.
    at_starved start c.args.begun.now before c.args.reading.now c.count_entry.new.reading c.args.entry.now at (c.in_ok-count_entry.ensures.counts c.if-not-branch.false) (sym c.wants_memory.ensures ∙ c.if-wants_memory.true)

pub returns-then-replay-clause-at : goal.returns-then-replay-clause-at
returns-then-replay-clause-at c = λ start before at.
    at_again start c.args.begun.now c.replay.new.self before c.args.reading.now c.count_entry.new.reading c.args.entry.now c.replay.result at (c.in_ok-count_entry.ensures.counts c.if-not-branch.false)
    (sym c.wants_memory.ensures ∙ c.if-wants_memory.false) c.replay.ensures.again c.if-replay.true c.replay.ensures.same.0 c.replay.ensures.same.1 c.replay.ensures.same.2
