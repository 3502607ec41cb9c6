use Rattle.gb_replay.proofs.EntryLemmas.{of_entries}
use Rattle.gb_replay.proofs.laws.answers_are_the_records.Goals as goal

pub returns : goal.returns
returns c = of_entries (record { pasts = c.pasts_say.ensures; senders = c.packets_say.ensures.senders; starved = c.packets_say.ensures.starved }) c.packets_are_honest.ensures c.front_is_one_run.ensures
