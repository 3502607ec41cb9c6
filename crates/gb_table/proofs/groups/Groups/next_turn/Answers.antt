use Rattle.gb_table.proofs.BusyLemmas.{turn_next, turn_early, turn_none}
use Rattle.gb_table.proofs.groups.Groups.next_turn.Goals as goal

pub returns-in-Some-clause-turn : goal.returns-in-Some-clause-turn
returns-in-Some-clause-turn c = turn_next c.args.dest.number c.args.from c.args.lap c.args.at c.in-Some.place c.args.active.now c.args.self.now.rows c.requires.index c.requires.begun c.in-Some.ensures.next

pub returns-in-Some-next_of-clause-turn : goal.returns-in-Some-next_of-clause-turn
returns-in-Some-next_of-clause-turn c = turn_early c.args.dest.number c.args.from c.args.lap c.args.at c.in-Some-next_of.early c.args.active.now c.args.self.now.rows c.requires.index c.requires.at c.requires.begun c.in-None.ensures.next c.in-Some-next_of.ensures.next

pub returns-in-None-next_of-clause-turn : goal.returns-in-None-next_of-clause-turn
returns-in-None-next_of-clause-turn c = turn_none c.args.dest.number c.args.from c.args.lap c.args.at c.args.active.now c.args.self.now.rows c.requires.index c.in-None-next_of.ensures.next
