use Rattle.gb_schedule.proofs.SilentLemmas as lemmas
use Rattle.gb_schedule.proofs.grammar.silent_lines_spell_nothing.Goals as goal

pub returns : goal.returns
returns c = lemmas.silent_lines_spell_nothing
