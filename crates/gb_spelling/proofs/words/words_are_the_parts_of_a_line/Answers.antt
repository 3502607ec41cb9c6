use Rattle.gb_spelling.proofs.WordLemmas.{written_words_are_read, each_line_is_its_words}
use Rattle.gb_spelling.proofs.words.words_are_the_parts_of_a_line.Goals as goal

pub returns-clause-written : goal.returns-clause-written
returns-clause-written c = written_words_are_read

pub returns-clause-each : goal.returns-clause-each
returns-clause-each c = each_line_is_its_words
