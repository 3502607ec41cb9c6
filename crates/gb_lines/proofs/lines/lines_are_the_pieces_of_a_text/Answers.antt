use Rattle.gb_lines.proofs.LineSplitLemmas.{written_lines_are_read, last_may_lack_its_line_feed, each_text_is_its_lines}
use Rattle.gb_lines.proofs.lines.lines_are_the_pieces_of_a_text.Goals as goal

pub returns-clause-written : goal.returns-clause-written
returns-clause-written c = written_lines_are_read

pub returns-clause-last : goal.returns-clause-last
returns-clause-last c = last_may_lack_its_line_feed

pub returns-clause-each : goal.returns-clause-each
returns-clause-each c = each_text_is_its_lines
