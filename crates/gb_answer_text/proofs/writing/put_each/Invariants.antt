use Rattle.gb_types.specs.Common.{◌≡◌, ◌++◌, length, rising_from}
use Rattle.std.specs.Io.{StartsWith}
use Rattle.gb_answer_text.specs.AnswerText.{each_after_space}
use Rattle.gb_answer_text.proofs.writing.put_each.Given as goal

abbrev pub invariant-all : goal.invariant-all
invariant-all l = (l.out.items ++ each_after_space (rising_from l.found l.from) ≡ l.fn.out.items ++ each_after_space (rising_from l.found 0)) × StartsWith l.out.items l.fn.out.items

abbrev pub decreases-all : goal.decreases-all
decreases-all l = length (rising_from l.found l.from)
