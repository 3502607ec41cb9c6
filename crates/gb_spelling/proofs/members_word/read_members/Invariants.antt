use Rattle.gb_types.specs.Common.{length}
use Rattle.gb_spelling.proofs.MembersLemmas.{parts_of, IsReadTo}
use Rattle.gb_spelling.proofs.members_word.read_members.Given as goal

abbrev pub invariant-loop-part : goal.invariant-loop-part
invariant-loop-part l = IsReadTo (parts_of l.word) (length l.yielded) l.members l.lowest
