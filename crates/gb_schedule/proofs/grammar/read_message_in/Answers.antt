use Rattle.gb_schedule.proofs.SayLemmas.{message_in}
use Rattle.gb_schedule.proofs.grammar.read_message_in.Goals as goal

pub returns-in-None : goal.returns-in-None
returns-in-None c = let words = rw c.in-None.is at c.cut_word.ensures.last in rw words c.read_message.ensures

pub returns-in-Some : goal.returns-in-Some
returns-in-Some c =
    let words = rw c.in-Some.is at c.cut_word.ensures.more in
    rw words (message_in _ _ c.in-Some.seq.now c.read_message-in-Some.ensures)
