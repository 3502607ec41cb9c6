use Rattle.gb_schedule.proofs.SayLemmas.{say_reads}
use Rattle.gb_schedule.proofs.grammar.read_first_say.Goals as goal

pub returns : goal.returns
returns c =
    let reads = rw c.in-Some-2.is at c.in_ok-message.ensures in
    rw c.asked_at.ensures (say_reads c.args.nodes c.args.line.now c.in-Some.text.now c.in-Some-first_member.node c.in-Some-first_member.address c.in-Some-first_member.rest.now c.in-Some-2.message c.in-Some.ensures.some c.in-Some-first_member.ensures reads)
