use Rattle.gb_types.specs.Common.{common_steps, [], arith}
use Rattle.gb_types.proofs.ReadLemmas.{words_and_rest}
use Rattle.gb_session.proofs.RequestLemmas.{group_reads, no_command}
use Rattle.gb_session.proofs.grammar.read_group.Goals as goal

pub returns : goal.returns
returns c =
    let read = rw (c.in-Some-2.is) at c.in_ok-command.ensures.spelt in
    rw (c.of_group.ensures) (group_reads _ _ _ _ _ _ _ _ (words_and_rest c.args.words.now _ 2 (omega arith)) c.in-Some.ensures read)

pub returns-in_default : goal.returns-in_default
returns-in_default c = grind (arith, common_steps)

pub returns-in_default-read_address : goal.returns-in_default-read_address
returns-in_default-read_address c = grind (arith, common_steps)

pub returns-in_default-2 : goal.returns-in_default-2
returns-in_default-2 c =
    let reads = rw (c.in_default-2.is) at c.in_ok-command.ensures.spelt in
    no_command _ _ _ _ _ _ (words_and_rest c.args.words.now (record { ref_ptr = (0, 0); now = [] }) 2 (omega arith)) reads
