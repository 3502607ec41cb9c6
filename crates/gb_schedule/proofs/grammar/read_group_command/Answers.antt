use Rattle.gb_types.specs.Common.{common_steps, [], arith}
use Rattle.gb_types.proofs.ReadLemmas.{words_and_rest}
use Rattle.gb_schedule.proofs.GroupLemmas.{asked_reads, nothing_asked}
use Rattle.gb_schedule.proofs.RowLemmas.{no_group}
use Rattle.gb_schedule.proofs.grammar.read_group_command.Goals as goal

pub returns : goal.returns
returns c =
    let reads = rw c.in-Some-2.is at c.in_ok-command.ensures.spelt in
    rw c.asked_at.ensures (asked_reads _ _ _ _ _ _ _ _ _ _ (words_and_rest c.args.words.now _ 3 (omega arith)) c.in-Some.ensures reads)

pub returns-in_default : goal.returns-in_default
returns-in_default c = grind (arith, common_steps)

pub returns-in_default-read_group : goal.returns-in_default-read_group
returns-in_default-read_group c command = (
  λ is. cc is,
  λ spelt. absurd (no_group _ _ _ _ _ _ _ spelt.node spelt.address (words_and_rest c.args.words.now (record { ref_ptr = (0, 0); now = [] }) 3 (omega arith)) c.in_default-read_group.ensures spelt.in_cluster spelt.tenant spelt.group spelt.words_are),
)

pub returns-in_default-2 : goal.returns-in_default-2
returns-in_default-2 c command =
    let reads = rw c.in_default-2.is at c.in_ok-command.ensures.spelt in (
      λ is. cc is,
      λ spelt. absurd (nothing_asked _ _ _ _ _ _ _ (words_and_rest c.args.words.now (record { ref_ptr = (0, 0); now = [] }) 3 (omega arith)) reads command spelt),
    )
