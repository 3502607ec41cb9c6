use Rattle.gb_types.specs.Common.{common_steps, None, ap, ◌∙◌, arith}
use Rattle.gb_types.proofs.ReadLemmas.{words_are}
use Rattle.gb_schedule.proofs.RowLemmas.{forge_reads, no_group}
use Rattle.gb_schedule.proofs.grammar.read_forge.Goals as goal

pub returns : goal.returns
returns c =
    rw c.of_group-request.ensures
    (forge_reads _ _ _ _ _ _ _ (words_are c.args.words.now _ 3 (omega arith)) c.in_ok-node.ensures (c.new-message.ensures ∙ ap (λ payload. record { payload = payload; seq = None }) c.new-nothing.ensures))

pub returns-in_err-node : goal.returns-in_err-node
returns-in_err-node c command = (
  λ is. cc (c.from_residual.ensures, is),
  λ spelt. absurd (no_group _ _ _ _ _ _ _ spelt.node spelt.address (words_are c.args.words.now _ 3 (omega arith)) c.in_err-node.ensures spelt.in_cluster spelt.tenant spelt.group spelt.words_are),
)

pub returns-in_default : goal.returns-in_default
returns-in_default c = grind (arith, common_steps)
