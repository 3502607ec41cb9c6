use Rattle.gb_types.specs.Common.{[], arith}
use Rattle.gb_spelling.specs.Common.{SpellsFetch}
use Rattle.gb_types.specs.declared.request.GroupCommand.TheVariants.{Fetch}
use Rattle.gb_types.proofs.ReadLemmas.{words_and_rest, none_made}
use Rattle.gb_schedule.proofs.GroupLemmas.{fetch_reads, nothing_asked}
use Rattle.gb_schedule.proofs.RowLemmas.{no_group}
use Rattle.gb_schedule.proofs.grammar.read_fetch_words.Goals as goal

pub returns : goal.returns
returns c = fetch_reads _ _ _ _ _ _ _ _ _ _ (words_and_rest c.args.words.now _ 3 (omega arith)) c.in_ok-node.ensures c.in_ok-from.ensures

pub returns-in_err-node : goal.returns-in_err-node
returns-in_err-node c step = (
  λ is. cc (c.from_residual.ensures, is),
  λ spelt. absurd (no_group _ _ _ _ _ _ _ spelt.node spelt.address (words_and_rest c.args.words.now _ 3 (omega arith)) c.in_err-node.ensures spelt.in_cluster spelt.tenant spelt.group spelt.words_are),
)

pub returns-in_err-from : goal.returns-in_err-from
returns-in_err-from c step = (
  λ is. cc (c.from_residual-in_err-from.ensures, is),
  λ spelt. absurd (nothing_asked _ _ _ _ _ _ _ (words_and_rest c.args.words.now (record { ref_ptr = (0, 0); now = [] }) 3 (omega arith)) (none_made (λ n. Fetch n.0 n.1) (λ n. SpellsFetch n _) c.in_err-from.ensures) _ spelt),
)
