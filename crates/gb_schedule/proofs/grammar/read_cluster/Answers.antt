use Rattle.gb_types.specs.Common.{common_steps, ap, arith}
use Rattle.gb_types.proofs.ReadLemmas.{words_are}
use Rattle.gb_types.specs.declared.version.VersionLimits.{VersionLimits}
use Rattle.gb_schedule.proofs.RowLemmas.{cluster_reads}
use Rattle.gb_schedule.proofs.grammar.read_cluster.Goals as goal

pub returns : goal.returns
returns c =
    cluster_reads _ _ _ _ _ _ (words_are c.args.words.now _ 2 (omega arith)) (ap (λ (l : VersionLimits). l.nodes) c.limits.ensures.value) c.in_ok-nodes.ensures c.in_ok-silence.ensures

pub returns-in_default : goal.returns-in_default
returns-in_default c = grind (arith, common_steps)

pub returns-in_err-nodes : goal.returns-in_err-nodes
returns-in_err-nodes c = grind (arith, common_steps)

pub returns-in_err-silence : goal.returns-in_err-silence
returns-in_err-silence c = grind (arith, common_steps)
