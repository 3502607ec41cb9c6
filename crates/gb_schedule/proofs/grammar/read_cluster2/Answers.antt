use Rattle.gb_types.specs.Common.{common_steps, arith}
use Rattle.gb_types.proofs.ReadLemmas.{words_and_rest, found}
use Rattle.gb_schedule.proofs.RowLemmas.{cluster2_reads, no_versions, no_room}
use Rattle.gb_schedule.proofs.grammar.read_cluster2.Goals as goal

pub returns : goal.returns
returns c =
    cluster2_reads _ _ _ _ _ _ _ _ _ (words_and_rest c.args.words.now _ 3 (omega arith)) c.in_ok-nodes.ensures c.in_ok-silence.ensures c.in_ok-versions.ensures c.in_ok-room.ensures

pub returns-in_default : goal.returns-in_default
returns-in_default c = grind (arith, common_steps)

pub returns-in_err-nodes : goal.returns-in_err-nodes
returns-in_err-nodes c = grind (arith, common_steps)

pub returns-in_err-silence : goal.returns-in_err-silence
returns-in_err-silence c = grind (arith, common_steps)

pub returns-in_err-versions : goal.returns-in_err-versions
returns-in_err-versions c command = (
  λ is. cc (rw c.from_residual-in_err-versions.ensures at is),
  λ spelt. absurd (no_versions _ _ _ _ _ _ command (words_and_rest c.args.words.now _ 3 (omega arith)) c.in_ok-nodes.ensures c.in_err-versions.ensures spelt),
)

pub returns-in_err-room : goal.returns-in_err-room
returns-in_err-room c command = (
  λ is. cc (rw c.from_residual-in_err-room.ensures at is),
  λ spelt. absurd (no_room _ _ _ _ _ _ command (words_and_rest c.args.words.now _ 3 (omega arith)) c.in_ok-nodes.ensures c.in_err-room.ensures spelt),
)

pub read_versions-requires : goal.read_versions-requires
read_versions-requires c = let read = found _ c.in_ok-nodes.nodes c.in_ok-nodes.ensures in (read.0, read.1)
