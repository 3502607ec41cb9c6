use Rattle.gb_types.specs.Common.{List, subst, IfErr}
use Rattle.gb_node.specs.declared.tape.TapeEntry.{TapeEntry}
use Rattle.gb_merge.specs.Faults.{IsFault}
use Rattle.gb_merge.proofs.fed.merge_fed.Goals as goal

pub returns-clause-err : goal.returns-clause-err
returns-clause-err c = subst (λ (tapes : List (List TapeEntry)). IfErr c.merge_entries.result (IsFault c.args.plan.now tapes)) c.in_ok-tapes.ensures c.merge_entries.ensures.err
