use Rattle.gb_types.specs.Common.{arith}
use Rattle.gb_types.proofs.ReadLemmas.{words_are}
use Rattle.gb_spelling.proofs.RequestWordLemmas.{spec_reads, no_limits}
use Rattle.gb_spelling.proofs.request_words.read_spec.Goals as goal

pub returns : goal.returns
returns c =
    spec_reads _ _ _ _ _ _ _ _ _ (words_are c.args.words.now _ 5 (omega arith)) c.in_ok-kind.ensures c.in_ok-members.ensures c.in_ok-msgs.ensures

pub returns-in_err-msgs : goal.returns-in_err-msgs
returns-in_err-msgs c spec = (
  λ is. cc (c.from_residual-in_err-msgs.ensures, is),
  λ spelt. absurd (no_limits _ _ _ _ _ _ (words_are c.args.words.now _ 5 (omega arith)) c.in_err-msgs.ensures spec spelt),
)
