use Rattle.gb_types.specs.Common.{arith}
use Rattle.gb_types.proofs.ReadLemmas.{words_are}
use Rattle.gb_spelling.proofs.CommandLemmas.{fetch_reads}
use Rattle.gb_spelling.proofs.command_words.read_fetch.Goals as goal

pub returns : goal.returns
returns c = fetch_reads _ _ _ _ _ (words_are c.args.words.now _ 2 (omega arith)) c.in_ok-from.ensures c.in_ok-most.ensures
