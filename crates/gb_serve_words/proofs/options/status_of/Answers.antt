use Rattle.gb_types.specs.Common.{codes}
use Rattle.clap.specs.Words.{found_of}
use Rattle.gb_serve_words.proofs.NumberLemmas.{no_address, reads_address}
use Rattle.gb_serve_words.proofs.options.status_of.Goals as goal

pub returns-in-Ok-clause-read : goal.returns-in-Ok-clause-read
returns-in-Ok-clause-read c = reads_address (found_of c.args.matches.now) (codes "status") c.in-Ok.status c.in-Ok.ensures.none c.in-Ok.ensures.value

pub returns-in-Err-clause-none : goal.returns-in-Err-clause-none
returns-in-Err-clause-none c = no_address (found_of c.args.matches.now) (codes "status") c.in-Err.field-0 c.in-Err.ensures.none c.in-Err.ensures.value
