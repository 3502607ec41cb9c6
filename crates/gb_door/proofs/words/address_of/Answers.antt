use Rattle.clap.specs.Words.{found_of, one_of, rows_of}
use Rattle.gb_serve_words.proofs.NumberLemmas.{no_address, reads_address}
use Rattle.gb_door.proofs.AddressLemmas.{none_address, some_address}
use Rattle.gb_door.proofs.words.address_of.Goals as goal

pub returns-in-Ok-clause-read : goal.returns-in-Ok-clause-read
returns-in-Ok-clause-read c =
    let f = found_of c.args.matches.now in
    some_address (one_of c.args.name.now (rows_of f)) c.in-Ok.address (reads_address f c.args.name.now c.in-Ok.address c.in-Ok.ensures.none c.in-Ok.ensures.value)

pub returns-in-Ok-clause-none : goal.returns-in-Ok-clause-none
returns-in-Ok-clause-none c =
    let f = found_of c.args.matches.now in
    none_address (one_of c.args.name.now (rows_of f)) c.in-Ok.address c.requires (reads_address f c.args.name.now c.in-Ok.address c.in-Ok.ensures.none c.in-Ok.ensures.value)

pub returns-in-Err-clause-none : goal.returns-in-Err-clause-none
returns-in-Err-clause-none c = no_address (found_of c.args.matches.now) c.args.name.now c.in-Err.field-0 c.in-Err.ensures.none c.in-Err.ensures.value
