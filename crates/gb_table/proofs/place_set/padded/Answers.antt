use Rattle.gb_types.specs.Common.{◌∙◌, min, ap, sym}
use Rattle.gb_table.proofs.PlaceSetLemmas.{padded_word, has-same}
use Rattle.gb_table.proofs.place_set.padded.Goals as goal

pub returns-clause-same : goal.returns-clause-same
returns-clause-same g c = λ p. has-same c.args.words.now _ p (padded_word c.args.words.now c.copy_from_slice.new.self g.row.N c.copy_from_slice.ensures.after)

pub returns-clause-summary : goal.returns-clause-summary
returns-clause-summary g c = λ summary is a h. is a h ∙ ap (min 1) (sym (padded_word c.args.words.now c.copy_from_slice.new.self g.row.N c.copy_from_slice.ensures.after a))
