use Rattle.gb_types.specs.Common.{◌≡◌, ap, refl, ◌∙◌, length}
use Rattle.indexmap.specs.IndexMap.{insert_entry}
use Rattle.gb_types.specs.contracts.address.AddrPartialEq.TheImpl.{ghosts}
use Rattle.gb_table.specs.declared.places.Place.TheVariants.{Gone}
use Rattle.gb_table.specs.SlotsValue.{vacant}
use Rattle.gb_table.proofs.AddLemmas.{insert-new, vacant_others}
use Rattle.gb_table.proofs.places.add_vacant.Goals as goal

pub returns-clause-entries : goal.returns-clause-entries
returns-clause-entries c =
    let es = c.args.places.now.entries in
    let n : c.len.result ≡ length es = c.len.ensures.len in
    let inserted = rw c.unwrap.ensures at c.insert.ensures.entries in
    inserted ∙ (ap (λ k. insert_entry ghosts.eq es (vacant k).addr Gone) n ∙ insert-new ghosts.eq (vacant (length es)).addr Gone es (λ a. refl) (vacant_others es c.requires.vacant))
