use Rattle.gb_types.specs.Common.{List, ap, refl, ◌∙◌, swap_remove}
use Rattle.gb_types.specs.contracts.address.AddrPartialEq.TheImpl.{ghosts}
use Rattle.gb_types.specs.declared.address.Addr.{Addr}
use Rattle.gb_table.specs.declared.{places.Place.Place, places.Place.TheVariants.Key}
use Rattle.gb_table.proofs.AddLemmas.{insert-new, swap-last}
use Rattle.gb_table.proofs.places.put_at.Goals as goal

pub returns : goal.returns
returns c =
    let es = c.args.places.now.entries in
    let entry : Addr × Place = (c.args.addr, Key c.args.key) in
    let inserted = (rw c.unwrap.ensures at c.insert.ensures.entries) ∙ insert-new ghosts.eq c.args.addr (Key c.args.key) es (λ a. refl) c.requires.fresh in
    let swapped = rw c.unwrap-2.ensures at c.swap_remove_index.ensures.entries in
    swapped ∙ (ap (λ (xs : List (Addr × Place)). swap_remove xs c.args.place c.unwrap-2.result) inserted ∙ swap-last es c.args.place entry c.unwrap-2.result c.requires.within)
