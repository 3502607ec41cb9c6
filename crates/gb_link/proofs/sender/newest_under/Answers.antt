use Rattle.gb_types.specs.Common.{◌≡◌, ◌<◌, ◌-◌, length, get_or, rules}
use Rattle.gb_link.proofs.WindowLemmas.{newest_found}
use Rattle.gb_link.proofs.sender.newest_under.Goals as goal

pub returns-in-Some : goal.returns-in-Some
returns-in-Some g c =
    let items = c.args.undone.now.items in
    let some : 0 < length items = search rules in
    let at : c.in-Some.newest.now ≡ get_or items (length items - 1) c.in-Some.newest.now = search rules in
    newest_found c.args.number items c.in-Some.newest.now c.requires some at (search rules)
