use Rattle.gb_types.specs.Common.{◌∙◌, ap}
use Rattle.gb_alone.specs.MemberLists.{MemberValue}
use Rattle.gb_alone.proofs.ItemLemmas.{item_there, no_item}
use Rattle.gb_alone.proofs.member.Member.item.Goals as goal

pub returns-in_ok-duplicate-in-Some : goal.returns-in_ok-duplicate-in-Some
returns-in_ok-duplicate-in-Some c =
    let found = c.in-Some.ensures.lookup in
    item_there c.args.self.now.put c.args.b.number c.args.place (c.deref.ensures.value ∙ ap (λ (v : MemberValue). v.put) c.self.view_is) c.index.ensures.value c.row_of-row.ensures c.saturating_sub.ensures found.3.0 found.1 c.in_ok-duplicate-in-Some.ensures

pub returns-in-None : goal.returns-in-None
returns-in-None c = no_item c.args.self.now.put c.args.b.number c.args.place (c.deref.ensures.value ∙ ap (λ (v : MemberValue). v.put) c.self.view_is) c.index.ensures.value c.row_of-row.ensures c.saturating_sub.ensures c.in-None.ensures.lookup.3
