use Rattle.gb_types.specs.Common.{◌≡◌, ◌∷◌, ◌++◌, [], ◌∙◌, ap, length, set, get_or, arith}
use lib.Seq.{get_or_at, set_at}
use Rattle.gb_types.specs.declared.entry.Entry.{Entry}
use Rattle.gb_slot.proofs.store.put_few.Goals as goal

pub returns-clause-items : goal.returns-clause-items
returns-clause-items c =
    let before = c.args.entries.now.items in
    let at = c.len-last.result in
    let y = c.index_mut.result.now in
    let long : length before ≡ at = omega (arith, c.len-last.ensures) in
    let made : Entry = record { origin = c.args.m.origin; seq = c.args.m.seq; payload = c.new.result } in
    let pushed : c.push_reserved.new.self.items ≡ before ++ made ∷ [] = c.push_reserved.ensures.items in
    let found : y ≡ made = c.index_mut.ensures.value ∙ ap (λ l. get_or l at y) pushed ∙ get_or_at before made [] y at long in
    let filled : Entry = record { origin = y.origin; seq = y.seq; payload = c.set_few.new.self } in
    let whole : filled ≡ record { origin = c.args.m.origin; seq = c.args.m.seq; payload = c.args.payload.now } = λ j. record { origin = (found j).origin; seq = (found j).seq; payload = c.set_few.ensures j } in
    ap (λ l. set l at filled) pushed ∙ set_at before made [] filled at long ∙ ap (λ e. before ++ e ∷ []) whole
