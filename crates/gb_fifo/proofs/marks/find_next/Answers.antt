use Rattle.gb_types.specs.Common.{sym, ◌∙◌}
use Rattle.gb_fifo.proofs.MarksLemmas.{next_place, none_next, not_next_there}
use Rattle.gb_fifo.proofs.marks.find_next.Goals as goal

pub returns-then-is_next_at : goal.returns-then-is_next_at
returns-then-is_next_at c =
    let i = c.args.index.now in
    next_place i.list.items c.args.list.now c.args.origin c.args.count c.args.first i.differ c.requires (sym c.is_next_at.ensures ∙ c.if-is_next_at.true)

pub returns-in-None : goal.returns-in-None
returns-in-None c = none_next c.args.index.now.list.items c.args.list.now c.args.origin c.args.count c.in-None.ensures

pub returns-then-is_next_at-2 : goal.returns-then-is_next_at-2
returns-then-is_next_at-2 c =
    let i = c.args.index.now in
    next_place i.list.items c.args.list.now c.args.origin c.args.count c.in-Some.place i.differ c.in-Some.ensures.0 (sym c.is_next_at-in-Some.ensures ∙ c.if-is_next_at-2.true)

pub returns-else-is_next_at-2 : goal.returns-else-is_next_at-2
returns-else-is_next_at-2 c =
    let i = c.args.index.now in
    not_next_there i.list.items c.args.list.now c.args.origin c.args.count c.in-Some.place i.differ c.in-Some.ensures.0 c.in-Some.ensures.1 (sym c.is_next_at-in-Some.ensures ∙ c.if-is_next_at-2.false)
