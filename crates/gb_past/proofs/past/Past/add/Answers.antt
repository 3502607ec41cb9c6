use Rattle.std.proofs.Common.{sym, ◌∙◌, ap, subst}
use Rattle.gb_past.specs.Marks.{head_of, last_past, last_key, entries_from, IsAdded}
use Rattle.gb_past.proofs.Lists.{story_more}
use Rattle.gb_past.proofs.Steps.{adds_moves}
use Rattle.gb_past.proofs.past.Past.add.Goals as goal

pub compare_exchange-requires : goal.compare_exchange-requires
compare_exchange-requires g c =
    let own = c.self.invariant in
    let offer = c.offer_of-offer.ensures in (
      ap (λ w. w.tracked) own.head_is,
      sym (ap (λ w. w.book) own.head_is),
      own.pen_is ∙ sym (ap (λ w. w.book) own.head_is),
      offer.names,
      rw (ap (λ w. w.key) own.head_is, offer.ask, offer.state) (adds_moves c.self.inside.marks.log c.self.inside.pen.nib _ _ _ own.writes),
    )

pub invariant_of-self : goal.invariant_of-self
invariant_of-self g c =
    let own = c.self.invariant in
    let step = c.compare_exchange.ensures in
    let next = c.new_cell-next.ensures in
    let before = c.self.inside.marks.log in
    let after = c.compare_exchange.new.seen.log in
    let adds = subst (λ (a : _). IsAdded a (before, (c.self.inside.pen.nib, c.offer_of-offer.result.state)) (after, (c.compare_exchange.new.pen.nib, c.compare_exchange.new.offer.state))) c.offer_of-offer.ensures.ask step.7 in
    let known = adds.1 (sym own.key) in
    let entry = g.M.Told.entry c.args.about.now in
    let may = subst (λ (t : _). g.S.Story.goes_on t entry) (sym (ap (λ s. s.log) c.self.view_is)) c.requires in
    record {
      head_is = own.head_is ∙ ap head_of (sym step.0);
      pen_is = next.0 ∙ sym step.0;
      writes = next.1;
      key = sym (ap (λ k. last_key k after) adds.0 ∙ known.1);
      story = rw (adds.0, known.0) (story_more g.S.Story.goes_on (entries_from (last_past before) before) entry own.story may);
    }
