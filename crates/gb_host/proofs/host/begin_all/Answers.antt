use Rattle.gb_types.specs.Common.{arith, ◌≡◌, ◌+◌, ◌∙◌, ◌++◌, [], ◌∷◌, ap, append_assoc, append-nil, length, refl, subst, sym, length_push}
use Rattle.gb_past.specs.Story.{Known}
use Rattle.gb_node.specs.declared.tape.TapeEntry.{TapeEntry}
use Rattle.gb_host.specs.Begun.{AreBegunTo, BegunValue, pasts_begun}
use Rattle.gb_host.proofs.BegunLemmas.{begun_push, begun_to_more, none_begun}
use Rattle.gb_host.proofs.ReplayLemmas.{placed_next}
use Rattle.gb_host.proofs.host.begin_all.Goals as goal

pub loop-past-init : goal.loop-past-init
loop-past-init c = record {
  split = sym c.into_iter-past-iterator.ensures.into_iter_gives.0;
  count = refl;
  many = c.in_ok-begun.ensures.len;
  room = omega (arith, c.in_ok-begun.ensures.capacity, c.from.ensures);
  begun = λ k d under. absurd (omega (arith, under));
  pasts = none_begun c.in_ok-begun.begun.items (omega (arith, c.in_ok-begun.begun.ok.0, c.in_ok-begun.ensures.len));
}

pub new-requires : goal.new-requires
new-requires c =
    let inv = c.loop-past.invariant in
    let past = c.in-Some.past in
    let items = c.args.pasts.items in
    let split : items ≡ c.loop-past.yielded ++ past ∷ c.next.new.self.rest.items = inv.split ∙ ap (λ xs. c.loop-past.yielded ++ xs) c.in-Some.ensures.steps.0 in
    let at = placed_next items c.loop-past.yielded c.next.new.self.rest.items past c.loop-past.number split inv.count in
    omega (arith, at.0, c.args.pasts.ok.0, c.requires.pasts.0, c.requires.limits.nodes)

pub new-requires-in-loop-past-clause-member : goal.new-requires-in-loop-past-clause-member
new-requires-in-loop-past-clause-member c =
    let inv = c.loop-past.invariant in
    let past = c.in-Some.past in
    let items = c.args.pasts.items in
    let split : items ≡ c.loop-past.yielded ++ past ∷ c.next.new.self.rest.items = inv.split ∙ ap (λ xs. c.loop-past.yielded ++ xs) c.in-Some.ensures.steps.0 in
    let at = placed_next items c.loop-past.yielded c.next.new.self.rest.items past c.loop-past.number split inv.count in
    omega (arith, at.0, c.args.pasts.ok.0, c.requires.pasts.0, c.new.ensures)

pub new-requires-in-loop-past-clause-past : goal.new-requires-in-loop-past-clause-past
new-requires-in-loop-past-clause-past c =
    let inv = c.loop-past.invariant in
    let past = c.in-Some.past in
    let items = c.args.pasts.items in
    let split : items ≡ c.loop-past.yielded ++ past ∷ c.next.new.self.rest.items = inv.split ∙ ap (λ xs. c.loop-past.yielded ++ xs) c.in-Some.ensures.steps.0 in
    let at = placed_next items c.loop-past.yielded c.next.new.self.rest.items past c.loop-past.number split inv.count in
    ap (λ (k : Known TapeEntry). k.log) (sym (at.1 past)) ∙ c.requires.pasts.1 c.loop-past.number past at.0

pub push_reserved-requires : goal.push_reserved-requires
push_reserved-requires c =
    let inv = c.loop-past.invariant in
    let past = c.in-Some.past in
    let items = c.args.pasts.items in
    let split : items ≡ c.loop-past.yielded ++ past ∷ c.next.new.self.rest.items = inv.split ∙ ap (λ xs. c.loop-past.yielded ++ xs) c.in-Some.ensures.steps.0 in
    let at = placed_next items c.loop-past.yielded c.next.new.self.rest.items past c.loop-past.number split inv.count in
    omega (arith, at.0, c.args.pasts.ok.0, c.requires.pasts.0, inv.many, inv.room)

pub loop-past-preserved : goal.loop-past-preserved
loop-past-preserved c =
    let inv = c.loop-past.invariant in
    let past = c.in-Some.past in
    let items = c.args.pasts.items in
    let split : items ≡ c.loop-past.yielded ++ past ∷ c.next.new.self.rest.items = inv.split ∙ ap (λ xs. c.loop-past.yielded ++ xs) c.in-Some.ensures.steps.0 in
    let at = placed_next items c.loop-past.yielded c.next.new.self.rest.items past c.loop-past.number split inv.count in
    let b = c.new-in-loop-past.result in
    let bs = c.loop-past.begun.items in
    let n = c.loop-past.number in
    let len : length bs ≡ n = omega (arith, c.loop-past.begun.ok.0, inv.many) in
    let told = c.new-in-loop-past.ensures in
    record {
      split = inv.split ∙ (ap (λ xs. c.loop-past.yielded ++ xs) c.in-Some.ensures.steps.0 ∙ sym (append_assoc c.loop-past.yielded (past ∷ []) c.next.new.self.rest.items));
      count = length_push c.loop-past.yielded past ∙ ap (λ m. m + 1) inv.count;
      many = omega (arith, c.push_reserved.ensures.len, inv.many);
      room = omega (arith, c.push_reserved.ensures.capacity, inv.room);
      begun = subst (AreBegunTo c.args.plan (n + 1)) (sym c.push_reserved.ensures.items) (begun_to_more c.args.plan n bs b len inv.begun (ap (λ m. m.number) told.1 ∙ c.new.ensures) told.0);
      pasts = ap pasts_begun c.push_reserved.ensures.items ∙ (begun_push bs b ∙ ((λ i. inv.pasts i ++ told.3 i ∷ [])));
    }
