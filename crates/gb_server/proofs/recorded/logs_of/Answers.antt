use Rattle.gb_types.specs.Common.{◌≡◌, ◌∙◌, ◌++◌, ◌∷◌, [], ap, append_assoc, sym}
use Rattle.gb_server.proofs.RecordedLemmas.{fresh_at}
use Rattle.gb_server.proofs.recorded.logs_of.Goals as goal

pub loop-place-init : goal.loop-place-init
loop-place-init g c = sym c.into_iter-place-iterator.ensures.into_iter_gives.0

pub log_of-requires : goal.log_of-requires
log_of-requires g c =
    let place = c.in-Some.place in
    let items = c.args.recorders.items in
    let rest = c.next.new.self.rest.items in
    let split : items ≡ c.loop-place.yielded ++ place ∷ rest = c.loop-place.invariant ∙ ap (λ xs. c.loop-place.yielded ++ xs) c.in-Some.ensures.steps.0 in
    fresh_at c.args.plan.now c.args.here.now c.args.plan.now.cluster.nodes c.requires.opened.0 items c.loop-place.yielded rest place split (sym c.args.recorders.ok.0 ∙ c.requires.count) c.requires.opened.1

pub loop-place-preserved : goal.loop-place-preserved
loop-place-preserved g c =
    let place = c.in-Some.place in
    let rest = c.next.new.self.rest.items in
    c.loop-place.invariant ∙ (ap (λ xs. c.loop-place.yielded ++ xs) c.in-Some.ensures.steps.0 ∙ sym (append_assoc c.loop-place.yielded (place ∷ []) rest))
