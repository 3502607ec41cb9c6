use Rattle.gb_types.specs.Common.{inl, inr, refl, arith, ◌≤◌, length, ◌∙◌, ap, sym, take, drop, map}
use Rattle.gb_rules.specs.Common.{entry_in}
use Rattle.gb_slot.specs.SlotState.{SlotState}
use Rattle.gb_slot.proofs.SlotLemmas.{fetched, fetched_some}
use Rattle.gb_slot.proofs.slot.Slot.fetch.Goals as goal

pub returns-in-Ok-clause-answer : goal.returns-in-Ok-clause-answer
returns-in-Ok-clause-answer c =
    let log = c.self.inside.log in
    let within : c.args.from ≤ length log.items = omega (arith, c.is_bad_place.ensures.place c.if-is_bad_place.false, c.len.ensures, log.ok.0) in
    let found = c.page-found.ensures ∙ ap (λ ms. take c.args.max (drop c.args.from ms)) c.deref.ensures.value in
    let listed = ap (λ (v : SlotState). v.log) (sym c.self.view_is) in
    let store = ap (λ (v : SlotState). v.store) c.self.view_is in
    inr (fetched c.args.self.now log.items c.args.from c.args.max c.in-Ok.entries.items listed within (c.is_bad_place.ensures.few c.if-is_bad_place.false) (c.in-Ok.ensures.ok ∙ (ap (λ ms. map (entry_in c.self.inside.store.entries) ms) found ∙ ap (λ es. map (entry_in es) (take c.args.max (drop c.args.from log.items))) store)))

pub returns-in-Err-clause-answer : goal.returns-in-Err-clause-answer
returns-in-Err-clause-answer c =
    let log = c.self.inside.log in
    let within : c.args.from ≤ length log.items = omega (arith, c.is_bad_place.ensures.place c.if-is_bad_place.false, c.len.ensures, log.ok.0) in
    let found = c.page-found.ensures ∙ ap (λ ms. take c.args.max (drop c.args.from ms)) c.deref.ensures.value in
    let listed = ap (λ (v : SlotState). v.log) (sym c.self.view_is) in
    inl (refl, fetched_some c.args.self.now log.items c.args.from c.args.max listed within (c.is_bad_place.ensures.few c.if-is_bad_place.false) (λ none. c.in-Err.ensures.lack (found ∙ none)))
