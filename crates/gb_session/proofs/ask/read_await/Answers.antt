use Rattle.gb_types.specs.Common.{◌≤◌, Bor, List, ℕ, length, sym, subst, ◌∙◌, arith, length-map, false≢true}
use Rattle.gb_types.proofs.ReadLemmas.{words_and_rest, words_are}
use Rattle.gb_session.proofs.AskLemmas.{no_place, places_more, only_more, other_rest, no_wait, bad_numbers, spells_await}
use Rattle.gb_session.specs.declared.ask.Place.{Place}
use Rattle.gb_session.proofs.ask.read_await.Goals as goal

abbrev Allowed : List Place → ℕ → Type 0
Allowed places wait = (1 ≤ length places) × (length places ≤ 16) × (wait ≤ 60000)

pub returns-in_default-read_place-clause-none : goal.returns-in_default-read_place-clause-none
returns-in_default-read_place-clause-none c =
    no_place c.places.places.items _ _ _ _ _ _ _ _ c.read_place.result c.places.invariant.only (words_and_rest c.places.rest.now _ 5 (omega arith)) c.read_place.ensures c.in_default-read_place.is

pub places-preserved : goal.places-preserved
places-preserved c = record {
  spelt = places_more c.places.places.items c.push.new.self.items _ _ _ c.in-Some.place _ _ _ _ _ c.read_place.result c.places.invariant.spelt (words_and_rest c.places.rest.now _ 5 (omega arith)) c.read_place.ensures c.in-Some.is c.in_ok-push.ensures.items;
  only = only_more c.places.places.items c.push.new.self.items _ _ _ c.in-Some.place _ _ _ _ _ c.read_place.result c.places.invariant.only (words_and_rest c.places.rest.now _ 5 (omega arith)) c.read_place.ensures c.in-Some.is c.in_ok-push.ensures.items;
}

pub returns-then-rest-ne1-clause-none : goal.returns-then-rest-ne1-clause-none
returns-then-rest-ne1-clause-none c =
    other_rest c.places.places.items _ _ c.places.invariant.only (omega (arith, length-map {A = Bor (List ℕ)} {B = List ℕ}))
    (λ one. omega (arith, one, length-map {A = Bor (List ℕ)} {B = List ℕ}))

pub returns-in_default-read_u32-clause-none : goal.returns-in_default-read_u32-clause-none
returns-in_default-read_u32-clause-none c =
    no_wait c.places.places.items _ _ _ c.read_u32.result c.places.invariant.only (words_are c.places.rest.now _ 1 (omega arith)) c.read_u32.ensures c.in_default-read_u32.is

pub returns-then-not-is_allowed-clause-none : goal.returns-then-not-is_allowed-clause-none
returns-then-not-is_allowed-clause-none c =
    bad_numbers c.places.places.items _ _ _ c.in-Some-read_u32.wait c.read_u32.result c.places.invariant.only (words_are c.places.rest.now _ 1 (omega arith)) c.read_u32.ensures c.in-Some-read_u32.is
    (λ good. false≢true (sym c.if-not-is_allowed.true ∙ c.is_allowed.ensures.1 (subst (λ (ps : List Place). Allowed ps c.in-Some-read_u32.wait) (sym c.deref.ensures.value) good)))

pub returns-clause-some : goal.returns-clause-some
returns-clause-some c =
    spells_await c.places.places _ _ _ c.in-Some-read_u32.wait c.read_u32.result c.places.invariant.spelt (words_are c.places.rest.now _ 1 (omega arith)) c.read_u32.ensures c.in-Some-read_u32.is
    (subst (λ (ps : List Place). Allowed ps c.in-Some-read_u32.wait) c.deref.ensures.value (c.is_allowed.ensures.0 c.if-not-is_allowed.false))
