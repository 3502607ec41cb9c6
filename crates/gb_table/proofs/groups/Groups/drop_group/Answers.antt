use Rattle.gb_types.specs.Common.{◌<◌, List, map, ap, length, refl, subst, sym, ◌∙◌, arith, set, length-map}
use Rattle.std.specs.FinSet as nodes
use Rattle.gb_types.specs.declared.{address.Addr.Addr, limits.TheConstants.NODES}
use Rattle.gb_rules.specs.Common.{drop_answer}
use Rattle.gb_table.specs.declared.places.Place.{Place}
use Rattle.gb_table.specs.Covered.{HaveWord}
use Rattle.gb_table.specs.Members.{IsEnrolled}
use Rattle.gb_table.specs.Places.{row_of, AreKept, AreIndexed}
use Rattle.gb_table.specs.SlotsValue.{Row, row_at, gone}
use Rattle.gb_table.specs.AtAddress.{gone_at, OthersKept}
use Rattle.gb_table.specs.GroupsValue.{GroupsValue}
use Rattle.gb_table.proofs.AddressLemmas.{others_kept_row}
use Rattle.gb_table.proofs.CoveredLemmas.{word_nobody, covered_enrolled, covered_kept}
use Rattle.gb_table.proofs.DropLemmas.{Without, dropped, reply_here}
use Rattle.gb_table.proofs.InRoomsLemmas.{gone_step, rooms_set}
use Rattle.gb_table.proofs.IndexLemmas.{places_unchanged}
use Rattle.gb_table.proofs.LivingLemmas.{reply_absent, drop_absent}
use Rattle.gb_table.proofs.MemberLemmas.{memberships_dropped}
use Rattle.gb_table.proofs.NotedLemmas.{index_dropped}
use Rattle.gb_table.proofs.SlotsLemmas.{leads_within}
use Rattle.gb_table.proofs.SteppedLemmas.{rows_in, lives_nowhere}
use Rattle.gb_table.proofs.groups.Groups.drop_group.Goals as goal

pub unreachable-requires : goal.unreachable-requires
unreachable-requires c = lives_nowhere c.args.addr c.self.inside c.args.self.now c.in-Some.place c.self.view_is c.in_default-key_at.ensures (sym c.in-Some.is ∙ c.find.ensures.place)

pub set_gone-requires : goal.set_gone-requires
set_gone-requires c = leads_within c.self.inside.places.entries c.in-Some.place c.in-Some-key_at.key c.in-Some-key_at.ensures

pub enrol-requires-clause-words : goal.enrol-requires-clause-words
enrol-requires-clause-words c = subst (λ (s : _). HaveWord NODES c.in-Some.place s c.self.inside.busy) (sym c.new.ensures) (word_nobody NODES c.in-Some.place c.self.inside.busy)

pub enrol-requires-2-clause-words : goal.enrol-requires-2-clause-words
enrol-requires-2-clause-words c = subst (λ (s : _). HaveWord NODES c.in-Some.place s c.self.inside.memberships) (sym c.new-2.ensures) (word_nobody NODES c.in-Some.place c.self.inside.memberships)

pub invariant_of-self : goal.invariant_of-self
invariant_of-self c =
    let without : Without c.self.inside.slots c.try_remove.new.self c.in-Some-key_at.key = record { gone = c.try_remove.ensures.updates.changed; others = c.try_remove.ensures.updates.others } in
    let after = dropped c.self.inside.places.entries c.self.inside.slots c.try_remove.new.self c.in-Some.place c.in-Some-key_at.key without c.self.invariant.0 c.in-Some-key_at.ensures in
    let rows = ap (λ (es : List (Addr × Place)). map (row_of c.try_remove.new.self) es) c.set_gone.ensures ∙ after.rows in
    let h = c.self.inside in
    let old = rows_in h in
    let p = c.in-Some.place in
    let row = gone (row_at old p) in
    let n = length-map h.places.entries (row_of h.slots) in
    let within : p < length old = let l = leads_within h.places.entries p c.in-Some-key_at.key c.in-Some-key_at.ensures in omega arith in
    let busy = subst (λ (s : _). IsEnrolled NODES p s h.busy c.enrol.new.memberships) c.new.ensures c.enrol.ensures in
    let kept = subst (λ (s : _). IsEnrolled NODES p s h.memberships c.enrol-2.new.memberships) c.new-2.ensures c.enrol-2.ensures in
    let enrolled = covered_enrolled p nodes.empty h.memberships c.enrol-2.new.memberships h.busy c.self.invariant.1.covered (word_nobody NODES p h.busy) kept in (
      subst (λ (es : List (Addr × Place)). AreKept es c.try_remove.new.self) (sym c.set_gone.ensures) after.kept,
      subst (λ (rs : List Row). AreIndexed h.rooms.entries rs h.cursors c.enrol.new.memberships c.enrol-2.new.memberships) (sym rows) (record {
        places = places_unchanged old h.cursors p row c.self.invariant.1.places;
        index = index_dropped old h.busy c.enrol.new.memberships p within c.self.invariant.1.index busy;
        members = memberships_dropped old h.memberships c.enrol-2.new.memberships p c.self.invariant.1.members within kept;
        covered = covered_kept c.enrol-2.new.memberships h.busy c.enrol.new.memberships enrolled busy.words;
        in_rooms = rooms_set h.rooms.entries old p gone gone_step c.self.invariant.1.in_rooms;
      }),
    )

pub returns-clause-reply : goal.returns-clause-reply
returns-clause-reply c = reply_here c.args.addr c.args.self.now c.in-Some.place (sym c.in-Some.is ∙ c.find.ensures.place)

pub returns-clause-rows : goal.returns-clause-rows
returns-clause-rows c =
    let without : Without c.self.inside.slots c.try_remove.new.self c.in-Some-key_at.key = record { gone = c.try_remove.ensures.updates.changed; others = c.try_remove.ensures.updates.others } in
    let after = dropped c.self.inside.places.entries c.self.inside.slots c.try_remove.new.self c.in-Some.place c.in-Some-key_at.key without c.self.invariant.0 c.in-Some-key_at.ensures in
    let rows = ap (λ (es : List (Addr × Place)). map (row_of c.try_remove.new.self) es) c.set_gone.ensures ∙ after.rows in
    rows
    ∙ (ap (λ (v : GroupsValue). set v.rows c.in-Some.place (gone (row_at v.rows c.in-Some.place))) c.self.view_is ∙ ap (gone_at c.args.self.now.rows) c.in-Some.ensures.at)

pub returns-clause-others : goal.returns-clause-others
returns-clause-others c =
    let without : Without c.self.inside.slots c.try_remove.new.self c.in-Some-key_at.key = record { gone = c.try_remove.ensures.updates.changed; others = c.try_remove.ensures.updates.others } in
    let after = dropped c.self.inside.places.entries c.self.inside.slots c.try_remove.new.self c.in-Some.place c.in-Some-key_at.key without c.self.invariant.0 c.in-Some-key_at.ensures in
    let rows = ap (λ (es : List (Addr × Place)). map (row_of c.try_remove.new.self) es) c.set_gone.ensures ∙ after.rows in
    let is = rows ∙ ap (λ (v : GroupsValue). set v.rows c.in-Some.place (gone (row_at v.rows c.in-Some.place))) c.self.view_is in
    subst (OthersKept c.args.addr c.args.self.now.rows) (sym is) (others_kept_row c.args.addr c.args.self.now.rows c.in-Some.place (gone (row_at c.args.self.now.rows c.in-Some.place)) refl c.in-Some.ensures.at)

pub returns-in_default-clause-reply : goal.returns-in_default-clause-reply
returns-in_default-clause-reply c = c.absent.ensures ∙ reply_absent drop_answer c.args.addr c.args.self.now (sym c.in_default.is ∙ c.find.ensures.place)

pub returns-in_default-clause-rows : goal.returns-in_default-clause-rows
returns-in_default-clause-rows c = drop_absent c.args.addr c.args.self.now.rows (sym c.in_default.is ∙ c.find.ensures.place)
