use Rattle.gb_types.specs.Common.{◌≡◌, List, ◌∷◌, refl, sym, ◌∙◌, ap, subst, arith, slice_set, length-set}
use Rattle.gb_node.specs.declared.tape.TapeEntry.{TapeEntry}
use Rattle.gb_merge.specs.Interleaving.{tape_of}
use Rattle.gb_merge.specs.Woven.{IsWoven, AreMarked, AreWoken}
use Rattle.gb_merge.proofs.CountingLemmas.{count_falls}
use Rattle.gb_merge.proofs.MarkingLemmas.{marked_on}
use Rattle.gb_merge.proofs.WeaveLemmas.{can_go, none_goes, read_is, goes, posted, held_up}
use Rattle.gb_merge.proofs.TakenLemmas.{woven-begins, sent_begins}
use Rattle.gb_merge.proofs.weave.weave_all.Goals as goal

pub all-init : goal.all-init
all-init c = record {
  woven = woven-begins c.args.reader.now c.args.rest.now.items c.args.rest.now.items c.args.woven.now.order.items c.args.woven.now.events.items refl c.requires.begins.1 c.requires.begins.2;
  sent = sent_begins c.args.sent.now c.args.woven.now.order.items c.requires.begins.0 c.requires.begins.1;
  count = c.requires.count;
  marked = c.requires.marked;
}

pub returns-then-all_empty-clause-ok : goal.returns-then-all_empty-clause-ok
returns-then-all_empty-clause-ok c = (c.all.rest.items, c.all.invariant.woven, λ a. ap (λ (r : List (List TapeEntry)). tape_of r a) (sym c.as_slice-in_default.ensures.value) ∙ c.all_empty.ensures.all c.if-all_empty.true a)

pub returns-in_default-clause-err : goal.returns-in_default-clause-err
returns-in_default-clause-err c =
    held_up c.args.reader.now c.args.rest.now.items c.all.rest.items c.all.woven.order.items c.all.woven.events.items c.all.sent c.as_slice-in_default.result.now c.all.invariant.woven c.all.invariant.sent
    (none_goes c.args.reader.now c.in_ok-found.found c.as_slice.result.now c.all.rest.items c.all.sent c.in_default.is c.as_slice.ensures.value c.in_ok-found.ensures.goes) c.as_slice-in_default.ensures.value (c.all_empty.ensures.some c.if-all_empty.false)

pub all-smaller : goal.all-smaller
all-smaller c =
    let rest = c.all.rest.items in
    let a = c.in-Some.a in
    let i = c.index.result in
    let go = can_go c.args.reader.now c.in_ok-found.found a c.in-Some.event c.as_slice.result.now rest c.all.sent c.in-Some.is c.as_slice.ensures.value c.in_ok-found.ensures.goes in
    let place : i ≡ a.number = c.index.ensures.value in
    count_falls rest i c.in-Some-take.entry.now c.take.new.self (read_is rest i c.index_mut.result.now c.in-Some-take.entry.now c.take.new.self (omega (arith, place, go.within)) c.index_mut.ensures.value c.in-Some-take.ensures)

pub all-preserved : goal.all-preserved
all-preserved c =
    let plan = c.args.reader.now in
    let rest = c.all.rest.items in
    let a = c.in-Some.a in
    let i = c.index.result in
    let left = c.take.new.self in
    let place : i ≡ a.number = c.index.ensures.value in
    let go = can_go plan c.in_ok-found.found a c.in-Some.event c.as_slice.result.now rest c.all.sent c.in-Some.is c.as_slice.ensures.value c.in_ok-found.ensures.goes in
    let next : tape_of rest a.number ≡ c.in-Some-take.entry.now ∷ left = ap (tape_of rest) (sym place) ∙ read_is rest i c.index_mut.result.now c.in-Some-take.entry.now left (omega (arith, place, go.within)) c.index_mut.ensures.value c.in-Some-take.ensures in
    let after : slice_set rest i left ≡ slice_set rest a.number left = ap (λ k. slice_set rest k left) place in
    record {
      woven = subst (λ (r : List (List TapeEntry)). IsWoven plan c.args.rest.now.items r c.push-in-all.new.self.items c.push.new.self.items) (sym after) (goes plan c.args.rest.now.items rest c.all.woven.order.items c.push-in-all.new.self.items c.all.woven.events.items c.push.new.self.items c.all.sent a c.in-Some.event c.in-Some-take.entry.now left c.all.invariant.woven c.all.invariant.sent go next c.in_ok-push-2.ensures.items c.in_ok-push.ensures.items);
      sent = posted c.all.sent c.post.new.sent c.all.woven.order.items c.push-in-all.new.self.items (record { node = a; entry = c.in-Some-take.entry.now }) c.all.invariant.sent c.in_ok-post.ensures c.in_ok-push-2.ensures.items;
      count = c.wake.ensures.count ∙ (c.next_event.ensures.count ∙ (c.all.invariant.count ∙ sym (length-set rest i left)));
      marked =
          subst (λ (r : List (List TapeEntry)). AreMarked plan c.wake.new.marks.items c.post.new.sent r) (sym after)
          (marked_on plan c.next_event.new.marks.items c.wake.new.marks.items c.all.sent c.post.new.sent rest a c.in-Some.event c.in-Some-take.entry.now left (subst (AreMarked plan c.next_event.new.marks.items c.all.sent) c.as_slice.ensures.value c.next_event.ensures.marked) go c.in_ok-post.ensures
          (subst (λ (r : List (List TapeEntry)). AreWoken c.next_event.new.marks.items r c.in-Some-take.entry.now.answer c.wake.new.marks.items) (c.as_slice-in-all.ensures.value ∙ after) c.wake.ensures.woken));
    }
