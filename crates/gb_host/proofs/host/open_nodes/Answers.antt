use Rattle.gb_types.specs.Common.{arith, ◌≡◌, ◌+◌, ◌∙◌, ◌++◌, Bool, ℕ, List, [], ◌∷◌, ap, append_assoc, length, refl, subst, sym, length_push}
use Rattle.std.specs.FinSet as set
use Rattle.gb_node.specs.declared.tape.TapeEntry.{TapeEntry}
use Rattle.gb_host.specs.Begun.{pasts_begun}
use Rattle.gb_host.specs.HostValue.{AreOpened, IsOpened}
use Rattle.gb_host.specs.Pasts.{past_at}
use Rattle.gb_host.proofs.BegunLemmas.{next_begun, next_blank, next_book}
use Rattle.gb_host.proofs.OpenLemmas.{opened_more}
use Rattle.gb_host.proofs.host.open_nodes.Goals as goal

pub loop-one-init : goal.loop-one-init
loop-one-init g c = record {
  split = sym c.into_iter-one-iterator.ensures.into_iter_gives.0;
  many = c.in_ok-nodes.ensures.len;
  room = omega (arith, c.in_ok-nodes.ensures.capacity, c.from.ensures);
  as_many = c.in_ok-recorders.ensures.len;
  space = omega (arith, c.in_ok-recorders.ensures.capacity, c.from-2.ensures);
  opened = λ k d under. absurd (omega (arith, under));
}

pub open_node-requires-clause-plan : goal.open_node-requires-clause-plan
open_node-requires-clause-plan g c =
    let inv = c.loop-one.invariant in
    let one = c.in-Some.one in
    let rest = c.next.new.self.rest.items in
    let items = c.args.begun.items in
    let ys = c.loop-one.yielded in
    let split : items ≡ ys ++ one ∷ rest = inv.split ∙ ap (λ xs. ys ++ xs) c.in-Some.ensures.steps.0 in
    (c.requires.plan, (next_begun c.args.plan items ys rest one (length ys) split refl c.requires.begun.1).1)

pub open_node-requires-clause-book : goal.open_node-requires-clause-book
open_node-requires-clause-book g c =
    let inv = c.loop-one.invariant in
    let one = c.in-Some.one in
    let rest = c.next.new.self.rest.items in
    let items = c.args.begun.items in
    let ys = c.loop-one.yielded in
    let split : items ≡ ys ++ one ∷ rest = inv.split ∙ ap (λ xs. ys ++ xs) c.in-Some.ensures.steps.0 in
    next_book c.args.plan g.L.Tapes.books items ys rest one (length ys) split refl c.requires.begun.1 c.requires.books

pub open_node-requires-clause-blank : goal.open_node-requires-clause-blank
open_node-requires-clause-blank g c = λ on.
    let inv = c.loop-one.invariant in
    let one = c.in-Some.one in
    let rest = c.next.new.self.rest.items in
    let items = c.args.begun.items in
    let ys = c.loop-one.yielded in
    let split : items ≡ ys ++ one ∷ rest = inv.split ∙ ap (λ xs. ys ++ xs) c.in-Some.ensures.steps.0 in
    next_blank c.args.plan items ys rest one (length ys) split refl c.requires.begun.1 (c.requires.blank on)

pub push_reserved-requires : goal.push_reserved-requires
push_reserved-requires g c =
    let inv = c.loop-one.invariant in
    let one = c.in-Some.one in
    let rest = c.next.new.self.rest.items in
    let items = c.args.begun.items in
    let ys = c.loop-one.yielded in
    let split : items ≡ ys ++ one ∷ rest = inv.split ∙ ap (λ xs. ys ++ xs) c.in-Some.ensures.steps.0 in
    let at = next_begun c.args.plan items ys rest one (length ys) split refl c.requires.begun.1 in
    omega (arith, at.3, c.args.begun.ok.0, c.requires.begun.0, inv.many, inv.room, inv.as_many, inv.space)

pub push_reserved-requires-in-loop-one : goal.push_reserved-requires-in-loop-one
push_reserved-requires-in-loop-one g c =
    let inv = c.loop-one.invariant in
    let one = c.in-Some.one in
    let rest = c.next.new.self.rest.items in
    let items = c.args.begun.items in
    let ys = c.loop-one.yielded in
    let split : items ≡ ys ++ one ∷ rest = inv.split ∙ ap (λ xs. ys ++ xs) c.in-Some.ensures.steps.0 in
    let at = next_begun c.args.plan items ys rest one (length ys) split refl c.requires.begun.1 in
    omega (arith, at.3, c.args.begun.ok.0, c.requires.begun.0, inv.many, inv.room, inv.as_many, inv.space)

pub loop-one-preserved : goal.loop-one-preserved
loop-one-preserved g c =
    let inv = c.loop-one.invariant in
    let one = c.in-Some.one in
    let rest = c.next.new.self.rest.items in
    let items = c.args.begun.items in
    let ys = c.loop-one.yielded in
    let split : items ≡ ys ++ one ∷ rest = inv.split ∙ ap (λ xs. ys ++ xs) c.in-Some.ensures.steps.0 in
    let n = length ys in
    let here = c.args.here.now in
    let p = c.args.plan in
    let at = next_begun p items ys rest one n split refl c.requires.begun.1 in
    let r = c.in-Ok.opened.1 in
    let len : length c.loop-one.recorders.items ≡ n = omega (arith, c.loop-one.recorders.ok.0, inv.as_many) in
    let told : IsOpened p c.contains-is_here.result one.me.number one.past.log r = c.in-Ok.ensures.recorder in
    let opened : IsOpened p (set.contains here n) n (past_at (pasts_begun items) n) r =
    rw at.2 (subst (λ (k : ℕ). IsOpened p (set.contains here k) k one.past.log r) at.0 (subst (λ (t : Bool). IsOpened p t one.me.number one.past.log r) (c.contains-is_here.ensures ∙ ap (λ (m : ℕ). set.contains here m) (ap (λ (v : _). v.number) c.me.ensures)) told)) in
    let count = length_push ys one in
    record {
      split = inv.split ∙ (ap (λ xs. ys ++ xs) c.in-Some.ensures.steps.0 ∙ sym (append_assoc ys (one ∷ []) rest));
      many = omega (arith, c.push_reserved.ensures.len, inv.many, count);
      room = omega (arith, c.push_reserved.ensures.capacity, inv.room);
      as_many = omega (arith, c.push_reserved-in-loop-one.ensures.len, inv.as_many, count);
      space = omega (arith, c.push_reserved-in-loop-one.ensures.capacity, inv.space);
      opened = subst (λ (k : ℕ). AreOpened p here k (pasts_begun items) c.push_reserved-in-loop-one.new.self.items) (sym count)
          (subst (AreOpened p here (n + 1) (pasts_begun items)) (sym c.push_reserved-in-loop-one.ensures.items) (opened_more p here n (pasts_begun items) c.loop-one.recorders.items r len inv.opened opened));
    }
