use Rattle.gb_types.specs.Common.{rules, arith, ◌≡◌, ◌+◌, ◌<◌, ◌∙◌, ◌++◌, [], ◌∷◌, ap, append_assoc, append-nil, drop, drop_all, length, subst, sym}
use Rattle.gb_past.specs.Story.{Known}
use Rattle.gb_node.specs.declared.tape.TapeEntry.{TapeEntry}
use Rattle.gb_host.specs.Begun.{BegunValue, IsBegun, pasts_begun}
use Rattle.gb_host.specs.Happened.{ArePastsTo}
use Rattle.gb_host.proofs.BegunLemmas.{begun_step, pasts_more}
use Rattle.gb_host.proofs.host.seen_of.Goals as goal

pub loop-one-preserved : goal.loop-one-preserved
loop-one-preserved c =
    let bs = c.args.begun.now in
    let i = c.loop-one.one-index in
    let inv = c.loop-one.invariant in
    let seen = c.loop-one.seen in
    let b = c.one-item.result in
    let x = c.seen.result in
    let rest = pasts_begun (drop (i + 1) bs) in
    let under : i < length bs = search rules in
    let is : x ≡ b.past = c.seen.ensures ∙ c.past.ensures in
    let many : length seen.items ≡ i = omega (arith, seen.ok.0, inv.many) in
    let one = c.requires i b under in
    record {
      many = omega (arith, c.push_reserved.ensures.len, inv.many);
      room = omega (arith, c.push_reserved.ensures.capacity, inv.room);
      split = inv.split ∙ (ap (λ ps. seen.items ++ ps) (begun_step bs i b under) ∙ (ap (λ (k : Known TapeEntry). seen.items ++ k ∷ rest) (sym (is ∙ ap (λ (v : BegunValue). v.past) c.one-item.is))
          ∙ (sym (append_assoc seen.items (x ∷ []) rest) ∙ ap (λ ss. ss ++ rest) (sym c.push_reserved.ensures.items))));
      pasts = subst (ArePastsTo c.args.plan.now (i + 1)) (sym c.push_reserved.ensures.items)
          (pasts_more c.args.plan.now i seen.items x b many inv.pasts (ap (λ (v : BegunValue). v.me.number) c.one-item.is ∙ one.0) (ap (λ (v : BegunValue). v.plan) c.one-item.is ∙ one.1) c.comes.ensures is);
    }

pub returns-clause-seen : goal.returns-clause-seen
returns-clause-seen c =
    let bs = c.args.begun.now in
    let i = c.loop-one.one-index in
    let seen = c.loop-one.seen in
    let left : drop i bs ≡ [] = drop_all i bs (omega (arith, c.loop-one-test.false)) in
    sym (c.loop-one.invariant.split ∙ (ap (λ ds. seen.items ++ pasts_begun ds) left ∙ append-nil seen.items))

pub returns-clause-pasts : goal.returns-clause-pasts
returns-clause-pasts c = λ b under. c.loop-one.invariant.pasts b (omega (arith, under, c.loop-one-test.false))
