use Rattle.gb_types.specs.Common.{◌∙◌, length, ap, sym, subst, arith}
use Rattle.gb_layer.specs.Common.{paired_nothing}
use Rattle.gb_fifo.specs.Marks.{entry_of, marked, AreCounted}
use Rattle.gb_fifo.proofs.fifo.Fifo.new.Goals as goal

pub returns-clause-meaning : goal.returns-clause-meaning
returns-clause-meaning g c = λ ms.
    let none = ap (marked ms) c.new.ensures.list ∙ paired_nothing entry_of ms in
    λ i. record { lower = g.L.Layer.meaning ms c.args.lower; entries = none i }

pub returns-clause-fresh : goal.returns-clause-fresh
returns-clause-fresh g c = λ ms low. record {
  lower = low;
  entries = ap (marked ms) c.new.ensures.list ∙ paired_nothing entry_of ms;
}

pub returns-clause-known : goal.returns-clause-known
returns-clause-known g c = λ ms k. record {
  count = ap length c.new.ensures.list;
  within = omega arith;
  few = omega arith;
  memory = omega arith;
  counted = subst (AreCounted c.new.result.given) (sym (ap (marked ms) c.new.ensures.list ∙ paired_nothing entry_of ms)) c.new.ensures.counted;
  lower = k;
}
