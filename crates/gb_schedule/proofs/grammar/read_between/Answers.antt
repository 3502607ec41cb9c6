use Rattle.gb_types.specs.Common.{◌≡◌, ◌≤◌, decimal}
use Rattle.gb_types.proofs.ReadLemmas.{found, only, reads_one}
use Rattle.gb_schedule.proofs.grammar.read_between.Goals as goal

pub returns : goal.returns
returns c =
    let read = found _ c.in_ok-number.number c.in_ok-number.ensures in
    reads_one (λ n. (c.args.least ≤ n) × (n ≤ c.args.most) × (c.args.word.now ≡ decimal n)) c.in_ok-number.number (c.if-number-least.false, read.0, read.1)
    (λ n spelt. only _ c.in_ok-number.number n c.in_ok-number.ensures (spelt.1, spelt.2))
