use Rattle.gb_types.specs.Common.{◌≡◌, ◌+◌, ◌-◌, ◌≤◌, arith, length, rules, take}
use Rattle.gb_keys.proofs.KeyLemmas.{front_filled}
use Rattle.gb_keys.proofs.keys.read_more.Goals as goal

pub returns-in-Ok-clause-bytes : goal.returns-in-Ok-clause-bytes
returns-in-Ok-clause-bytes g c =
    let long : length c.read.new.buf ≡ (c.args.filled + 1) - c.args.filled = search rules in
    let few : c.in-Ok.count ≤ length c.read.new.buf = search rules in (
      take c.in-Ok.count c.read.new.buf,
      front_filled c.args.space.now c.read.new.buf c.args.filled (c.args.filled + 1 - c.args.filled) c.in-Ok.count (omega (arith, c.requires)) long (omega (arith, long, few)),
      c.in-Ok.ensures.bytes.0,
    )
