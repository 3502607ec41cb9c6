use Rattle.gb_types.specs.Common.{◌-◌, ◌∙◌, sym, arith}
use Rattle.gb_link.proofs.AckLemmas.{not_covered_beyond}
use Rattle.gb_link.proofs.TestLemmas.{lt_not}
use Rattle.gb_link.proofs.ack.covers.Goals as goal

pub returns-else-ahead-lt-LINK_WINDOW : goal.returns-else-ahead-lt-LINK_WINDOW
returns-else-ahead-lt-LINK_WINDOW c =
    lt_not (c.args.number - c.args.base) 64 (omega arith) ∙ sym (not_covered_beyond c.args.base c.args.mask c.args.number (omega arith) (omega arith) c.ranges.mask.fits)
