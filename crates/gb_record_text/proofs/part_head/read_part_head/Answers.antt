use Rattle.gb_types.specs.Common.{◌≡◌}
use Rattle.gb_record_text.proofs.part_head.read_part_head.Goals as goal

pub returns-in-Some-2-clause-undivided : goal.returns-in-Some-2-clause-undivided
returns-in-Some-2-clause-undivided c = λ same. (c.in-Some-2.field-0, rw c.in-Some-2.is at c.in_ok-read_head.ensures)
