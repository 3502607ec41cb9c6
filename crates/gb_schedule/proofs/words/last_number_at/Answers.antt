use Rattle.gb_types.specs.Common.{subst}
use Rattle.gb_schedule.specs.Numbers.{IsNumberAt}
use Rattle.gb_schedule.proofs.NumbersLemmas.{not_last}
use Rattle.gb_schedule.proofs.words.last_number_at.Goals as goal

pub returns-in-Some-clause-none : goal.returns-in-Some-clause-none
returns-in-Some-clause-none c n small last =
    not_last c.args.text.now c.args.from c.in_ok-number.number c.in-Some.field-0 n (subst (IsNumberAt c.args.text.now c.args.from c.in_ok-number.number) c.in-Some.is c.in_ok-number.ensures.some) last
