use Rattle.gb_types.specs.Common.{arith, refl}
use Rattle.gb_serve_words.proofs.LimitLemmas.{no_limits_named, no_use, use_for_each, use_for_one}
use Rattle.gb_serve_words.proofs.limits.use_of.Goals as goal

pub returns-in-None-limit_of : goal.returns-in-None-limit_of
returns-in-None-limit_of c = no_use c.args.text.now c.in-None.ensures c.in-None-limit_of.ensures

pub returns-in-Some-limit_of : goal.returns-in-Some-limit_of
returns-in-Some-limit_of c = use_for_each c.args.text.now c.in-Some-limit_of.limit c.in-None.ensures c.in-Some-limit_of.ensures

pub returns-in-None-limit_of-2 : goal.returns-in-None-limit_of-2
returns-in-None-limit_of-2 c = no_limits_named c.args.text.now c.in-Some.behind.now c.in-Some.tenant c.in-Some.ensures c.in-None-limit_of-2.ensures

pub returns-in-Some-limit_of-2 : goal.returns-in-Some-limit_of-2
returns-in-Some-limit_of-2 c = use_for_one c.args.text.now c.in-Some.behind.now c.in-Some.tenant c.in-Some-limit_of-2.limit c.in-Some.ensures c.in-Some-limit_of-2.ensures

pub overflow_cast-result : goal.overflow_cast-result
overflow_cast-result c = let read = (c.in-Some.ensures c.in-Some.tenant c.in-Some.behind.now).0 refl in let low = read.0 in omega (arith, low)
