use Rattle.gb_types.specs.Common.{arith}
use Rattle.gb_link.proofs.ArrivalLemmas.{firsts_most}
use Rattle.gb_link.proofs.receiver.first_once.Goals as goal

pub returns : goal.returns
returns c = λ received n numbers. let most = firsts_most received n numbers in omega (arith, most)
