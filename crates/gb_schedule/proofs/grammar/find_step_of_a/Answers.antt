use Rattle.gb_types.specs.Common.{◌≡◌, get_or, ap, arith}
use Rattle.gb_spelling.specs.Common.{words_of}
use Rattle.gb_schedule.specs.declared.head.Head.TheVariants.{Again, Ack, Arrive}
use Rattle.gb_schedule.proofs.HeadLemmas.{step_found, no_step}
use Rattle.gb_schedule.proofs.grammar.find_step_of_a.Goals as goal

pub returns-in-Some : goal.returns-in-Some
returns-in-Some c = step_found c.args.nodes c.args.line.now Arrive _ c.read_arrive.result (ap words_of c.in-Some.ensures.some) c.read_arrive.ensures

pub returns-in-Some-behind : goal.returns-in-Some-behind
returns-in-Some-behind c = step_found c.args.nodes c.args.line.now Ack _ c.read_ack.result (ap words_of c.in-Some-behind.ensures.some) c.read_ack.ensures

pub returns : goal.returns
returns c = step_found c.args.nodes c.args.line.now Again _ c.read_again.result (ap words_of c.in_ok-behind.ensures.some) c.read_again.ensures

pub returns-in_err-behind : goal.returns-in_err-behind
returns-in_err-behind c step =
    let is : get_or c.args.line.now 0 0 ≡ 97 = c.requires.first in (
      λ found. cc (found, c.from_residual.ensures),
      λ spelt. absurd (no_step c.args.nodes c.args.line.now step spelt.head spelt.words spelt.line_is spelt.spelt (λ _. c.in_default.ensures.none) (λ _. c.in_default-behind.ensures.none) (λ _. c.in_err-behind.ensures.none) (λ e. omega (arith, e, is)) (λ e. omega (arith, e, is)) (λ e. omega (arith, e, is)) (λ e. omega (arith, e, is))),
    )
