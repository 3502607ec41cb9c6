use Rattle.gb_types.specs.Common.{◌≡◌, get_or, ap, sym, ◌∙◌, arith}
use Rattle.gb_spelling.specs.Common.{words_of}
use Rattle.gb_spelling.specs.declared.command_words.CommandHead.TheVariants.{Fetch}
use Rattle.gb_schedule.specs.declared.head.Head.TheVariants.{Pack, Group, Tick, Stop}
use Rattle.gb_schedule.proofs.HeadLemmas.{step_found, no_step}
use Rattle.gb_schedule.proofs.grammar.find_step.Goals as goal

pub returns-in_ok-behind-in-Some-eq112 : goal.returns-in_ok-behind-in-Some-eq112
returns-in_ok-behind-in-Some-eq112 c = step_found c.args.nodes c.args.line.now Pack _ c.read_pack.result (ap words_of c.in_ok-behind-in-Some-eq112.ensures.some) c.read_pack.ensures

pub returns-in_ok-behind-in-Some-eq102 : goal.returns-in_ok-behind-in-Some-eq102
returns-in_ok-behind-in-Some-eq102 c = step_found c.args.nodes c.args.line.now (Group Fetch) _ c.read_fetch.result (ap words_of c.in_ok-behind-in-Some-eq102.ensures.some) c.read_fetch.ensures

pub returns-in_ok-behind-in-Some-eq116 : goal.returns-in_ok-behind-in-Some-eq116
returns-in_ok-behind-in-Some-eq116 c = step_found c.args.nodes c.args.line.now Tick _ c.read_tick.result (ap words_of c.in_ok-behind-in-Some-eq116.ensures.some) c.read_tick.ensures

pub returns-in_ok-behind-in-Some-eq115 : goal.returns-in_ok-behind-in-Some-eq115
returns-in_ok-behind-in-Some-eq115 c = step_found c.args.nodes c.args.line.now Stop _ c.read_stop.result (ap words_of c.in_ok-behind-in-Some-eq115.ensures.some) c.read_stop.ensures

pub returns-in_err-behind-in-Some-eq112 : goal.returns-in_err-behind-in-Some-eq112
returns-in_err-behind-in-Some-eq112 c step =
    let is : get_or c.args.line.now 0 0 ≡ 112 = sym (c.in-Some-eq112.ensures.item.3.1 0) ∙ c.in-Some-eq112.field-0-test in (
      λ found. cc (found, c.from_residual.ensures),
      λ spelt. absurd (no_step c.args.nodes c.args.line.now step spelt.head spelt.words spelt.line_is spelt.spelt (λ e. omega (arith, e, is)) (λ e. omega (arith, e, is)) (λ e. omega (arith, e, is)) (λ _. c.in_err-behind-in-Some-eq112.ensures.none) (λ e. omega (arith, e, is)) (λ e. omega (arith, e, is)) (λ e. omega (arith, e, is))),
    )

pub returns-in_err-behind-in-Some-eq102 : goal.returns-in_err-behind-in-Some-eq102
returns-in_err-behind-in-Some-eq102 c step =
    let is : get_or c.args.line.now 0 0 ≡ 102 = sym (c.in-Some-eq102.ensures.item.3.1 0) ∙ c.in-Some-eq102.field-0-test in (
      λ found. cc (found, c.from_residual-in_err-behind-in-Some-eq102.ensures),
      λ spelt. absurd (no_step c.args.nodes c.args.line.now step spelt.head spelt.words spelt.line_is spelt.spelt (λ e. omega (arith, e, is)) (λ e. omega (arith, e, is)) (λ e. omega (arith, e, is)) (λ e. omega (arith, e, is)) (λ _. c.in_err-behind-in-Some-eq102.ensures.none) (λ e. omega (arith, e, is)) (λ e. omega (arith, e, is))),
    )

pub returns-in_err-behind-in-Some-eq116 : goal.returns-in_err-behind-in-Some-eq116
returns-in_err-behind-in-Some-eq116 c step =
    let is : get_or c.args.line.now 0 0 ≡ 116 = sym (c.in-Some-eq116.ensures.item.3.1 0) ∙ c.in-Some-eq116.field-0-test in (
      λ found. cc (found, c.from_residual-in_err-behind-in-Some-eq116.ensures),
      λ spelt. absurd (no_step c.args.nodes c.args.line.now step spelt.head spelt.words spelt.line_is spelt.spelt (λ e. omega (arith, e, is)) (λ e. omega (arith, e, is)) (λ e. omega (arith, e, is)) (λ e. omega (arith, e, is)) (λ e. omega (arith, e, is)) (λ _. c.in_err-behind-in-Some-eq116.ensures.none) (λ e. omega (arith, e, is))),
    )

pub returns-in_err-behind-in-Some-eq115 : goal.returns-in_err-behind-in-Some-eq115
returns-in_err-behind-in-Some-eq115 c step =
    let is : get_or c.args.line.now 0 0 ≡ 115 = sym (c.in-Some-eq115.ensures.item.3.1 0) ∙ c.in-Some-eq115.field-0-test in (
      λ found. cc (found, c.from_residual-in_err-behind-in-Some-eq115.ensures),
      λ spelt. absurd (no_step c.args.nodes c.args.line.now step spelt.head spelt.words spelt.line_is spelt.spelt (λ e. omega (arith, e, is)) (λ e. omega (arith, e, is)) (λ e. omega (arith, e, is)) (λ e. omega (arith, e, is)) (λ e. omega (arith, e, is)) (λ e. omega (arith, e, is)) (λ _. c.in_err-behind-in-Some-eq115.ensures.none)),
    )
