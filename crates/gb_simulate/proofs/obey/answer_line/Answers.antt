use Rattle.gb_types.specs.Common.{inl, inr, refl, sym, ◌∙◌, arith, false≢true, none-some}
use Rattle.gb_schedule.specs.declared.command.Command.TheVariants as Commands
use Rattle.gb_simulate.proofs.AnswerLemmas.{nothing_added}
use Rattle.gb_simulate.proofs.obey.answer_line.Goals as goal

pub overflow_cast-nodes : goal.overflow_cast-nodes
overflow_cast-nodes c = let few = c.requires.1 in rw c.nodes-nodes.ensures (omega (arith, few))

pub returns-then-is_silent-clause-good : goal.returns-then-is_silent-clause-good
returns-then-is_silent-clause-good c = λ _. inl (c.is_silent.ensures.0 c.if-is_silent.true, refl, nothing_added c.args.text.now.items c.args.text.now.items refl)

pub returns-in-Some-clause-good : goal.returns-in-Some-clause-good
returns-in-Some-clause-good c = λ _. inr (Commands.Step c.in-Some.step, rw c.nodes-nodes.ensures at ((c.in-Some.ensures.spelt c.in-Some.step).0 refl), c.in_ok-obey_step.ensures.obeyed)

pub returns-in_ok-obey-in-Some-2-clause-good : goal.returns-in_ok-obey-in-Some-2-clause-good
returns-in_ok-obey-in-Some-2-clause-good c =
    λ _. inr (c.in-Some-2.command, rw c.nodes-nodes.ensures at ((c.in_ok-read_other_command.ensures.spelt c.in-Some-2.command).0 c.in-Some-2.is), c.in_ok-obey-in-Some-2.ensures.obeyed)

pub returns-in-None-clause-bad : goal.returns-in-None-clause-bad
returns-in-None-clause-bad c = λ _. (
  (
    λ silent. false≢true (sym c.if-is_silent.false ∙ c.is_silent.ensures.1 silent),
    λ command spelt. none-some command (sym c.in-None.is ∙ (c.in_ok-read_other_command.ensures.spelt command).1 (rw c.nodes-nodes.ensures spelt)),
  ),
  refl,
)
