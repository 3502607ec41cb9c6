use Rattle.gb_types.specs.Common.{rules, refl, inl}
use Rattle.gb_session.proofs.NextLemmas.{asked_none}
use Rattle.gb_mail.proofs.client.Client.turn.Goals as goal

pub returns-then-not-flush-clause-turned : goal.returns-then-not-flush-clause-turned
returns-then-not-flush-clause-turned g c = inl (refl, search rules, c.flush.ensures.failed)

pub returns-then-not-flush-clause-asked : goal.returns-then-not-flush-clause-asked
returns-then-not-flush-clause-asked g c = asked_none g.A.Answers.answers c.args.answers.now

pub returns-then-not-is_empty-clause-asked : goal.returns-then-not-is_empty-clause-asked
returns-then-not-is_empty-clause-asked g c = asked_none g.A.Answers.answers c.args.answers.now

pub returns-then-self-clause-asked : goal.returns-then-self-clause-asked
returns-then-self-clause-asked g c = asked_none g.A.Answers.answers c.args.answers.now

pub returns-in-Dry-clause-asked : goal.returns-in-Dry-clause-asked
returns-in-Dry-clause-asked g c = asked_none g.A.Answers.answers c.args.answers.now

pub returns-in-Again-clause-asked : goal.returns-in-Again-clause-asked
returns-in-Again-clause-asked g c = asked_none g.A.Answers.answers c.args.answers.now

pub returns-in-Closed-clause-asked : goal.returns-in-Closed-clause-asked
returns-in-Closed-clause-asked g c = asked_none g.A.Answers.answers c.args.answers.now

pub returns-in-Failed-clause-turned : goal.returns-in-Failed-clause-turned
returns-in-Failed-clause-turned g c = inl (refl, search rules, c.flush.ensures.failed)

pub returns-in-Failed-clause-asked : goal.returns-in-Failed-clause-asked
returns-in-Failed-clause-asked g c = asked_none g.A.Answers.answers c.args.answers.now
