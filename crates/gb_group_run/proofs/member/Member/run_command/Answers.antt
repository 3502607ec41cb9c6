use Rattle.gb_group_run.proofs.member.Member.run_command.Goals as goal

pub returns-in-Open-clause-state : goal.returns-in-Open-clause-state
returns-in-Open-clause-state c = rw c.in-Open.is (c.open_group.ensures.state c.args.me)

pub returns-in-Shut-clause-state : goal.returns-in-Shut-clause-state
returns-in-Shut-clause-state c = rw c.in-Shut.is (c.shut_group.ensures.state c.args.me)

pub returns-in-Drop-clause-state : goal.returns-in-Drop-clause-state
returns-in-Drop-clause-state c = rw c.in-Drop.is (c.drop_group.ensures.state c.args.me)

pub returns-in-Say-clause-state : goal.returns-in-Say-clause-state
returns-in-Say-clause-state c = rw c.in-Say.is (c.say.ensures.state c.args.me)
