use Rattle.gb_alone.proofs.member.Member.running_reply.Goals as goal

pub returns-in-Open : goal.returns-in-Open
returns-in-Open c = rw c.in-Open.is (c.open_reply.ensures c.args.bounds.now c.args.address c.args.me.number)

pub returns-in-Shut : goal.returns-in-Shut
returns-in-Shut c = rw c.in-Shut.is (c.shut_reply.ensures c.args.bounds.now c.args.address c.args.me.number)

pub returns-in-Drop : goal.returns-in-Drop
returns-in-Drop c = rw c.in-Drop.is (c.drop_reply.ensures c.args.bounds.now c.args.address c.args.me.number)

pub returns-in-Say : goal.returns-in-Say
returns-in-Say c = rw c.in-Say.is (c.say_reply.ensures c.args.address)

pub returns-in-Fetch : goal.returns-in-Fetch
returns-in-Fetch c = rw c.in-Fetch.is (c.fetch_reply.ensures c.args.bounds.now c.args.address)
