use Rattle.gb_spelling.proofs.RequestWordLemmas.{address_reads, no_group_words}
use Rattle.gb_spelling.proofs.request_words.read_address.Goals as goal

pub returns : goal.returns
returns c = address_reads c.args.tenant.now c.args.group.now c.in_ok-tenant.tenant c.in_ok-group.group c.in_ok-group.generation c.in_ok-tenant.ensures c.in_ok-group.ensures

pub returns-in_err-group : goal.returns-in_err-group
returns-in_err-group c address = no_group_words c.args.tenant.now c.args.group.now address c.from_residual-in_err-group.ensures c.in_err-group.ensures
