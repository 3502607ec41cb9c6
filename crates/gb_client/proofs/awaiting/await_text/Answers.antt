use Rattle.gb_types.specs.Common.{subst}
use Rattle.gb_session.specs.Asks.{IsAwaitText}
use Rattle.gb_client.proofs.awaiting.await_text.Goals as goal

pub returns-in-Some-clause-spelt : goal.returns-in-Some-clause-spelt
returns-in-Some-clause-spelt c =
    let read = rw c.in-Some.is at c.in_ok-awaited_by.ensures in
    (c.in-Some.field-0, subst (λ body. IsAwaitText body c.in-Some.field-0) c.deref.ensures.value read)
