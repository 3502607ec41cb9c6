-- Each text is what the definition writes for its refusal.
use Rattle.gb_types.specs.Common.{sym, ap}
use Rattle.std.specs.Fmt.{digits}
use Rattle.gb_types.specs.declared.reply.Reply.TheVariants.{Refused}
use Rattle.gb_spelling.specs.ReplyText.{reply_spelling}
use Rattle.gb_spelling.proofs.reply_text.refusal_text.Goals as goal

pub returns-in-Denied : goal.returns-in-Denied
unfolding digits
returns-in-Denied c = sym (ap (λ why. reply_spelling (Refused why)) c.in-Denied.is)

pub returns-in-NoGroup : goal.returns-in-NoGroup
unfolding digits
returns-in-NoGroup c = sym (ap (λ why. reply_spelling (Refused why)) c.in-NoGroup.is)

pub returns-in-Spent : goal.returns-in-Spent
unfolding digits
returns-in-Spent c = sym (ap (λ why. reply_spelling (Refused why)) c.in-Spent.is)

pub returns-in-BadMembers : goal.returns-in-BadMembers
unfolding digits
returns-in-BadMembers c = sym (ap (λ why. reply_spelling (Refused why)) c.in-BadMembers.is)

pub returns-in-OverReserve : goal.returns-in-OverReserve
unfolding digits
returns-in-OverReserve c = sym (ap (λ why. reply_spelling (Refused why)) c.in-OverReserve.is)

pub returns-in-WrongPhase : goal.returns-in-WrongPhase
unfolding digits
returns-in-WrongPhase c = sym (ap (λ why. reply_spelling (Refused why)) c.in-WrongPhase.is)

pub returns-in-TooLong : goal.returns-in-TooLong
unfolding digits
returns-in-TooLong c = sym (ap (λ why. reply_spelling (Refused why)) c.in-TooLong.is)

pub returns-in-Budget : goal.returns-in-Budget
unfolding digits
returns-in-Budget c = sym (ap (λ why. reply_spelling (Refused why)) c.in-Budget.is)

pub returns-in-Bytes : goal.returns-in-Bytes
unfolding digits
returns-in-Bytes c = sym (ap (λ why. reply_spelling (Refused why)) c.in-Bytes.is)

pub returns-in-Window : goal.returns-in-Window
unfolding digits
returns-in-Window c = sym (ap (λ why. reply_spelling (Refused why)) c.in-Window.is)

pub returns-in-BadPlace : goal.returns-in-BadPlace
unfolding digits
returns-in-BadPlace c = sym (ap (λ why. reply_spelling (Refused why)) c.in-BadPlace.is)

pub returns-in-NoRoom : goal.returns-in-NoRoom
unfolding digits
returns-in-NoRoom c = sym (ap (λ why. reply_spelling (Refused why)) c.in-NoRoom.is)

pub returns-in-TenantThere : goal.returns-in-TenantThere
unfolding digits
returns-in-TenantThere c = sym (ap (λ why. reply_spelling (Refused why)) c.in-TenantThere.is)

pub returns-in-Malformed : goal.returns-in-Malformed
unfolding digits
returns-in-Malformed c = sym (ap (λ why. reply_spelling (Refused why)) c.in-Malformed.is)

pub returns-in-Stopped : goal.returns-in-Stopped
unfolding digits
returns-in-Stopped c = sym (ap (λ why. reply_spelling (Refused why)) c.in-Stopped.is)

pub returns-in-OutOfMemory : goal.returns-in-OutOfMemory
unfolding digits
returns-in-OutOfMemory c = sym (ap (λ why. reply_spelling (Refused why)) c.in-OutOfMemory.is)
