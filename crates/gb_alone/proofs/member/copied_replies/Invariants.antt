use Rattle.gb_types.specs.Common.{◌≡◌, take}
use Rattle.gb_alone.proofs.member.copied_replies.Given as goal

abbrev pub invariant-loop-reply : goal.invariant-loop-reply
invariant-loop-reply l = l.copied.items ≡ take l.reply-index l.replies
