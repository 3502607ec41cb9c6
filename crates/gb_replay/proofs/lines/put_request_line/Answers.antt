use Rattle.gb_types.specs.Common.{◌≡◌, ◌-◌, ◌∙◌, length, rules}
use Rattle.gb_replay.specs.ScheduleText.{secret_text}
use Rattle.gb_replay.proofs.LineLemmas.{cut_off}
use Rattle.gb_replay.proofs.lines.put_request_line.Goals as goal

pub returns : goal.returns
returns c =
    let whole = c.put_request.new.out.items in
    let count : c.saturating_sub-length.result ≡ length whole - length (secret_text c.args.request.now) = search rules in
    c.truncate.ensures.items ∙ cut_off c.args.node c.args.request.now c.args.out.now.items whole c.saturating_sub-length.result c.in_ok-put_request.ensures count
