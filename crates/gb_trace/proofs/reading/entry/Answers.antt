use Rattle.gb_types.specs.Common.{◌≡◌}
use Rattle.gb_types.specs.declared.entry.Entry.{Entry}
use Rattle.gb_types.proofs.SameLemmas.{same_number}
use Rattle.gb_frame.specs.Common.{item_of, entry_of}
use Rattle.gb_trace.proofs.reading.entry.Goals as goal

pub returns : goal.returns
returns c =
    let e : Entry = entry_of (item_of c.args.item) in
    let o : c.new.result ≡ e.origin = same_number c.new.result e.origin c.new.ensures in
    λ i. record { origin = o i; seq = c.args.item.seq; payload = c.in_ok-payload.ensures.ok i }
