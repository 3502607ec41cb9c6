use Rattle.gb_types.specs.Common.{◌≡◌, take}
use Rattle.gb_trace.specs.Kept.{AreRows}
use Rattle.gb_trace.specs.Refused.{is_refused_for}
use Rattle.gb_trace.specs.Trace.{run_of}
use Rattle.gb_trace.proofs.refused.refused_for.Given as goal

abbrev pub invariant-loop-i : goal.invariant-loop-i
invariant-loop-i l =
    (l.lacked ≡ is_refused_for l.addr (run_of (take l.i l.events) (take l.i l.answers) l.trace.packets.items))
    × AreRows l.addr.tenant (run_of (take l.i l.events) (take l.i l.answers) l.trace.packets.items) l.rows
