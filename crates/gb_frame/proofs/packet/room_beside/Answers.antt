use Rattle.gb_types.specs.Common.{◌≡◌, ◌+◌, ◌≤◌, length, arith, sym, ap, All-more, limits_of}
use Rattle.gb_types.specs.declared.version.VersionLimits.{VersionLimits}
use Rattle.gb_frame.specs.Room.{room_of}
use Rattle.gb_frame.proofs.RoomLemmas.{too_long, no_room, room_more}
use Rattle.gb_frame.proofs.packet.room_beside.Goals as goal

pub returns-then-payload-limits-clause-fits : goal.returns-then-payload-limits-clause-fits
returns-then-payload-limits-clause-fits c =
    let limit : c.limits-limits.result.payload ≡ (limits_of c.args.version).payload = ap (λ (l : VersionLimits). l.payload) c.limits-limits.ensures.value in
    (λ h. absurd cc, λ fits. absurd (too_long _ c.args.items.now c.loop-item.item-index c.item-item.result c.loop-item-test.true c.item-item.is (omega arith) fits.0))

pub returns-then-len-left-clause-fits : goal.returns-then-len-left-clause-fits
returns-then-len-left-clause-fits c =
    let header : c.limits-limits.result.item_header ≡ (limits_of c.args.version).item_header = ap (λ (l : VersionLimits). l.item_header) c.limits-limits.ensures.value in
    (λ h. absurd cc, λ fits. absurd (no_room c.args.version (room_of c.args.version) c.args.items.now c.loop-item.item-index c.item-item.result c.loop-item.left c.loop-item-test.true c.item-item.is (omega arith) c.loop-item.invariant.room fits.1))

pub loop-item-preserved : goal.loop-item-preserved
loop-item-preserved c =
    let len : length c.item-item.result.payload ≡ c.len-payload.result = sym c.len-payload.ensures in
    let header : c.limits-limits.result.item_header ≡ (limits_of c.args.version).item_header = ap (λ (l : VersionLimits). l.item_header) c.limits-limits.ensures.value in
    let fits : (limits_of c.args.version).item_header + length c.item-item.result.payload ≤ c.loop-item.left = omega arith in
    let limit : c.limits-limits.result.payload ≡ (limits_of c.args.version).payload = ap (λ (l : VersionLimits). l.payload) c.limits-limits.ensures.value in
    let short : length c.item-item.result.payload ≤ (limits_of c.args.version).payload = omega arith in
    record {
      room = rw (header, ← len) (room_more c.args.version (room_of c.args.version) c.args.items.now c.loop-item.item-index c.item-item.result c.loop-item.left c.loop-item-test.true c.item-item.is fits c.loop-item.invariant.room);
      payloads = All-more (λ i. length i.payload ≤ (limits_of c.args.version).payload) c.args.items.now c.loop-item.item-index c.item-item.result c.loop-item-test.true c.loop-item.invariant.payloads (rw (← c.item-item.is) short);
    }
