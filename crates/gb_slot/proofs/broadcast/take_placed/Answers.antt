use Rattle.gb_types.specs.Common.{rules, ◌≡◌, ◌++◌, map, length, vec_capacity}
use Rattle.gb_layer.specs.Common.{messages, told, message_at}
use Rattle.gb_slot.specs.Outgoing.{are_below}
use Rattle.gb_slot.specs.Outward.{OutwardState, outward_log_name, outward_outgoing_name, outward_log, outward_outgoing, outward_log_capacity, outward_outgoing_capacity, outward_inside}
use Rattle.gb_slot.proofs.broadcast.take_placed.Goals as goal

pub returns-clause-log : goal.returns-clause-log
returns-clause-log g c =
    let ms = c.args.index.now.list.items in
    let log = c.args.log.now in
    let outgoing = c.args.outgoing.now in
    let given = g.L.Layer.gives (g.L.Layer.meaning ms c.args.layer.now) (told ms c.args.call) in
    let s : OutwardState = record { log_name = _; log = log.items; log_capacity = vec_capacity log; outgoing_name = _; outgoing = map (message_at ms) outgoing.items; outgoing_capacity = vec_capacity outgoing; inside = are_below (length ms) outgoing.items } in
    let here : c.take.new.out.log.now.items ≡ log.items ++ messages given.ups = outward_log s _ given c.take.ensures.out in
    let name = outward_log_name s _ given c.take.ensures.out in
    search (rules, name, here)

pub returns-clause-outgoing : goal.returns-clause-outgoing
returns-clause-outgoing g c =
    let ms = c.args.index.now.list.items in
    let log = c.args.log.now in
    let outgoing = c.args.outgoing.now in
    let given = g.L.Layer.gives (g.L.Layer.meaning ms c.args.layer.now) (told ms c.args.call) in
    let s : OutwardState = record { log_name = _; log = log.items; log_capacity = vec_capacity log; outgoing_name = _; outgoing = map (message_at ms) outgoing.items; outgoing_capacity = vec_capacity outgoing; inside = are_below (length ms) outgoing.items } in
    let here : map (message_at ms) c.take.new.out.outgoing.now.items ≡ map (message_at ms) outgoing.items ++ given.sends = outward_outgoing s _ given c.take.ensures.out in
    let name = outward_outgoing_name s _ given c.take.ensures.out in
    search (rules, name, here)

pub returns-clause-places : goal.returns-clause-places
returns-clause-places g c =
    let ms = c.args.index.now.list.items in
    let log = c.args.log.now in
    let outgoing = c.args.outgoing.now in
    let given = g.L.Layer.gives (g.L.Layer.meaning ms c.args.layer.now) (told ms c.args.call) in
    let s : OutwardState = record { log_name = _; log = log.items; log_capacity = vec_capacity log; outgoing_name = _; outgoing = map (message_at ms) outgoing.items; outgoing_capacity = vec_capacity outgoing; inside = are_below (length ms) outgoing.items } in
    let here : are_below (length ms) c.take.new.out.outgoing.now.items ≡ are_below (length ms) outgoing.items = outward_inside s _ given c.take.ensures.out in
    let name = outward_outgoing_name s _ given c.take.ensures.out in
    search (rules, name, here)

pub returns-clause-log_memory : goal.returns-clause-log_memory
returns-clause-log_memory g c =
    let ms = c.args.index.now.list.items in
    let log = c.args.log.now in
    let outgoing = c.args.outgoing.now in
    let given = g.L.Layer.gives (g.L.Layer.meaning ms c.args.layer.now) (told ms c.args.call) in
    let s : OutwardState = record { log_name = _; log = log.items; log_capacity = vec_capacity log; outgoing_name = _; outgoing = map (message_at ms) outgoing.items; outgoing_capacity = vec_capacity outgoing; inside = are_below (length ms) outgoing.items } in
    let here : vec_capacity c.take.new.out.log.now ≡ vec_capacity log = outward_log_capacity s _ given c.take.ensures.out in
    let name = outward_log_name s _ given c.take.ensures.out in
    search (rules, name, here)

pub returns-clause-outgoing_memory : goal.returns-clause-outgoing_memory
returns-clause-outgoing_memory g c =
    let ms = c.args.index.now.list.items in
    let log = c.args.log.now in
    let outgoing = c.args.outgoing.now in
    let given = g.L.Layer.gives (g.L.Layer.meaning ms c.args.layer.now) (told ms c.args.call) in
    let s : OutwardState = record { log_name = _; log = log.items; log_capacity = vec_capacity log; outgoing_name = _; outgoing = map (message_at ms) outgoing.items; outgoing_capacity = vec_capacity outgoing; inside = are_below (length ms) outgoing.items } in
    let here : vec_capacity c.take.new.out.outgoing.now ≡ vec_capacity outgoing = outward_outgoing_capacity s _ given c.take.ensures.out in
    let name = outward_outgoing_name s _ given c.take.ensures.out in
    search (rules, name, here)
