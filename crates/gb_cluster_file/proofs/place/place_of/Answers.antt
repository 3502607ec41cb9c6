use Rattle.gb_types.specs.Common.{Some, None}
use Rattle.gb_cluster_file.proofs.PlaceLemmas.{split_at_colon, no_place, place_parts, whole_place}
use Rattle.gb_cluster_file.proofs.place.place_of.Goals as goal

pub returns-in-None-clause-none : goal.returns-in-None-clause-none
returns-in-None-clause-none c = λ host port place. no_place c.args.text.now host port (split_at_colon c.args.text.now None c.in-None.ensures.cases) place

pub returns-in-None-host_of-clause-none : goal.returns-in-None-host_of-clause-none
returns-in-None-host_of-clause-none c = λ host port place.
    let split = split_at_colon c.args.text.now (Some (c.in-Some.before, c.in-Some.after)) c.in-Some.ensures.cases in
    c.in-None-host_of.ensures.none host (place_parts c.args.text.now c.in-Some.before.now c.in-Some.after.now host port split.0 split.1 place).0

pub returns-in-None-port_of-clause-none : goal.returns-in-None-port_of-clause-none
returns-in-None-port_of-clause-none c = λ host port place.
    let split = split_at_colon c.args.text.now (Some (c.in-Some.before, c.in-Some.after)) c.in-Some.ensures.cases in
    c.in-None-port_of.ensures.none port (place_parts c.args.text.now c.in-Some.before.now c.in-Some.after.now host port split.0 split.1 place).1

pub returns-in-Some-port_of-clause-some : goal.returns-in-Some-port_of-clause-some
returns-in-Some-port_of-clause-some c =
    let split = split_at_colon c.args.text.now (Some (c.in-Some.before, c.in-Some.after)) c.in-Some.ensures.cases in
    whole_place c.args.text.now c.in-Some.before.now c.in-Some.after.now c.in-Some-host_of.host.now c.in-Some-port_of.port split.0 c.in-Some-host_of.ensures.some c.in-Some-port_of.ensures.some
