use Rattle.gb_types.specs.Common.{◌≡◌, ◌∙◌, refl, arith, rules}
use Rattle.gb_cluster_file.proofs.place.port_of.Goals as goal

pub overflow_cast-result : goal.overflow_cast-result
overflow_cast-result c = let spelt = (c.in-Some.ensures c.in-Some.port).0 refl in omega (arith, spelt)

pub returns-in-Some-clause-some : goal.returns-in-Some-clause-some
returns-in-Some-clause-some c =
    let spelt = (c.in-Some.ensures c.in-Some.port).0 refl in
    let same : c.args.text.now ≡ c.as_bytes.result.now = search rules in
    record {
      spelled = same ∙ spelt.1;
      least = omega (arith, c.if-port-gt0.true);
      most = spelt.0;
    }
