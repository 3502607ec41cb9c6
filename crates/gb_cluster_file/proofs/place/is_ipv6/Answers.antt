use Rattle.gb_types.specs.Common.{◌≡◌, subst, rules}
use Rattle.gb_cluster_file.specs.Places.{IsIpv6}
use Rattle.gb_cluster_file.proofs.place.is_ipv6.Goals as goal

pub returns-in-Err-clause-no : goal.returns-in-Err-clause-no
returns-in-Err-clause-no c = λ _ is.
    let same : c.args.text.now ≡ c.as_bytes.result.now = search rules in
    let there = subst IsIpv6 same is in
    c.in-Err.ensures there.0 there.1
