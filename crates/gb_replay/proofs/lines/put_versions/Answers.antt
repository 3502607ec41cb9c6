use Rattle.gb_replay.proofs.LineLemmas.{versions_both}
use Rattle.gb_replay.proofs.lines.put_versions.Goals as goal

pub returns-in_ok-put_version-in-Some : goal.returns-in_ok-put_version-in-Some
returns-in_ok-put_version-in-Some c =
    versions_both c.put_more.result c.args.out.now.items c.put_version.new.out.items c.put_more.new.out.items c.args.versions.now c.in-Some.first.now c.in-Some.more.now c.in-Some.ensures.cases.0
    c.in_ok-put_version-in-Some.ensures c.put_more.ensures
