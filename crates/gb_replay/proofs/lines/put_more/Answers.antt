use Rattle.gb_types.specs.Common.{refl}
use Rattle.gb_replay.proofs.LineLemmas.{versions_more}
use Rattle.gb_replay.proofs.lines.put_more.Goals as goal

pub loop-version-preserved : goal.loop-version-preserved
loop-version-preserved c =
    versions_more c.args.out.now.items c.loop-version.out.items c.put_comma.new.out.items c.args.versions.now c.loop-version.version-index _ _ c.loop-version-test.true refl c.loop-version.invariant c.in_ok-put_comma.ensures
