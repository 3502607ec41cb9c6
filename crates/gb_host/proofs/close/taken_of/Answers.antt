use Rattle.gb_types.specs.Common.{rules, ◌≡◌, subst}
use Rattle.gb_types.proofs.SameLemmas.{same_number}
use Rattle.gb_types.specs.declared.node.NodeId.{NodeId}
use Rattle.gb_host.specs.Replay.{IsReplay}
use Rattle.gb_host.proofs.close.taken_of.Goals as goal

pub returns : goal.returns
returns g c =
    let hosted = c.into_inner-hosted.result in
    let number : hosted.me.number ≡ c.args.me.number = search rules in
    subst (λ (b : NodeId). IsReplay g.L.Tapes.plan b c.into_parts.result.0 c.into_parts.result.1) (same_number hosted.me c.args.me number) c.into_parts.ensures.replay
