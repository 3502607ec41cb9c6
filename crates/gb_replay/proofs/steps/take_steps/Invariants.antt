use Rattle.gb_types.specs.Common.{◌≡◌, length, take}
use Rattle.gb_replay.proofs.ReplayLemmas.{IsAt}
use Rattle.gb_replay.proofs.steps.take_steps.Given as goal

abbrev pub invariant-loop-event : goal.invariant-loop-event
invariant-loop-event l =
    IsAt l.fn.cluster.plan (take l.event-index l.events) l.cluster l.text.schedule.items l.text.answers.items × (length l.cluster.nodes ≡ length l.fn.cluster.nodes)
