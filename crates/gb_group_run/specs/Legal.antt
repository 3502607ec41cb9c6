-- What the slots check of a step is so in each legal list of steps.
use Rattle.std.specs.Prelude.{◌+◌, ◌≤◌, ◌<◌, List, ◌∷◌, ◌++◌, length}
use Rattle.gb_types.specs.declared.{address.Addr.Addr, node.NodeId.NodeId, plan.Bounds.Bounds}
use Rattle.gb_alone.specs.Common.{Group, alone, IsLegal}
use Rattle.gb_alone.specs.declared.{event.GroupEvent.GroupEvent, event.GroupStep.GroupStep, event.GroupEvent.TheVariants.Took, event.GroupEvent.TheVariants.Came, event.GroupEvent.TheVariants.Done as Acknowledged}

-- as `HasItems`, in the words of the group alone: the items that a step carries wait, and those that come or are acknowledged were carried
abbrev pub HasItemsAlone : NodeId → GroupEvent → Group → Type 0
HasItemsAlone me (Took b count) group = (group me.number).taken b.number + count ≤ length ((group me.number).put b.number)
HasItemsAlone me (Came from place) group = (0 < place) × (place ≤ (group from.number).taken me.number)
HasItemsAlone me (Acknowledged b place count) group = (0 < place) × (place + count ≤ (group me.number).taken b.number + 1)
HasItemsAlone me event group = Unit {0}

-- each step of a legal list of steps has its items
abbrev pub LegalStepsHaveItems : Type 0
LegalStepsHaveItems = (bounds : Bounds) (addr : Addr) (earlier later : List GroupStep) (step : GroupStep) → IsLegal bounds addr (earlier ++ step ∷ later) → HasItemsAlone step.node step.event (alone bounds addr earlier)
