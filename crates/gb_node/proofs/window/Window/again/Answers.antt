use Rattle.gb_node.proofs.FrameLemmas.{again_some, again_none}
use Rattle.gb_node.proofs.window.Window.again.Goals as goal

pub returns-in-Some : goal.returns-in-Some
returns-in-Some c =
    let told = rw c.in-Some.is at c.again.ensures in
    rw (← c.self.view_is, c.as_slice.ensures.value) (again_some c.self.inside.version c.self.inside.sender.window c.args.number c.in-Some.found c.in-Some.texts.now c.self.invariant c.room.ensures.window told)

pub returns-in-None : goal.returns-in-None
returns-in-None c =
    let told = rw c.in-None.is at c.again.ensures in
    rw (← c.self.view_is) (again_none c.self.inside.version c.self.inside.sender.window c.args.number told)
