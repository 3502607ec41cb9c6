use Rattle.gb_node.proofs.AckLemmas.{window_frame}
use Rattle.gb_node.proofs.window.Window.room.Goals as goal

pub returns-clause-window : goal.returns-clause-window
returns-clause-window c = rw (← c.self.view_is) (window_frame c.self.inside.version c.self.inside.sender.window c.room.ensures.window)
