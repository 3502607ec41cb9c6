use Rattle.gb_client.proofs.need.need_of.Goals as goal

pub returns-in-Group : goal.returns-in-Group
returns-in-Group c = rw c.in-Group.is c.command_need.ensures
