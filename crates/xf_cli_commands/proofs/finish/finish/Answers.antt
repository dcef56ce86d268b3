use Rattle.xf_cli_commands.proofs.finish.finish.Goals as goal

pub returns-in-Usage-clause-finishes : goal.returns-in-Usage-clause-finishes
returns-in-Usage-clause-finishes g c = rw c.in-Usage.is (c.say.ensures.number, c.say.ensures.says)

pub returns-in-Unread-clause-finishes : goal.returns-in-Unread-clause-finishes
returns-in-Unread-clause-finishes g c = rw c.in-Unread.is (c.say-in-Unread.ensures.number, c.say-in-Unread.ensures.says)

pub returns-in-NoRoom-clause-finishes : goal.returns-in-NoRoom-clause-finishes
returns-in-NoRoom-clause-finishes g c = rw c.in-NoRoom.is (c.say-in-NoRoom.ensures.number, c.say-in-NoRoom.ensures.says)

pub returns-in-DiskFailed-clause-finishes : goal.returns-in-DiskFailed-clause-finishes
returns-in-DiskFailed-clause-finishes g c = rw c.in-DiskFailed.is (c.say-in-DiskFailed.ensures.number, c.say-in-DiskFailed.ensures.says)
