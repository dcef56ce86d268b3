use Rattle.xf_cli_commands.proofs.finish.finish_answers.Goals as goal

pub returns-in-ReadFault-clause-says : goal.returns-in-ReadFault-clause-says
returns-in-ReadFault-clause-says g c = rw c.in-ReadFault.is c.say-in-ReadFault.ensures.says

pub returns-in-TooMuch-clause-says : goal.returns-in-TooMuch-clause-says
returns-in-TooMuch-clause-says g c = rw c.in-TooMuch.is c.say-in-TooMuch.ensures.says

pub returns-in-Memory-clause-says : goal.returns-in-Memory-clause-says
returns-in-Memory-clause-says g c = rw c.in-Memory.is c.say-in-Memory.ensures.says

pub returns-in-DiskFault-clause-says : goal.returns-in-DiskFault-clause-says
returns-in-DiskFault-clause-says g c = rw c.in-DiskFault.is c.say-in-DiskFault.ensures.says
