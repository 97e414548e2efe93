use Rattle.thread_tests.proofs.sessions.staged.Given as goal

-- the slots and the table that were just made
abbrev pub ghosts-stage-J-TableName : goal.ghosts-stage-J-TableName
ghosts-stage-J-TableName g a = record { table = a.table.now }

abbrev pub ghosts-stage-J-SlotNames : goal.ghosts-stage-J-SlotNames
ghosts-stage-J-SlotNames g a = record { slots = a.slots.now }
