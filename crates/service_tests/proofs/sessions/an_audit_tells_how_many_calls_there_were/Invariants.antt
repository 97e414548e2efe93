use Rattle.service_tests.proofs.sessions.an_audit_tells_how_many_calls_there_were.Given as goal

-- the slots and the table that were just made
abbrev pub ghosts-keeps_desks-J-TableName : goal.ghosts-keeps_desks-J-TableName
ghosts-keeps_desks-J-TableName g a = record { table = a.table.now }

abbrev pub ghosts-keeps_desks-J-SlotNames : goal.ghosts-keeps_desks-J-SlotNames
ghosts-keeps_desks-J-SlotNames g a = record { slots = a.slots.now }
