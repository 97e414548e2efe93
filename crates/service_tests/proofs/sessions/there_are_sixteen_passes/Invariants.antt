use Rattle.service_tests.proofs.sessions.there_are_sixteen_passes.Given as goal

-- the slots and the table that were just made
abbrev pub ghosts-sixteen-J-TableName : goal.ghosts-sixteen-J-TableName
ghosts-sixteen-J-TableName g a = record { table = a.table.now }

abbrev pub ghosts-sixteen-J-SlotNames : goal.ghosts-sixteen-J-SlotNames
ghosts-sixteen-J-SlotNames g a = record { slots = a.slots.now }
