use Rattle.service_tests.proofs.sessions.an_audit_misses_a_pass.Given as goal

-- the slots and the table that were just made
abbrev pub ghosts-missing-J-TableName : goal.ghosts-missing-J-TableName
ghosts-missing-J-TableName g a = record { table = a.table.now }

abbrev pub ghosts-missing-J-SlotNames : goal.ghosts-missing-J-SlotNames
ghosts-missing-J-SlotNames g a = record { slots = a.slots.now }
