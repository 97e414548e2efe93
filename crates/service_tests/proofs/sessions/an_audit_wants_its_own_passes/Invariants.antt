use Rattle.service_tests.proofs.sessions.an_audit_wants_its_own_passes.Given as goal

-- the slots and the table that were just made
abbrev pub ghosts-unmatched-J-TableName : goal.ghosts-unmatched-J-TableName
ghosts-unmatched-J-TableName g a = record { table = a.table.now }

abbrev pub ghosts-unmatched-J-SlotNames : goal.ghosts-unmatched-J-SlotNames
ghosts-unmatched-J-SlotNames g a = record { slots = a.slots.now }
