use Rattle.service_tests.proofs.sessions.an_audit_tells_the_lowest_session_that_it_finds_wrong.Given as goal

-- the slots and the table that were just made
abbrev pub ghosts-two_unmatched-J-TableName : goal.ghosts-two_unmatched-J-TableName
ghosts-two_unmatched-J-TableName g a = record { table = a.table.now }

abbrev pub ghosts-two_unmatched-J-SlotNames : goal.ghosts-two_unmatched-J-SlotNames
ghosts-two_unmatched-J-SlotNames g a = record { slots = a.slots.now }
