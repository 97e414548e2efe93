use Rattle.service_tests.proofs.sessions.sets_come_into_force.Given as goal

-- the slots and the table that were just made
abbrev pub ghosts-two_sets-J-TableName : goal.ghosts-two_sets-J-TableName
ghosts-two_sets-J-TableName g a = record { table = a.table.now }

abbrev pub ghosts-two_sets-J-SlotNames : goal.ghosts-two_sets-J-SlotNames
ghosts-two_sets-J-SlotNames g a = record { slots = a.slots.now }
