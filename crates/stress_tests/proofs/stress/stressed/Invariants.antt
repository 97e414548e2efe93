use Rattle.stress_tests.proofs.stress.stressed.Given as goal

-- the slots and the table that were just made
abbrev pub ghosts-stress-J-TableName : goal.ghosts-stress-J-TableName
ghosts-stress-J-TableName g a = record { table = a.table.now }

abbrev pub ghosts-stress-J-SlotNames : goal.ghosts-stress-J-SlotNames
ghosts-stress-J-SlotNames g a = record { slots = a.slots.now }
