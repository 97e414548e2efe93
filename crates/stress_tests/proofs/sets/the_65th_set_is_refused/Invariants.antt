use Rattle.stress_tests.proofs.sets.the_65th_set_is_refused.Given as goal

-- the slots and the table that were just made
abbrev pub ghosts-fill-J-TableName : goal.ghosts-fill-J-TableName
ghosts-fill-J-TableName g a = record { table = a.table.now }

abbrev pub ghosts-fill-J-SlotNames : goal.ghosts-fill-J-SlotNames
ghosts-fill-J-SlotNames g a = record { slots = a.slots.now }
