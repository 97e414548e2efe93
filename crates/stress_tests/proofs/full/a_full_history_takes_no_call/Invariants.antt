use Rattle.stress_tests.proofs.full.a_full_history_takes_no_call.Given as goal

-- the slots and the table that were just made
abbrev pub ghosts-full-J-TableName : goal.ghosts-full-J-TableName
ghosts-full-J-TableName g a = record { table = a.table.now }

abbrev pub ghosts-full-J-SlotNames : goal.ghosts-full-J-SlotNames
ghosts-full-J-SlotNames g a = record { slots = a.slots.now }
