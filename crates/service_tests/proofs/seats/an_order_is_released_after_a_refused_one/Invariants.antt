use Rattle.service_tests.proofs.seats.an_order_is_released_after_a_refused_one.Given as goal

-- the slots and the table that were just made
abbrev pub ghosts-seated-J-TableName : goal.ghosts-seated-J-TableName
ghosts-seated-J-TableName g a = record { table = a.table.now }

abbrev pub ghosts-seated-J-SlotNames : goal.ghosts-seated-J-SlotNames
ghosts-seated-J-SlotNames g a = record { slots = a.slots.now }
