use Rattle.service_tests.proofs.broken.another_pass_breaks_a_service.Given as goal

-- the slots and the table that were just made
abbrev pub ghosts-asked_by_another-J-TableName : goal.ghosts-asked_by_another-J-TableName
ghosts-asked_by_another-J-TableName g a = record { table = a.table.now }

abbrev pub ghosts-asked_by_another-J-SlotNames : goal.ghosts-asked_by_another-J-SlotNames
ghosts-asked_by_another-J-SlotNames g a = record { slots = a.slots.now }
