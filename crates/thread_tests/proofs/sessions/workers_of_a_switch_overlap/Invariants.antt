use Rattle.thread_tests.proofs.sessions.workers_of_a_switch_overlap.Given as goal

-- the slots and the table that were just made
abbrev pub ghosts-switch_by_workers-J-TableName : goal.ghosts-switch_by_workers-J-TableName
ghosts-switch_by_workers-J-TableName g a = record { table = a.table.now }

abbrev pub ghosts-switch_by_workers-J-SlotNames : goal.ghosts-switch_by_workers-J-SlotNames
ghosts-switch_by_workers-J-SlotNames g a = record { slots = a.slots.now }
