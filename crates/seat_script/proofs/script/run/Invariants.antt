use Rattle.seat_script.proofs.script.run.Given as goal

-- the slots and the table that were just made
abbrev pub ghosts-answer-J-TableName : goal.ghosts-answer-J-TableName
ghosts-answer-J-TableName g a = record { table = a.table.now }

abbrev pub ghosts-answer-J-SlotNames : goal.ghosts-answer-J-SlotNames
ghosts-answer-J-SlotNames g a = record { slots = a.slots.now }
