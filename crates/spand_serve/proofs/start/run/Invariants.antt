use Rattle.spand_serve.proofs.start.run.Given as goal

-- the slots and the table that were just made
abbrev pub ghosts-over-J-TableName : goal.ghosts-over-J-TableName
ghosts-over-J-TableName g a = record { table = a.table.now }

abbrev pub ghosts-over-J-SlotNames : goal.ghosts-over-J-SlotNames
ghosts-over-J-SlotNames g a = record { slots = a.slots.now }
