use Rattle.server_tests.proofs.book.staged.Given as goal

-- the slots and the table that were just made
abbrev pub ghosts-play-J-TableName : goal.ghosts-play-J-TableName
ghosts-play-J-TableName g a = record { table = a.table.now }

abbrev pub ghosts-play-J-SlotNames : goal.ghosts-play-J-SlotNames
ghosts-play-J-SlotNames g a = record { slots = a.slots.now }
