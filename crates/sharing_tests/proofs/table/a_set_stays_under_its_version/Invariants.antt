use Rattle.sharing_tests.proofs.table.a_set_stays_under_its_version.Given as goal

-- the table that was just made
abbrev pub ghosts-look_up_all : goal.ghosts-look_up_all
ghosts-look_up_all g a = record { table = a.table.now }
