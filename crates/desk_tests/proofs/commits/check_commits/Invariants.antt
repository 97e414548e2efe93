use Rattle.mgn_book.specs.BookViews.{Stands}
use Rattle.desk_tests.proofs.commits.check_commits.Given as goal

-- the book stands on the shelf's sets after each line
abbrev pub invariant-loop-expected : goal.invariant-loop-expected
invariant-loop-expected g l = Stands l.shelf l.book
