use Rattle.mgn_params.specs.Shelves.{set_at}
use Rattle.book_tests.proofs.shelved.Shelved.commit.Goals as goal

pub commit_switch-outcome-requires-clause-prepared : goal.commit_switch-outcome-requires-clause-prepared
commit_switch-outcome-requires-clause-prepared c = c.none.ensures.prepared c.in-Switch.set

pub commit_switch-outcome-requires-clause-current : goal.commit_switch-outcome-requires-clause-current
commit_switch-outcome-requires-clause-current c =
    let book = c.self.inside.book.book in
    c.none.ensures.current (set_at c.self.inside.shelf book.state.version) c.in-Switch.set book.rows
