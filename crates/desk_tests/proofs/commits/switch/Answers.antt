use Rattle.mgn_params.specs.Shelves.{set_at}
use Rattle.desk_tests.proofs.commits.switch.Goals as goal

pub commit_switch-outcome-requires-clause-prepared : goal.commit_switch-outcome-requires-clause-prepared
commit_switch-outcome-requires-clause-prepared g c = c.none-prepared.ensures.prepared c.args.set

pub commit_switch-outcome-requires-clause-current : goal.commit_switch-outcome-requires-clause-current
commit_switch-outcome-requires-clause-current g c =
    c.none-prepared.ensures.current (set_at c.args.shelf.now c.args.book.now.book.state.version) c.args.set c.args.book.now.book.rows
