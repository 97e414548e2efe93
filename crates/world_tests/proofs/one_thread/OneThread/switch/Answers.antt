use Rattle.mgn_params.specs.Shelves.{set_at}
use Rattle.world_tests.proofs.one_thread.OneThread.switch.Goals as goal

pub commit_switch-requires-clause-prepared : goal.commit_switch-requires-clause-prepared
commit_switch-requires-clause-prepared c = c.none.ensures.prepared c.args.set

pub commit_switch-requires-clause-current : goal.commit_switch-requires-clause-current
commit_switch-requires-clause-current c =
    let book = c.self.inside.book.book in
    c.none.ensures.current (set_at c.self.inside.shelf book.state.version) c.args.set book.rows
