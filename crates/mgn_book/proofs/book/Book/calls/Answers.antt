use Rattle.std.proofs.Common.{arith, slice_index_or, ◌≡◌, ◌+◌}
use Rattle.mgn_machine.specs.History.{calls}
use Rattle.mgn_machine.proofs.Histories.{calls-few}
use Rattle.mgn_book.proofs.book.Book.calls.Goals as goal

pub returns-clause-few : goal.returns-clause-few
returns-clause-few c =
    let b = c.self.inside in
    let place = c.count_place-place.result in
    let count : slice_index_or b.counts place 0 ≡ calls (place + 1) b.history.entries = c.self.invariant.counts_are place c.count_place-place.ensures.within in
    omega (arith, count, c.self.invariant.stands.few, calls-few (place + 1) b.history.entries)
