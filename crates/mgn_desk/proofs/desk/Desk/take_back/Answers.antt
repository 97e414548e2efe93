use Rattle.std.proofs.Common.{◌∙◌, ap}
use Rattle.mgn_desk.specs.Desks.{moved_desk}
use Rattle.mgn_desk.specs.Moved.{counted}
use Rattle.mgn_desk.specs.Portfolios.{opposite}
use Rattle.mgn_desk.proofs.MovedLemmas.{arrays_of_opposite, desk_back, stays_back}
use Rattle.mgn_desk.proofs.desk.Desk.take_back.Goals as goal

pub returns-clause-before : goal.returns-clause-before
returns-clause-before c =
    λ before was.
    let moved = rw c.opposite.ensures at c.apply.ensures.moved in
    moved ∙ ap (moved_desk (opposite c.args.moves.now)) was ∙ desk_back c.args.moves.now before

pub returns-clause-counted : goal.returns-clause-counted
returns-clause-counted c =
    let read = rw c.opposite.ensures at c.apply.ensures.counted in
    read ∙ ap (counted c.args.work.now) (arrays_of_opposite c.args.moves.now)

pub returns-clause-together : goal.returns-clause-together
returns-clause-together c =
    stays_back c.args.moves.now c.args.self.now.marked c.apply.new.self.marked (rw c.opposite.ensures at c.apply.ensures.together)
