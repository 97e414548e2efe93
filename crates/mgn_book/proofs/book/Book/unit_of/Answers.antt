use Rattle.std.proofs.Common.{ℕ, ◌<◌, length, subst}
use Rattle.std.specs.Prelude.{IfSome}
use Rattle.mgn_params.specs.Shelves.{set_at}
use Rattle.mgn_book.specs.BookViews.{BookView}
use Rattle.mgn_book.proofs.book.Book.unit_of.Goals as goal

pub returns-clause-within : goal.returns-clause-within
returns-clause-within c =
    let book = c.self.inside.register in
    subst (λ (d : BookView). IfSome c.unit_of.result (λ (u : ℕ). u < length d.book.rows)) c.self.view_is
    (c.unit_of.ensures.within (set_at c.self.invariant.sets book.state.version) c.self.invariant.stands.kept)
