use Rattle.std.proofs.Common.{◌≡◌, rules, subst, sym}
use Rattle.mgn_params.specs.Shelves.{set_at}
use Rattle.mgn_params.specs.Tables.{Tables}
use Rattle.mgn_unit.specs.Prepared.{AreCurrent}
use Rattle.mgn_book.proofs.Switches.{switched-entered}
use Rattle.mgn_book.proofs.in_force.switch_set.Goals as goal

pub rows_under-requires-clause-current : goal.rows_under-requires-clause-current
rows_under-requires-clause-current g c =
    let old_is : c.set_of-old.result.now ≡ set_at (g.S.Shelf.sets c.args.shelf.now) c.args.register.now.state.version = search rules in
    let prepared = c.args.prepared.now in
    subst (λ (t : Tables). AreCurrent t c.args.set c.args.register.now.rows prepared.units.items prepared.current.items) (sym old_is) c.requires.current

pub returns-in-Ok-clause-switched : goal.returns-in-Ok-clause-switched
returns-in-Ok-clause-switched g c =
    switched-entered (g.S.Shelf.sets c.args.shelf.now) (g.S.Shelf.sets c.enter_set.new.shelf) c.args.set c.args.register.now c.enter_set.new.register c.in-Ok.rows c.enter_set.result
    c.requires.shown c.requires.kept c.in-Ok.ensures.fits c.in-Ok.ensures.covers c.in-Ok.ensures.rows c.enter_set.ensures.rows
    c.enter_set.ensures.sets c.enter_set.ensures.state c.enter_set.ensures.reply
