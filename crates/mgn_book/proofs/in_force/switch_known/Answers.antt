use Rattle.std.proofs.Common.{◌≡◌, rules, subst, sym}
use Rattle.mgn_params.specs.Shelves.{set_at}
use Rattle.mgn_params.specs.Tables.{Tables}
use Rattle.mgn_unit.specs.Amounts.{KeepsPlaces}
use Rattle.mgn_unit.specs.declared.amounts.NewRows.TheVariants.{Kept}
use Rattle.mgn_book.proofs.Switches.{switched-entered}
use Rattle.mgn_book.proofs.in_force.switch_known.Goals as goal

pub amounts_under-requires-clause-keeps : goal.amounts_under-requires-clause-keeps
amounts_under-requires-clause-keeps g c =
    let old_is : c.set_of-old.result.now ≡ set_at (g.S.Shelf.sets c.args.shelf.now) c.args.register.now.state.version = search rules in
    subst (λ (t : Tables). KeepsPlaces t c.args.set) (sym old_is) c.requires.keeps

pub returns-in-Ok-clause-switched : goal.returns-in-Ok-clause-switched
returns-in-Ok-clause-switched g c =
    switched-entered (g.S.Shelf.sets c.args.shelf.now) (g.S.Shelf.sets c.enter_set.new.shelf) c.args.set c.args.register.now c.enter_set.new.register (Kept c.in-Ok.amounts) c.enter_set.result
    c.requires.shown c.requires.kept c.in-Ok.ensures.fits c.in-Ok.ensures.covers c.in-Ok.ensures.rows c.enter_set.ensures.rows
    c.enter_set.ensures.sets c.enter_set.ensures.state c.enter_set.ensures.reply
