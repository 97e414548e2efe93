use Rattle.std.proofs.Common.{sym, subst}
use Rattle.mgn_pricing.proofs.Moved.{is_marked}
use Rattle.mgn_day.specs.Days.{nets_of, set_of, version_of}
use Rattle.mgn_unit_desk.specs.UnitDesks.{IsMoved}
use Rattle.mgn_unit_desk.proofs.Steps.{priced-by}
use Rattle.mgn_unit_desk.proofs.unit_desk.UnitDesk.priced.Goals as goal

pub requirements-requires : goal.requirements-requires
requirements-requires g c =
    let day = g.T.Shows.shown c.args.sight.now.1.0.1 in
    let moved : IsMoved g.T.Shows.shown c.args.sight.now.0 c.args.sight.now.1.0.1 c.self.inside.desk = subst (λ x. IsMoved g.T.Shows.shown c.args.sight.now.0 c.args.sight.now.1.0.1 x.0) (sym c.self.view_is) c.requires.moved in
    (set_of day, is_marked (set_of day) (version_of day) _ c.self.inside.desk.marked moved)

pub returns : goal.returns
returns g c =
    let day = g.T.Shows.shown c.args.sight.now.1.0.1 in
    let u = c.args.sight.now.0 in
    let moved : IsMoved g.T.Shows.shown u c.args.sight.now.1.0.1 c.self.inside.desk = subst (λ x. IsMoved g.T.Shows.shown c.args.sight.now.0 c.args.sight.now.1.0.1 x.0) (sym c.self.view_is) c.requires.moved in
    priced-by (set_of day) (version_of day) c.args.row.now (nets_of day u.unit) u.change c.args.now.now.change c.self.inside.desk.marked _ moved c.requires.same c.requires.row
    (c.requirements.ensures.requirements (set_of day) (is_marked (set_of day) (version_of day) _ c.self.inside.desk.marked moved)) c.requirements.ensures.small
