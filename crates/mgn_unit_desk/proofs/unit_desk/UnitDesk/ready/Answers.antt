use Rattle.std.proofs.Common.{◌≡◌, ◌∙◌, IfSome, sym, subst}
use Rattle.mgn_nets.specs.Portfolios.{AreUnitNets}
use Rattle.mgn_day.specs.Days.{nets_of}
use Rattle.mgn_unit_desk.proofs.unit_desk.UnitDesk.ready.Goals as goal

pub mark-requires : goal.mark-requires
mark-requires g c =
    let s = c.sight.inside in
    let n = c.in-Some.copied in
    let seen : n ≡ nets_of (g.T.Shows.shown s.stamp.1) s.change.unit = subst (λ o. IfSome o (λ x. x ≡ nets_of (g.T.Shows.shown s.stamp.1) s.change.unit)) c.in-Some.is c.sight.invariant.copied in
    subst (AreUnitNets s.set.now) (sym seen ∙ sym c.each_ref-nets.ensures) c.sight.invariant.can.before
