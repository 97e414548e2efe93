use Rattle.std.proofs.Common.{◌≡◌, ◌∙◌, Some, sym, ap, subst}
use Rattle.mgn_desk.specs.declared.moves.Moves.{Moves}
use Rattle.mgn_desk.specs.Desks.{CanMoveMarked}
use Rattle.mgn_pricing.proofs.Moved.{can_move}
use Rattle.mgn_day.specs.Days.{nets_of}
use Rattle.mgn_unit_desk.specs.UnitDesks.{IsInStep}
use Rattle.mgn_unit_desk.proofs.Steps.{ready_of}
use Rattle.mgn_unit_desk.proofs.unit_desk.UnitDesk.apply.Goals as goal

pub apply-requires-clause-nets : goal.apply-requires-clause-nets
apply-requires-clause-nets g c =
    let s = c.sight.inside in
    let is = c.sight.invariant in
    let d = c.self.inside.desk in
    let day = g.T.Shows.shown s.stamp.1 in
    let has : c.self.inside.at ≡ Some s.stamp = ap (λ p. p.1) c.self.view_is ∙ c.requires.has ∙ ap (λ p. Some p.1.0) (sym c.sight.view_is) in
    let unit : d.unit ≡ s.change.unit = ap (λ p. p.0.unit) c.self.view_is ∙ c.requires.unit ∙ ap (λ p. p.0.unit) (sym c.sight.view_is) in
    let of = subst (λ o. IsInStep g.T.Shows.shown d o) has c.self.invariant.0 in
    subst (λ (m : Moves). CanMoveMarked m d.marked) (sym c.moves_of.ensures)
    (can_move s.set.now s.version (nets_of day s.change.unit) s.change.change d.marked is.can (ready_of day s.set.now s.version s.change d is.set_is is.version_is unit of))
