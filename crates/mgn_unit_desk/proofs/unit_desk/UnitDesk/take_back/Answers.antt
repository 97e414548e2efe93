use Rattle.std.proofs.Common.{◌≡◌, ◌∙◌, Some, refl, sym, ap, subst}
use Rattle.mgn_params.specs.Tables.{Tables}
use Rattle.mgn_desk.specs.declared.moves.Moves.{Moves}
use Rattle.mgn_desk.specs.Desks.{CanMoveMarked, IsMarkedBy, Shown, moved_desk, shown}
use Rattle.mgn_desk.specs.Portfolios.{opposite}
use Rattle.mgn_pricing.proofs.Moved.{can_move_back}
use Rattle.mgn_pricing.specs.Desks.{CanGain}
use Rattle.mgn_day.specs.Days.{nets_of, set_of, version_of}
use Rattle.mgn_unit_desk.specs.UnitDesks.{IsInStep, IsMoved, IsSetAt}
use Rattle.mgn_unit_desk.proofs.Steps.{back-ready, of_day}
use Rattle.mgn_unit_desk.proofs.unit_desk.UnitDesk.take_back.Goals as goal

pub take_back-requires-clause-nets : goal.take_back-requires-clause-nets
take_back-requires-clause-nets g c =
    let s = c.sight.inside in
    let is = c.sight.invariant in
    let d = c.self.inside.desk in
    let day = g.T.Shows.shown s.stamp.1 in
    let moved : IsMoved g.T.Shows.shown s.change s.stamp.1 d = subst (λ x. IsMoved g.T.Shows.shown s.change s.stamp.1 x.0) (sym c.self.view_is) (subst (λ p. IsMoved g.T.Shows.shown p.0 p.1.0.1 c.args.self.now.0) (sym c.sight.view_is) c.requires.moved) in
    let can = subst (λ (t : Tables). CanGain t (nets_of day s.change.unit) s.change.change) is.set_is is.can in
    subst (λ (m : Moves). CanMoveMarked (opposite m) d.marked) (sym c.moves_of.ensures)
    (can_move_back (set_of day) (version_of day) (nets_of day s.change.unit) s.change.change d.marked can.contract can.before moved)

pub invariant_of-self : goal.invariant_of-self
invariant_of-self g c =
    let s = c.sight.inside in
    let is = c.sight.invariant in
    let d = c.self.inside.desk in
    let new = c.take_back.new.self in
    let day = g.T.Shows.shown s.stamp.1 in
    let moved : IsMoved g.T.Shows.shown s.change s.stamp.1 d = subst (λ x. IsMoved g.T.Shows.shown s.change s.stamp.1 x.0) (sym c.self.view_is) (subst (λ p. IsMoved g.T.Shows.shown p.0 p.1.0.1 c.args.self.now.0) (sym c.sight.view_is) c.requires.moved) in
    let unit : new.unit ≡ s.change.unit = ap (λ (x : Shown). x.unit) c.take_back.ensures.moved ∙ ap (λ p. p.0.unit) c.self.view_is ∙ c.requires.unit ∙ ap (λ p. p.0.unit) (sym c.sight.view_is) in
    let before : (b : Shown) → shown d ≡ moved_desk _ b → shown new ≡ b = rw c.moves_of.ensures at c.take_back.ensures.before in (
      subst (λ st. IsInStep g.T.Shows.shown new (Some st)) (sym c.again.ensures)
          (of_day day (set_of day) (version_of day) s.change new refl refl unit
          (back-ready (set_of day) (version_of day) (nets_of day s.change.unit) s.change.change d new moved (subst (λ (t : Tables). IsMarkedBy t new.marked) is.set_is c.take_back.ensures.of_set) before)),
      subst (λ st. IsSetAt g.T.Shows.shown (Some st) (Some s.set)) (sym c.again.ensures) is.set_is,
    )
