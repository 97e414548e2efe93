use Rattle.std.proofs.Common.{◌≡◌, ◌∙◌, Some, refl, sym, subst}
use Rattle.mgn_day.specs.Days.{set_of}
use Rattle.mgn_unit_desk.specs.UnitDesks.{IsInStep, IsSetAt}
use Rattle.mgn_unit_desk.proofs.Steps.{foreseen}
use Rattle.mgn_unit_desk.proofs.unit_desk.UnitDesk.foreseen.Goals as goal

pub new-requires : goal.new-requires
new-requires g c =
    let s = c.in-Some-Some-Some in
    let shown = g.T.Shows.shown in
    let d = c.self.inside.desk in
    let of : IsInStep shown d (Some s.stamp) = subst (λ o. IsInStep shown d o) s.is-0 c.self.invariant.0 in
    let set_is : s.set.now ≡ set_of (shown s.stamp.1) = subst (λ o. IsSetAt shown (Some s.stamp) o) s.is-1 (subst (λ o. IsSetAt shown o c.self.inside.set) s.is-0 c.self.invariant.1) in
    let change = c.in_ok-change.change in
    let can = c.if-not-can_follow.ensures refl in
    rw (c.again.ensures, c.unit.ensures) (foreseen shown d change s.version s.set.now s.stamp of set_is (sym c.version.ensures ∙ s.is-2) c.in_ok-change.ensures.contract can)
