use Rattle.std.proofs.Common.{◌≡◌, ◌∙◌, sym, subst, length, rules}
use Rattle.std.specs.Prelude.{IsTrue}
use Rattle.mgn_unit.specs.NewSets.{SetPair, carried}
use Rattle.mgn_unit.proofs.InPlace.{carried-in_place}
use Rattle.mgn_unit.proofs.new_set.Switch.carries.Goals as goal

pub returns : goal.returns
returns c =
    let keeps : IsTrue c.self.inside.keeps_places = search rules in
    let same : carried c.args.self.now.old c.args.self.now.new c.args.row.now ≡ c.args.row.now =
    subst (λ (sets : SetPair). length c.args.row.now ≡ length sets.old.contracts → carried sets.old sets.new c.args.row.now ≡ c.args.row.now) c.self.view_is
    (carried-in_place c.self.inside.old.now c.self.inside.new.now c.self.inside.places.items c.args.row.now c.self.invariant.are (c.self.invariant.kept.0 keeps))
    c.requires
    in
    (λ is. c.is_same.ensures.0 is ∙ sym same, λ is. c.is_same.ensures.1 (is ∙ same))
