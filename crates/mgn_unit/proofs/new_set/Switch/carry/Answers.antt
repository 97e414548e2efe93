use Rattle.std.proofs.Common.{◌≡◌, ◌∙◌, ap, sym, subst, length, All, List, map}
use Rattle.std.specs.Prelude.{ℤ}
use Rattle.std.proofs.lemmas.Result.{IfOk-weaker}
use Rattle.mgn_span.specs.Positions.{IsNet}
use Rattle.mgn_nets.specs.Numbers.{number_at}
use Rattle.mgn_unit.specs.NewSets.{SetPair, carried}
use Rattle.mgn_unit.proofs.Carried.{places-within}
use Rattle.mgn_unit.proofs.InPlace.{carried-in_place, carried-length}
use Rattle.mgn_unit.proofs.new_set.Switch.carry.Goals as goal

-- where each contract has its own place, a row that is carried over is the row
same : (c : goal.After-copy) → carried c.args.self.now.old c.args.self.now.new c.args.row.now ≡ c.args.row.now
same c =
    subst (λ (sets : SetPair). length c.args.row.now ≡ length sets.old.contracts → carried sets.old sets.new c.args.row.now ≡ c.args.row.now) c.self.view_is
    (carried-in_place c.self.inside.old.now c.self.inside.new.now c.self.inside.places.items c.args.row.now c.self.invariant.are (c.self.invariant.kept.0 c.if-self.true))
    c.requires.one_each

pub returns-then-self-clause-row : goal.returns-then-self-clause-row
returns-then-self-clause-row c = IfOk-weaker c.copy.result _ _ (λ nets is. is ∙ sym (same c)) c.copy.ensures

pub returns-then-self-clause-one_each : goal.returns-then-self-clause-one_each
returns-then-self-clause-one_each c =
    IfOk-weaker c.copy.result (λ nets. nets ≡ c.args.row.now) (λ nets. length nets ≡ length c.args.self.now.new.contracts)
    (λ nets is. ap length (is ∙ sym (same c)) ∙ carried-length c.args.self.now.old c.args.self.now.new c.args.row.now)
    c.copy.ensures

pub returns-clause-limits : goal.returns-clause-limits
returns-clause-limits c =
    IfOk-weaker c.at_places.result (λ nets. nets ≡ map (number_at c.args.row.now) c.as_slice.result.now) (λ nets. All IsNet nets)
    (λ nets is. subst (λ (row : List ℤ). All IsNet row) (sym is) (places-within c.args.row.now c.as_slice.result.now c.requires.nets))
    c.at_places.ensures
