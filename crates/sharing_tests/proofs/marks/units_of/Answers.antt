use Rattle.std.proofs.Common.{◌≡◌, ◌++◌, ◌∷◌, [], All, arith, rules, subst, sym}
use Rattle.std.proofs.lemmas.List.Elements.{All-push}
use Rattle.mgn_nets.specs.Portfolios.{AreUnitNets, UnitNets}
use Rattle.sharing_tests.proofs.marks.units_of.Goals as goal

pub returns : goal.returns
returns g c =
    let P : UnitNets → Type 0 = λ nets. AreUnitNets c.args.set.now nets in
    let first = c.in_ok-first.first in
    let second = c.in_ok-second.second in
    let empty : c.in_ok-units.units.items ≡ [] = search rules in
    let one : c.push.new.self.items ≡ c.in_ok-units.units.items ++ first ∷ [] = search rules in
    let two : c.push-2.new.self.items ≡ c.push.new.self.items ++ second ∷ [] = search rules in
    let none : All P [] = λ k d inside. absurd (omega (arith, inside)) in
    let of-one : All P c.push.new.self.items = subst (All P) (sym one) (All-push P c.in_ok-units.units.items first (subst (All P) (sym empty) none) c.in_ok-first.ensures) in
    subst (All P) (sym two) (All-push P c.push.new.self.items second of-one c.in_ok-second.ensures)
