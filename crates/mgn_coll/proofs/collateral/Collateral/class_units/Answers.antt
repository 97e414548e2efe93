use Rattle.std.proofs.Common.{◌≡◌, ap, sym, arith}
use Rattle.std.specs.Option.{unwrap_or}
use Rattle.std.specs.Prelude.{Option, ℕ}
use Rattle.mgn_coll.specs.Posted.{units_of}
use Rattle.mgn_coll.proofs.collateral.Collateral.class_units.Goals as goal

pub returns-in-Some-clause-most : goal.returns-in-Some-clause-most
returns-in-Some-clause-most c =
    let here : units_of c.args.class.now c.self.inside.units.entries ≡ c.in-Some.units.now = ap (λ (o : Option ℕ). unwrap_or o 0) (sym c.in-Some.ensures.value) in
    omega (arith, here, c.self.invariant.units_most c.args.class.now)
