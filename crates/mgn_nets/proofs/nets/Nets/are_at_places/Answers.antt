use Rattle.std.proofs.Common.{◌≡◌, arith, length, refl, rules}
use Rattle.mgn_nets.proofs.Places.{at-places-all}
use Rattle.mgn_nets.proofs.nets.Nets.are_at_places.Goals as goal

pub returns : goal.returns
returns c =
    let long : length c.args.self.now ≡ length c.args.places.now = search rules in
    (λ all. at-places-all c.args.self.now c.args.other.now c.args.places.now long (λ k less. c.loop-i.invariant k (omega (arith, less, c.loop-i-test.false))), λ own. refl)
