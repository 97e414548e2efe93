use Rattle.std.proofs.Common.{◌<◌, length}
use Rattle.std.specs.Prelude.{IfSome}
use Rattle.mgn_register.proofs.register.Register.open.Goals as goal

pub open_in-requires-clause-unit : goal.open_in-requires-clause-unit
open_in-requires-clause-unit c =
    let n = length c.args.self.now.rows in
    let within : IfSome c.in_ok-place.unit (λ u. u < n) = c.in_ok-place.ensures.within n c.requires.kept.netted in
    rw c.in-Some.is at within
