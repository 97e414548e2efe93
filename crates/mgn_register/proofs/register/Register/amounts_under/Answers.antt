use Rattle.std.proofs.Common.{subst, sym}
use Rattle.mgn_params.specs.Tables.{Tables}
use Rattle.mgn_unit.specs.Amounts.{AreKnown}
use Rattle.mgn_register.proofs.register.Register.amounts_under.Goals as goal

pub amounts_known-requires-clause-known : goal.amounts_known-requires-clause-known
amounts_known-requires-clause-known c =
    subst (λ (t : Tables). AreKnown t c.args.self.now.rows c.args.known.now) (sym c.in_ok-switch.ensures.new) c.requires.known
