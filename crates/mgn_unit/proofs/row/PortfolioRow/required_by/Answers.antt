use Rattle.std.proofs.Common.{subst, sym}
use Rattle.mgn_params.specs.Tables.{Tables}
use Rattle.mgn_nets.specs.Portfolios.{AreNets}
use Rattle.mgn_unit.proofs.KeptPlaces.{kept-nets}
use Rattle.mgn_unit.proofs.row.PortfolioRow.required_by.Goals as goal

pub required-requires : goal.required-requires
required-requires c =
    subst (λ (set : Tables). AreNets set c.args.self.now.nets) (sym c.new_set.ensures)
    (kept-nets c.args.switch.now.old c.args.switch.now.new c.args.self.now.nets c.requires.keeps c.requires.nets)
