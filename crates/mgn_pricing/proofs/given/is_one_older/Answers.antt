use Rattle.std.proofs.Common.{◌∙◌}
use Rattle.mgn_pricing.proofs.Fitting.{any_map}
use Rattle.mgn_pricing.specs.Given.{is_older}
use Rattle.mgn_pricing.proofs.given.is_one_older.Goals as goal

pub returns : goal.returns
returns c = c.any_older.ensures ∙ any_map (λ d. d.now) (λ d. is_older c.args.version d.marked) c.args.desks.now
