-- How the rows of a set are kept.
use Rattle.std.specs.Prelude.{map}
use Rattle.mgn_tiers.specs.declared.tiers.TierStages.TheInside.{Inside}
use Rattle.mgn_tiers.specs.Runs.{Tier}
use Rattle.mgn_tiers.specs.Tiers.{Tiers}

abbrev pub tiers_of : Inside → Tiers
tiers_of t = record {
  deltas = t.deltas.items;
  net_deltas = map (λ (r : Tier). r.net_delta) t.rows;
  runs = map (λ (r : Tier). r.run) t.rows;
}
