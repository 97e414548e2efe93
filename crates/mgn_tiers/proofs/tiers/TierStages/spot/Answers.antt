use Rattle.std.proofs.Common.{◌≡◌, ◌<◌, ◌∙◌, ap, arith, length, pos, subst, sym}
use Rattle.std.proofs.lemmas.List.{length-map}
use Rattle.mgn_span.specs.MonthDeltas.{spot_charge_by}
use Rattle.mgn_tiers.specs.Runs.{Run, Tier}
use Rattle.mgn_tiers.specs.TierRows.{tiers_of}
use Rattle.mgn_tiers.specs.Tiers.{AreTiersOf, Tiers, no_run}
use Rattle.mgn_tiers.proofs.PartLemmas.{part_at}
use Rattle.mgn_tiers.proofs.TierLemmas.{spot_of_run}
use Rattle.mgn_tiers.proofs.tiers.TierStages.spot.Goals as goal

pub returns-clause-value : goal.returns-clause-value
returns-clause-value c = λ set' are.
    let here = subst (λ (t : Tiers). AreTiersOf set' t) (sym c.self.view_is) are in
    let asked = subst (λ (t : Tiers). AreTiersOf c.requires.0 t) (sym c.self.view_is) c.requires.1 in
    let long = length-map c.self.inside.rows (λ (r : Tier). r.run) in
    let inside : c.args.g < length c.self.inside.rows = omega (arith, c.requires.2, asked.one_run_each, long) in
    let low : c.args.g < length set'.commodities = omega (arith, inside, here.one_run_each, long) in
    let run = part_at (λ (r : Tier). r.run) c.self.inside.rows c.args.g c.row.result.now no_run inside c.row.ensures in
    let charged = ap (λ (r : Run). r.spot_charged) run ∙ spot_of_run set' (tiers_of c.self.inside) c.args.g here low in
    subst (λ (t : Tiers). c.spot.result ≡ pos (spot_charge_by set' t.deltas c.args.g)) c.self.view_is (c.spot.ensures.value ∙ ap pos charged)
