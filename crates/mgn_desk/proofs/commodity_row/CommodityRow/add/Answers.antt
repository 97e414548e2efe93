use Rattle.std.proofs.Common.{◌≡◌, ◌∙◌, ap, arith, pos, rules, subst, sym, ℤ, ◌+ℤ◌, ◌*ℤ◌}
use Rattle.std.proofs.lemmas.Int.{ints}
use Rattle.mgn_params.specs.declared.tables.Contract.{Contract}
use Rattle.mgn_params.specs.Tables.{contract_at, month_at}
use Rattle.mgn_span.specs.Scan.{value_at}
use Rattle.mgn_span.specs.Sizes.{IsTotal}
use Rattle.mgn_tiers.specs.Tiers.{moved}
use Rattle.mgn_desk.specs.KeptRows.{IsRowMoved, KeptRow, delta_of}
use Rattle.mgn_desk.proofs.commodity_row.CommodityRow.add.Goals as goal

pub add-requires-clause-room : goal.add-requires-clause-room
add-requires-clause-room c =
    λ s low.
    subst (λ (k : KeptRow). IsTotal (value_at k.scan s +ℤ c.args.step.now.quantity *ℤ value_at (contract_at c.args.set.now.contracts c.args.i).array s)) (sym c.self.view_is) (c.requires.room.totals_small s low)

pub invariant_of-self : goal.invariant_of-self
invariant_of-self c =
    let risks = c.risks-risks.ensures in
    let sum = c.plus-self-inside.ensures ∙ (λ i. c.plus.ensures i +ℤ c.spot.ensures.value i) in
    record {
      charge = sym (sum ∙ (λ i. risks.scan i +ℤ c.charge.ensures.value i +ℤ pos c.add-2.new.self.run.spot_charged));
      small = omega (arith, ints, sum, risks.small_scan, c.charge.ensures.small, c.spot.ensures.small, c.spot.ensures.value);
      doubled_risk = sym risks.price_risk2;
      not_negative = risks.not_negative;
      doubled_small = risks.small;
    }

pub returns-clause-row : goal.returns-clause-row
returns-clause-row c =
    let set' = c.args.set.now in
    let step = c.args.step.now in
    let contract : c.contract_at-contract.result.now ≡ contract_at set'.contracts c.args.i = c.contract_at-contract.ensures in
    let scaled : c.scaled-delta.result ≡ step.quantity *ℤ c.contract_at-contract.result.now.delta = search rules in
    let delta : c.scaled-delta.result ≡ delta_of set' c.args.i step.quantity = scaled ∙ ap (λ (k : Contract). step.quantity *ℤ k.delta) contract in
    let tier = c.self.inside.tier in
    subst (λ (k : KeptRow). IsRowMoved set' c.args.i k (record { scan = c.add.new.self; tier = c.add-2.new.self; minimum = c.follow.new.self }) step) c.self.view_is
    record {
      totals = c.add.ensures.totals;
      minimum = c.follow.ensures;
      net_delta = c.add-2.ensures.net_delta ∙ ap (λ (d : ℤ). tier.net_delta +ℤ d) delta;
      run = c.add-2.ensures.run ∙ (λ i. moved set' (month_at set'.months (contract i).month) tier.run step.delta (step.delta +ℤ delta i));
    }
