use Rattle.std.proofs.Common.{◌≡◌, ◌<◌, ◌∙◌, ap, arith, length, pos, subst, sym}
use Rattle.std.specs.Prelude.{◌+ℤ◌, ℕ, slice_index_or}
use Rattle.std.proofs.lemmas.List.{get_or_read, length-map, map-set}
use Rattle.mgn_params.specs.declared.tables.Month.{Month}
use Rattle.mgn_span.specs.Scan.{value_at}
use Rattle.mgn_span.specs.Sizes.{IsDelta}
use Rattle.mgn_params.specs.Tables.{month_at, no_month}
use Rattle.mgn_tiers.specs.Runs.{Tier}
use Rattle.mgn_tiers.specs.TierRows.{tiers_of}
use Rattle.mgn_tiers.specs.Tiers.{AreTiersOf, Tiers, no_run, run_at}
use Rattle.mgn_tiers.proofs.PartLemmas.{part_at}
use Rattle.mgn_tiers.proofs.TierLemmas.{has_room, tiers_moved}
use Rattle.mgn_tiers.proofs.tiers.TierStages.add.Goals as goal
use Rattle.mgn_tiers.proofs.tiers.TierStages.add.Goals.{After-index_mut}

-- what was kept, by the fields
were : (c : After-index_mut) → AreTiersOf c.args.set.now (tiers_of c.self.inside)
were c = subst (λ (t : Tiers). AreTiersOf c.args.set.now t) (sym c.self.view_is) c.requires.of_set

small : (c : After-index_mut) → IsDelta (value_at c.self.inside.deltas.items c.args.month +ℤ c.args.delta)
small c = subst (λ (t : Tiers). IsDelta (value_at t.deltas c.args.month +ℤ c.args.delta)) (sym c.self.view_is) c.requires.month_delta

-- the month's commodity is one of the set's
commodity_is : (c : After-index_mut) → c.month_at.result.now.commodity ≡ (month_at c.args.set.now.months c.args.month).commodity
commodity_is c = ap (λ (m : Month). m.commodity) c.month_at.ensures

inside : (c : After-index_mut) → (month_at c.args.set.now.months c.args.month).commodity < length c.self.inside.rows
inside c =
    let limit = c.limits.ensures.months c.args.month no_month c.requires.month in
    omega (arith, limit.commodity, (were c).one_run_each, length-map c.self.inside.rows (λ (r : Tier). r.run))

-- the row and the delta that were lent are its own
row_is : (c : After-index_mut) → c.row_mut-row.result.now ≡ slice_index_or c.self.inside.rows (month_at c.args.set.now.months c.args.month).commodity c.row_mut-row.result.now
row_is c =
    c.row_mut-row.ensures.value ∙ ap (λ (g : ℕ). slice_index_or c.self.inside.rows g c.row_mut-row.result.now) (commodity_is c)

run_is : (c : After-index_mut) → c.row_mut-row.result.now.run ≡ run_at (tiers_of c.self.inside).runs (month_at c.args.set.now.months c.args.month).commodity
run_is c =
    part_at (λ (r : Tier). r.run) c.self.inside.rows (month_at c.args.set.now.months c.args.month).commodity c.row_mut-row.result.now no_run (inside c) (row_is c)

net_is : (c : After-index_mut) → c.row_mut-row.result.now.net_delta ≡ value_at (tiers_of c.self.inside).net_deltas (month_at c.args.set.now.months c.args.month).commodity
net_is c =
    part_at (λ (r : Tier). r.net_delta) c.self.inside.rows (month_at c.args.set.now.months c.args.month).commodity c.row_mut-row.result.now (pos 0) (inside c) (row_is c)

delta_is : (c : After-index_mut) → c.index_mut.result.now ≡ value_at c.self.inside.deltas.items c.args.month
delta_is c =
    let here : c.args.month < length c.self.inside.deltas.items = omega (arith, c.requires.month, (were c).one_delta_each) in
    get_or_read c.self.inside.deltas.items c.args.month c.index_mut.result.now here c.index_mut.ensures.value (pos 0)

pub add-requires-clause-room : goal.add-requires-clause-room
add-requires-clause-room c =
    let at = (goal.at.add-requires-clause-room c).After-index_mut in
    rw (run_is at, delta_is at) (has_room c.args.set.now (tiers_of c.self.inside) c.args.month (value_at c.self.inside.deltas.items c.args.month +ℤ c.args.delta) c.limits.ensures (were at) c.requires.month (small at))

pub returns-clause-of_set : goal.returns-clause-of_set
returns-clause-of_set c =
    let at = (goal.at.returns-clause-of_set c).After-index_mut in
    let rows = c.self.inside.rows in
    let new = rw (delta_is at) at c.add.ensures.month_delta in
    let net = rw (net_is at) at c.add.ensures.net_delta in
    let run = rw (run_is at, delta_is at) at c.add.ensures.run in
    rw (new, commodity_is at, map-set (λ (r : Tier). r.net_delta) rows (month_at c.args.set.now.months c.args.month).commodity c.add.new.self, map-set (λ (r : Tier). r.run) rows (month_at c.args.set.now.months c.args.month).commodity c.add.new.self) (tiers_moved c.args.set.now (tiers_of c.self.inside) c.args.month c.args.delta c.add.new.self.net_delta c.add.new.self.run c.limits.ensures (were at) c.requires.month (small at) net run)
