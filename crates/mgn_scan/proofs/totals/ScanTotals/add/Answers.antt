use Rattle.std.proofs.Common.{◌≡◌, ◌<◌, ℕ, ℤ, List, [], length, set, ap, ◌∙◌, sym, arith}
use Rattle.std.specs.Prelude.{◌+ℤ◌, ◌*ℤ◌}
use Rattle.std.proofs.lemmas.List.{get_or_default}
use Rattle.mgn_params.specs.declared.tables.Contract.{Contract}
use Rattle.mgn_span.specs.Scan.{value_at}
use Rattle.mgn_params.specs.Tables.{contract_at, no_contract}
use Rattle.mgn_span.specs.Words.{total_of, totals_of}
use Rattle.mgn_scan.proofs.TotalsLemmas.{AreTotals-changed, changed_total_small, quantity_small}
use Rattle.mgn_scan.proofs.totals.ScanTotals.add.Goals as goal
use Rattle.mgn_scan.proofs.totals.ScanTotals.add.Goals.{After-row_mut}

-- the contract's commodity
commodity_is : (c : After-row_mut) → (contract_at c.args.set.now.contracts c.args.i).commodity ≡ c.contract_at.result.now.commodity
commodity_is c = ap (λ (k : Contract). k.commodity) (sym c.contract_at.ensures)

-- is one of the set's
low : (c : After-row_mut) → c.contract_at.result.now.commodity < length c.args.set.now.commodities
low c =
    let limit = c.limits.ensures.contracts c.args.i no_contract c.requires.contract in
    rw c.contract_at.ensures limit.commodity

-- the rows that are kept
rows_are : (c : After-row_mut) → c.self.inside.rows ≡ c.args.self.now
rows_are c = c.self.view_is

-- the row that was lent is the commodity's
read : (c : After-row_mut) → c.row_mut.result.now ≡ totals_of c.args.self.now c.contract_at.result.now.commodity
read c =
    let commodity = c.contract_at.result.now.commodity in
    let is = ap (λ (rows : List (List ℤ)). totals_of rows commodity) (rows_are c) in
    let here : commodity < length c.self.inside.rows = omega (arith, low c, c.requires.totals.one_row_each, ap (λ (rows : List (List ℤ)). length rows) (rows_are c)) in
    c.row_mut.ensures.value ∙ get_or_default c.self.inside.rows commodity c.row_mut.result.now [] here ∙ is

pub add-requires-clause-quantity : goal.add-requires-clause-quantity
add-requires-clause-quantity c =
    quantity_small c.args.set.now c.args.nets.now c.args.self.now c.args.i c.args.quantity c.requires.totals c.requires.contract c.requires.net

pub add-requires-clause-room : goal.add-requires-clause-room
add-requires-clause-room c =
    λ s h.
    let before = (goal.at.add-requires-clause-room c).After-row_mut in
    let g = c.contract_at.result.now.commodity in
    let small = changed_total_small c.args.set.now c.args.nets.now c.args.self.now c.args.i g s c.args.quantity c.limits.ensures c.requires.totals c.requires.contract c.requires.net (commodity_is before) (low before) h in
    rw (read before) small

pub returns-clause-totals : goal.returns-clause-totals
returns-clause-totals c =
    let before = (goal.at.returns-clause-totals c).After-row_mut in
    let g = c.contract_at.result.now.commodity in
    let added : (s : ℕ) → s < 16 → value_at c.add.new.self s ≡ total_of c.args.self.now g s +ℤ c.args.quantity *ℤ value_at (contract_at c.args.set.now.contracts c.args.i).array s =
    λ s h. c.add.ensures.totals s h ∙ ap (λ (xs : List ℤ). value_at xs s +ℤ c.args.quantity *ℤ value_at (contract_at c.args.set.now.contracts c.args.i).array s) (read before) in
    let rows = ap (λ (xs : List (List ℤ)). set xs g c.add.new.self) (rows_are before) in
    rw rows (AreTotals-changed c.args.set.now c.args.nets.now c.args.self.now c.args.i g c.args.quantity c.add.new.self c.requires.totals c.requires.contract c.requires.net (commodity_is before) (low before) added)
