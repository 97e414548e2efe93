-- What is kept of the nets after a change of one of them.
use Rattle.std.proofs.Common.{◌≡◌, ◌≢◌, ◌<◌, ◌∙◌, ℕ, ℤ, List, ap, arith, length, pos, refl, map, set, sym, subst}
use Rattle.std.specs.Prelude.{◌+ℤ◌}
use Rattle.std.proofs.lemmas.List.{length-map, map-set}
use Rattle.mgn_params.specs.Limits.{IsWithinLimits}
use Rattle.mgn_params.specs.Tables.{Tables, contract_at, no_contract}
use Rattle.mgn_span.specs.MonthDeltas.{net_delta_by}
use Rattle.mgn_span.specs.Positions.{IsNet}
use Rattle.mgn_span.specs.Scan.{value_at}
use Rattle.mgn_span.specs.Sizes.{IsDelta}
use Rattle.mgn_span.specs.Words.{value_share}
use Rattle.mgn_scan.specs.Totals.{AreTotals}
use Rattle.mgn_scan.proofs.TotalsLemmas.{AreTotals-changed, changed_total_small, quantity_small}
use Rattle.mgn_option.specs.Sums.{AreSums}
use Rattle.mgn_option.proofs.SumsLemmas.{AreSums-changed, changed_minimum_small, counted_minimum}
use Rattle.mgn_tiers.specs.Tiers.{AreTiersOf, Tiers}
use Rattle.mgn_tiers.proofs.TierLemmas.{has_room, tiers_moved}
use Rattle.mgn_desk.specs.declared.figures.Figures.{Figures}
use Rattle.mgn_desk.specs.declared.portfolio.Portfolio.{Portfolio}
use Rattle.mgn_desk.specs.declared.unit_lists.UnitLists.{UnitLists}
use Rattle.mgn_desk.specs.KeptRows.{HasRowRoom, IsRowMoved, KeptRow, delta_of, month_of, step_of}
use Rattle.mgn_desk.specs.UnitLists.{IsFollowed, nets_in, row_at, rows_in}
use Rattle.mgn_desk.specs.WorkedPortfolios.{AreParts, WorkedPortfolio, row_of, worked}
use Rattle.mgn_desk.proofs.FrameLemmas.{changed}
use Rattle.mgn_desk.proofs.KeptLemmas.{row_is}
use Rattle.mgn_desk.proofs.MoveLemmas.{month_delta_after, net_delta_after, parts_after}

-- the commodity of a contract
abbrev pub own : Tables → ℕ → ℕ
own t i = (contract_at t.contracts i).commodity

pub own_low : (t : Tables) (i : ℕ) → IsWithinLimits t → i < length t.contracts → own t i < length t.commodities
own_low t i limits h = (limits.contracts i no_contract h).commodity

-- the month of a contract is one of its commodity
own_month : (t : Tables) (i : ℕ) → IsWithinLimits t → i < length t.contracts → (month_of t i).commodity ≡ own t i
own_month t i limits h = (limits.contracts i no_contract h).own_month

-- there is room in the row of its commodity
pub row_room : (t : Tables) (p : WorkedPortfolio) (i : ℕ) (q : ℤ) → IsWithinLimits t → i < length t.contracts → AreParts t p → IsNet (value_at p.nets i +ℤ q) → HasRowRoom t i (row_of p (own t i)) (step_of (value_at p.nets i) (value_at p.tiers.deltas (contract_at t.contracts i).month) q)
row_room t p i q limits h are net =
    let c = contract_at t.contracts i in
    let g = own t i in
    let low = own_low t i limits h in
    let month = own_month t i limits h in
    let limit = limits.contracts i no_contract h in
    record {
      net_small = are.totals.small i (pos 0) (omega (arith, are.totals.one_each, h));
      changed_small = net;
      quantity_small = quantity_small t p.nets p.totals i q are.totals h net;
      totals_small = λ s less. changed_total_small t p.nets p.totals i g s q limits are.totals h net refl low less;
      counted = counted_minimum t p.nets p.sums i g are.sums h low;
      minimum_small = changed_minimum_small t p.nets p.sums i g (value_at p.nets i +ℤ q) limits are.sums h low net;
      delta_small = month_delta_after t p i q limits are h net;
      net_delta_small = rw (are.tiers.nets g low) (subst (λ (k : ℕ). IsDelta (net_delta_by t.months p.tiers.deltas k +ℤ delta_of t i q)) month (net_delta_after t p i q limits are h net));
      room = rw (sym month) (has_room t p.tiers c.month (value_at p.tiers.deltas c.month +ℤ delta_of t i q) limits are.tiers limit.month (month_delta_after t p i q limits are h net));
      formed = rw (month, are.tiers.runs_are g low) refl;
    }

-- and after the change what is kept is that of the changed nets
tiers_after : (t : Tables) (p : WorkedPortfolio) (i : ℕ) (q : ℤ) (new : KeptRow) → IsWithinLimits t → i < length t.contracts → AreParts t p → IsNet (value_at p.nets i +ℤ q) → (let m = (contract_at t.contracts i).month in let was = value_at p.tiers.deltas m in IsRowMoved t i (row_of p (own t i)) new (step_of (value_at p.nets i) was q) → (let tiers : Tiers = record { deltas = set p.tiers.deltas m (was +ℤ delta_of t i q); net_deltas = set p.tiers.net_deltas (own t i) new.tier.net_delta; runs = set p.tiers.runs (own t i) new.tier.run } in AreTiersOf t tiers))
tiers_after t p i q new limits h are small row =
    let c = contract_at t.contracts i in
    let month = own_month t i limits h in
    let limit = limits.contracts i no_contract h in
    let net = rw (sym month) at row.net_delta in
    let run = rw (sym month) at row.run in
    rw (sym month) (tiers_moved t p.tiers c.month (delta_of t i q) new.tier.net_delta new.tier.run limits are.tiers limit.month (month_delta_after t p i q limits are h small) net run)

-- lists of which these are followed
part_set : {X : Type 0} (f : KeptRow → X) (w : Portfolio) (old new : UnitLists) (g : ℕ) (r : KeptRow) → rows_in w new ≡ set (rows_in w old) g r → set (map f (rows_in w old)) g (f r) ≡ map f (rows_in w new)
part_set f w old new g r is = sym (ap (λ (rows : List KeptRow). map f rows) is ∙ map-set f (rows_in w old) g r)

pub parts_followed : (t : Tables) (w : Portfolio) (old new : UnitLists) (f f' : Figures) (i : ℕ) (q : ℤ) → IsWithinLimits t → i < length t.contracts → AreParts t (worked w old f) → IsNet (value_at (nets_in w old) i +ℤ q) → IsFollowed t i q w old new → q ≢ pos 0 → f'.value ≡ f.value +ℤ value_share (contract_at t.contracts i, q) → AreParts t (worked w new f')
parts_followed t w old new f f' i q limits h are net followed some worth =
    let p = worked w old f in
    let p' = worked w new f' in
    let g = own t i in
    let low = own_low t i limits h in
    let rows = rows_in w old in
    let was : row_at w old g ≡ row_of p g = row_is w old f g (omega (arith, low, are.totals.one_row_each, length-map rows (λ (r : KeptRow). r.scan))) in
    let row = followed.row in
    let moved : IsRowMoved t i (row_of p g) row (step_of (value_at p.nets i) (value_at p.tiers.deltas (contract_at t.contracts i).month) q) = subst (λ (r : KeptRow). IsRowMoved t i r row (step_of (value_at p.nets i) (value_at p.tiers.deltas (contract_at t.contracts i).month) q)) was (followed.stepped.moved some) in
    let totals = AreTotals-changed t p.nets p.totals i g q row.scan are.totals h net refl low moved.totals in
    let sums = AreSums-changed t p.nets p.sums i g q row.minimum f'.value are.sums h net refl low moved.minimum worth in
    let tiers = tiers_after t p i q row limits h are net moved in
    let scans = part_set (λ (r : KeptRow). r.scan) w old new g row followed.rows in
    let minimums = part_set (λ (r : KeptRow). r.minimum) w old new g row followed.rows in
    let net_deltas = part_set (λ (r : KeptRow). r.tier.net_delta) w old new g row followed.rows in
    let runs = part_set (λ (r : KeptRow). r.tier.run) w old new g row followed.rows in
    parts_after t p p' i q limits are h followed.nets
    (subst (λ (rs : List (List ℤ)). AreTotals t (changed p.nets i q) rs) scans totals)
    (subst (λ (ms : List ℕ). AreSums t (changed p.nets i q) (record { minimums = ms; value = f'.value })) minimums sums)
    (subst (λ (x : Tiers). AreTiersOf t x) (λ j. record { deltas = sym followed.deltas j; net_deltas = net_deltas j; runs = runs j }) tiers)
    followed.deltas
