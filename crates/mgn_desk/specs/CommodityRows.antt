-- How the row of a commodity is kept: beside what it comes to.
use Rattle.std.specs.Prelude.{◌≡◌, ◌*◌, ◌≤◌, ◌^◌, ◌≤ℤ◌, pos, unsigned_abs}
use Rattle.mgn_span.specs.Scan.{price_risk2, value_at}
use Rattle.mgn_desk.specs.declared.commodity_row.CommodityRow.TheInside.{Inside}
use Rattle.mgn_desk.specs.KeptRows.{KeptRow, row_charge}
use Rattle.mgn_desk.specs.Risks.{IsRisk}

abbrev pub kept_row : Inside → KeptRow
kept_row r = record { scan = r.scan; tier = r.tier; minimum = r.minimum }

abbrev pub row_kept : KeptRow → Inside
row_kept r = record {
  scan = r.scan;
  tier = r.tier;
  minimum = r.minimum;
  charge = row_charge r;
  doubled_risk = price_risk2 (value_at r.scan);
}

pub record IsRowWorked (r : Inside) : Type 0 where
  pub charge : row_charge (kept_row r) ≡ r.charge
  pub small : IsRisk r.charge
  pub doubled_risk : price_risk2 (value_at r.scan) ≡ r.doubled_risk
  pub not_negative : pos 0 ≤ℤ r.doubled_risk
  pub doubled_small : unsigned_abs r.doubled_risk ≤ 11 * 10 ^ 17

-- what is kept beside the row hangs on it
pub row_kept_is : (r : Inside) → IsRowWorked r → row_kept (kept_row r) ≡ r
row_kept_is r is = λ i. record {
  scan = r.scan;
  tier = r.tier;
  minimum = r.minimum;
  charge = is.charge i;
  doubled_risk = is.doubled_risk i;
}
