-- How the rows of a file are kept while it is read: the set, an index of its months, and counts of rows by commodity.
use Rattle.std.specs.Prelude.{◌≡◌, ℕ, ◌<◌, ◌==◌, List, length, map, count_by, slice_index_or}
use Rattle.mgn_params.specs.declared.tables.Month.{Month}
use Rattle.mgn_setfile.specs.declared.rows.MonthKey.{MonthKey}
use Rattle.mgn_setfile.specs.declared.rows.Rows.TheInside.{Inside}

abbrev pub key_of : Month → MonthKey
key_of m = record { commodity = m.commodity; number = m.number }

-- for each of so many commodities how many rows are of it
pub record IsTally {X : Type 0} (commodity_of : X → ℕ) (rows : List X) (commodities : ℕ) (counts : List ℕ) : Type 0 where
  pub all : length counts ≡ commodities
  pub each : (g : ℕ) → g < commodities → slice_index_or counts g 0 ≡ count_by (λ x. commodity_of x == g) rows

pub record IsRows (r : Inside) : Type 0 where
  pub months : r.months.keys ≡ map key_of r.set.months
  pub months_of : IsTally (λ m. m.commodity) r.set.months (length r.set.commodities) r.months_of.items
  pub contracts_of : IsTally (λ c. c.commodity) r.set.contracts (length r.set.commodities) r.contracts_of.items
  pub spreads_of : IsTally (λ s. s.commodity) r.set.spreads (length r.set.commodities) r.spreads_of.items
