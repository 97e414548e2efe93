-- The rows of each commodity, as a set keeps them beside its tables.
use Rattle.std.specs.Prelude.{ℕ, ◌≡◌, ◌<◌, ◌==◌, List, [], length, slice_index_or, Option, None}
use Rattle.std.specs.List.{filter, find}
use Rattle.mgn_params.specs.declared.tables.SpotCharge.{SpotCharge}
use Rattle.mgn_params.specs.declared.tables.Spread.{Spread}

-- the intracommodity spreads of a commodity in file order, and its spot month charge, if it has one
pub record Rows : Type 0 where
  pub spreads : List Spread
  pub spot : Option SpotCharge

abbrev pub no_rows : Rows
no_rows = record { spreads = []; spot = None }

abbrev pub rows_at : List Rows → ℕ → Rows
rows_at rows g = slice_index_or rows g no_rows

-- the rows of the commodity at a place, by the tables
abbrev pub rows_in : List Spread → List SpotCharge → ℕ → Rows
rows_in spreads spots g = record {
  spreads = filter (λ s. s.commodity == g) spreads;
  spot = find (λ s. s.commodity == g) spots;
}

-- the rows of each of so many commodities, by the tables
pub record AreRowsOf (commodities : ℕ) (spreads : List Spread) (spots : List SpotCharge) (rows : List Rows) : Type 0 where
  pub one_each : length rows ≡ commodities
  pub each : (g : ℕ) → g < commodities → rows_at rows g ≡ rows_in spreads spots g
