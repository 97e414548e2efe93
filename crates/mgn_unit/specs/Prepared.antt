-- What was prepared of margin units, beside the nets that it was worked out from.
use Rattle.std.specs.Prelude.{ℕ, ℤ, ◌≡◌, ◌<◌, All, Bool, IsSomeAnd, List, None, Option, Some, false, length, slice_index_or, true}
use Rattle.mgn_params.specs.Tables.{Tables}
use Rattle.mgn_nets.specs.Portfolios.{UnitNets}
use Rattle.mgn_unit.specs.declared.row.PricedNets.{PricedNets}
use Rattle.mgn_unit.specs.declared.row.Row.{Row}
use Rattle.mgn_unit.specs.NewSets.{IsRequired, PreparedUnit, carried}
use Rattle.mgn_unit.specs.Rows.{nets_in}

-- what each of these nets requires under a set was worked out
abbrev pub ArePriced : Tables → List PricedNets → Type 0
ArePriced set others = All (λ (it : PricedNets). IsRequired set it.nets.now it.requirement) others

-- these nets are among others of which that is known
abbrev pub IsBeside : List ℤ → List PricedNets → Type 0
IsBeside nets others = (k : ℕ) × (d : PricedNets) × (k < length others) × ((slice_index_or others k d).nets.now ≡ nets)

-- what was prepared of a unit stands beside the nets that it was worked out from, by the contracts' names
pub record AreCarried (old new : Tables) (nets : UnitNets) (prepared : PreparedUnit) : Type 0 where
  pub lots : prepared.lots.nets ≡ carried old new nets.lots
  pub buys : prepared.buys.nets ≡ carried old new nets.buys
  pub sales : prepared.sales.nets ≡ carried old new nets.sales
  pub all : prepared.all.nets ≡ carried old new nets.all

-- where it is known to be for the nets that a unit's row carries over, it stands beside these
abbrev pub AreCurrent : Tables → Tables → List Row → List (Option PreparedUnit) → List Bool → Type 0
AreCurrent old new rows units current =
    (u : ℕ) (d : Row) (one : PreparedUnit) → u < length rows → slice_index_or current u false ≡ true →
    slice_index_or units u None ≡ Some one → AreCarried old new (nets_in (slice_index_or rows u d)) one

-- what was prepared of each unit stands beside the nets that its row carries over
abbrev pub ArePreparedFor : Tables → Tables → List Row → List (Option PreparedUnit) → Type 0
ArePreparedFor old new rows units =
    (u : ℕ) (d : Row) → u < length rows →
    IsSomeAnd (slice_index_or units u None) (AreCarried old new (nets_in (slice_index_or rows u d)))
