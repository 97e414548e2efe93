-- What a spread is formed of, apart from all other commodities.
use Rattle.std.specs.Prelude.{ℕ, ◌≡◌, ◌<◌, ℤ, List, length, slice_index}
use Rattle.mgn_params.specs.declared.tables.CreditSpread.{CreditSpread}
use Rattle.mgn_params.specs.Tables.{legs_of}
use Rattle.mgn_inter.specs.declared.gathered.Gathered.{Gathered}
use Rattle.mgn_span.specs.Scan.{value_at}
use Rattle.mgn_span.specs.Words.{leg_at}

-- the numbers of a spread's legs, and the legs with their places in place of their commodities
pub record IsGathered (deltas : List ℤ) (risks : List ℕ) (s : CreditSpread) (g : Gathered) : Type 0 where
  pub legs_long : length g.legs ≡ length s.legs
  pub deltas_long : length g.deltas ≡ 4
  pub risks_long : length g.risks ≡ 4
  pub places : (j : ℕ) → j < length (legs_of s) → (leg_at g.legs j).commodity ≡ j
  pub ratios : (j : ℕ) → j < length (legs_of s) → (leg_at g.legs j).ratio ≡ (leg_at (legs_of s) j).ratio
  pub deltas_are : (j : ℕ) → j < length (legs_of s) → value_at g.deltas j ≡ value_at deltas (leg_at (legs_of s) j).commodity
  pub risks_are : (j : ℕ) → j < length (legs_of s) → slice_index g.risks j ≡ slice_index risks (leg_at (legs_of s) j).commodity
