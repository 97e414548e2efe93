-- What is kept beside the lots: by what a number is found, and the memory that is promised to the next one.
use Rattle.std.specs.Prelude.{ℕ, ◌≡◌, ◌≤◌, ◌<◌, Bool, true, All, List, length, take, drop}
use Rattle.std.specs.List.Sorted.{IsStrictlyIncreasing}
use Rattle.mgn_lots.specs.declared.lot.Lot.{Lot}
use Rattle.mgn_lots.specs.Lots.{IsLot, numbers_of}

-- the first so many of all numbers rise, and those behind them are kept in order
pub record KeepsNumbers (all : List ℕ) (rising : ℕ) (behind : List ℕ) : Type 0 where
  pub within : rising ≤ length all
  pub rise : IsStrictlyIncreasing (take rising all)
  pub behind_are : behind ≡ drop rising all

-- one more lot fits without memory: there is room for it and for its number
pub record HasRoom (lots capacity numbers : ℕ) : Type 0 where
  pub lots_fit : lots < capacity
  pub numbers_fit : 0 < numbers

-- lots within the limits, by what their numbers are found, and what is reserved
pub record IsLots (lots : List Lot) (rising : ℕ) (behind : List ℕ) (reserved : Bool) (Room : Type 0) : Type 0 where
  pub numbers : KeepsNumbers (numbers_of lots) rising behind
  pub limits : All IsLot lots
  pub few : length lots ≤ 65536
  pub room : reserved ≡ true → Room
