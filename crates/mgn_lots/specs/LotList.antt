-- What contracts see of the lots of an account.
use Rattle.std.specs.Prelude.{Bool, List}
use Rattle.mgn_lots.specs.declared.lot.Lot.{Lot}

-- the lots in order of entry, busted ones among them, and whether the next one needs no memory
pub record LotList : Type 0 where
  pub lots : List Lot
  pub reserved : Bool
