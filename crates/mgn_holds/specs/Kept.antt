-- What is kept beside the holds: whether their orders rise.
use Rattle.std.specs.Prelude.{◌≡◌, Bool, true, List, []}
use Rattle.std.specs.List.Sorted.{IsStrictlyIncreasing}
use Rattle.mgn_holds.specs.declared.held.Held.{Held}
use Rattle.mgn_holds.specs.Holds.{IsHolds, orders_of}

-- holds within the limits, and a flag that is true only where their orders rise, and always where there are none
pub record IsKept (holds : List Held) (rise : Bool) : Type 0 where
  pub legal : IsHolds holds
  pub orders : rise ≡ true → IsStrictlyIncreasing (orders_of holds)
  pub anew : holds ≡ [] → rise ≡ true
