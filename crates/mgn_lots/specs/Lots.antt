-- The lots of an account: which of them count, and what they come to (own profile).
use Rattle.std.specs.Prelude.{ℕ, ℤ, pos, ◌≤◌, ◌^◌, ◌*ℤ◌, unsigned_abs, Bool, true, false, List, [], map, length, nat_le, nat_eq, position, Option, slice_index_or, if◌then◌else◌}
use Rattle.std.specs.Str.{bytes_eq}
use Rattle.std.specs.List.{list_any, sum_by}
use Rattle.mgn_num.specs.Signed.{signed_sum_by}
use Rattle.mgn_lots.specs.declared.lot.Mark.{Mark}
use Rattle.mgn_lots.specs.declared.lot.Mark.TheVariants.{Moved, Busted}
use Rattle.mgn_lots.specs.declared.lot.Lot.{Lot}

-- traded and moved lots are live
abbrev pub is_live : Mark → Bool
is_live Busted = false
is_live _ = true

abbrev pub is_moved : Mark → Bool
is_moved Moved = true
is_moved _ = false

abbrev pub is_busted : Mark → Bool
is_busted Busted = true
is_busted _ = false

-- the quantity for which a lot counts
abbrev pub live_quantity : Lot → ℤ
live_quantity x = if is_live x.mark then x.quantity else pos 0

-- what of it is in a contract
abbrev pub lot_share : List ℕ → Lot → ℤ
lot_share contract x = if bytes_eq x.contract contract then live_quantity x else pos 0

-- the net of the lots in a contract: the sum of the quantities of the live ones
abbrev pub net : List ℕ → List Lot → ℤ
net contract lots = signed_sum_by (lot_share contract) lots

-- the gross of the lots in a contract: the sum of the sizes of the live ones
abbrev pub gross : List ℕ → List Lot → ℕ
gross contract lots = sum_by (λ (x : Lot). unsigned_abs (lot_share contract x)) lots

-- what the live lots cost, in cents: the sum of quantity times premium, less than 0 where a lot was sold
abbrev pub cost : List Lot → ℤ
cost lots = signed_sum_by (λ x. live_quantity x *ℤ pos x.premium) lots

-- the limits of a lot
pub record IsLot (x : Lot) : Type 0 where
  pub some : 1 ≤ unsigned_abs x.quantity
  pub most : unsigned_abs x.quantity ≤ 10 ^ 6
  pub premium : x.premium ≤ 10 ^ 8

abbrev pub numbers_of : List Lot → List ℕ
numbers_of lots = map (λ (x : Lot). x.number) lots

-- there is a lot of that number, busted or not
abbrev pub has_number : List Lot → ℕ → Bool
has_number lots number = list_any (nat_eq number) (numbers_of lots)

-- where the lot of a number stands
abbrev pub place_of_lot : List Lot → ℕ → Option ℕ
place_of_lot lots number = position (nat_eq number) (numbers_of lots)

-- an account has at most 65,536 lots, busted ones included
abbrev pub is_full : List Lot → Bool
is_full lots = nat_le 65536 (length lots)

-- stands for the lot past the end of a list, which no one asks for
abbrev pub no_lot : Lot
no_lot = record { number = 0; contract = []; quantity = pos 0; premium = 0; mark = Busted }

abbrev pub lot_at : List Lot → ℕ → Lot
lot_at lots i = slice_index_or lots i no_lot

-- a lot that is busted
abbrev pub busted : Lot → Lot
busted x = record x { mark = Busted }

-- What one lot counts for in the cost, a word for proofs.
abbrev pub lot_cost : Lot → ℤ
lot_cost x = live_quantity x *ℤ pos x.premium
