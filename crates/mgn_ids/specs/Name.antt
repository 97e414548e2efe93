-- A name: 1 to 16 bytes of `A` to `Z` and `0` to `9` (own format).
use Rattle.std.specs.Prelude.{ℕ, ◌≡◌, ◌-◌, ◌<◌, ◌≤◌, ◌&&◌, ◌||◌, if◌then◌else◌, Bool, true, nat_le, List, [], ◌∷◌, ◌++◌, length, take, drop, replicate, Result, Ok, Err}
use Rattle.std.specs.List.{list_all}
use Rattle.mgn_ids.specs.declared.fault.IdFault.{IdFault}
use Rattle.mgn_ids.specs.declared.fault.IdFault.TheVariants.{Syntax, Range}

abbrev pub is_name_byte : ℕ → Bool
is_name_byte b = (nat_le 65 b && nat_le b 90) || (nat_le 48 b && nat_le b 57)

-- the name that a word spells: the right bytes first, then their number
unfoldable pub name_in : List ℕ → Result (List ℕ) IdFault
name_in [] = Err Syntax
name_in (b ∷ bs) =
    if list_all is_name_byte (b ∷ bs) then (if nat_le (length (b ∷ bs)) 16 then Ok (b ∷ bs) else Err Range) else Err Syntax

-- a name's bytes stand first in the row, and zeros after them
pub record IsNameRow (bytes : List ℕ) (len : ℕ) : Type 0 where
  pub some : 0 < len
  pub few : len ≤ 16
  pub all : length bytes ≡ 16
  pub zeros : drop len bytes ≡ replicate (16 - len) 0
  pub right : list_all is_name_byte (take len bytes) ≡ true

-- a name, with zeros up to 16 bytes
abbrev pub row_of : List ℕ → List ℕ
row_of name = name ++ replicate (16 - length name) 0
