-- The units of a class stay within their limit where one amount is written, as `write` promises.
use Rattle.std.proofs.Common.{◌≡◌, ℕ, ◌≤◌, ◌^◌, List, refl, true, false, Bool, Some, cond}
use Rattle.std.specs.Map.{lookup}
use Rattle.std.specs.Option.{unwrap_or}
use Rattle.std.specs.Str.{bytes_eq}
use Rattle.mgn_coll.specs.Posted.{IsPosted, is_cash, most_of, units_of}

pub units-written : (old new : List (List ℕ × ℕ)) (name : List ℕ) (amount : ℕ) → amount ≤ 10 ^ 9
    → ((q : List ℕ) → lookup (bytes_eq q) new ≡ cond (bytes_eq name q) (Some amount) (lookup (bytes_eq q) old))
    → ((q : List ℕ) → units_of q old ≤ 10 ^ 9) → (q : List ℕ) → units_of q new ≤ 10 ^ 9
units-written old new name amount most written were q = rw (written q) (by (bytes_eq name q) refl)
  where
    by : (b : Bool) → bytes_eq name q ≡ b → unwrap_or (cond (bytes_eq name q) (Some amount) (lookup (bytes_eq q) old)) 0 ≤ 10 ^ 9
    by true e = rw e most
    by false e = rw e (were q)

-- what is posted stays within its limits where units of a class are written
pub IsPosted-written : (cash : ℕ) (old new : List (List ℕ × ℕ)) (name : List ℕ) (amount : ℕ) → is_cash name ≡ false → amount ≤ most_of name
    → ((q : List ℕ) → lookup (bytes_eq q) new ≡ cond (bytes_eq name q) (Some amount) (lookup (bytes_eq q) old))
    → IsPosted cash old → IsPosted cash new
IsPosted-written cash old new name amount other most written were =
    record { cash_most = were.cash_most; units_most = units-written old new name amount (rw other at most) written were.units_most }
