-- How a number is spelled: `0`, or an optional `-`, a digit 1 to 9 and any further digits (own format).
use Rattle.std.specs.Prelude.{ℕ, ◌+◌, ◌*◌, ◌-◌, ◌^◌, Bool, false, ◌&&◌, not, ◌==◌, nat_le, List, [], ◌∷◌, if◌then◌else◌, Option, Some, None, ℤ, pos, neg_ℤ, min}
use Rattle.std.specs.List.{fold, list_all}

-- the byte of a digit, `0` to `9`
abbrev pub is_digit : ℕ → Bool
is_digit b = nat_le 48 b && nat_le b 57

-- a digit 1 to 9 and any further digits
abbrev pub is_positive : List ℕ → Bool
is_positive [] = false
is_positive (b ∷ bs) = not (b == 48) && list_all is_digit (b ∷ bs)

-- the number that digits spell
abbrev pub number_from : List ℕ → ℕ
number_from bs = fold (λ n b. 10 * n + (b - 48)) 0 bs

-- the number that a text spells, if it spells one
abbrev pub spelled : List ℕ → Option ℤ
spelled [] = None
spelled (b ∷ bs) =
    if b == 45 then (if is_positive bs then Some (neg_ℤ (pos (number_from bs))) else None)
    else (if is_positive (b ∷ bs) then Some (pos (number_from (b ∷ bs))) else (if (b == 48) && list_all (λ _. false) bs then Some (pos 0) else None))

-- the number that digits spell, or the first number above the limit where that is larger
abbrev pub capped_number : List ℕ → Option ℕ
capped_number bs = if is_positive bs then Some (min (number_from bs) (10 ^ 36 + 1)) else None
