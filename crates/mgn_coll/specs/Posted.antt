-- The collateral of an account and its value (own profile).
use Rattle.std.specs.Prelude.{ℕ, ◌≤◌, ◌+◌, ◌-◌, ◌*◌, ◌/◌, ◌^◌, Bool, List, [], ◌∷◌, ◌||◌, ◌==◌, position, is_some, if◌then◌else◌}
use Rattle.std.specs.Map.{lookup}
use Rattle.std.specs.Option.{unwrap_or}
use Rattle.std.specs.Str.{bytes_eq}
use Rattle.std.specs.List.{sum_by, list_all}
use Rattle.indexmap.specs.IndexMap.{insert_entry}
use Rattle.mgn_params.specs.declared.tables.Class.{Class}
use Rattle.mgn_params.specs.Limits.{class_names}

-- the cents of cash, and the units of each class that was ever posted, by its name, in order of first posting
pub record Posted : Type 0 where
  pub cash : ℕ
  pub units : List (List ℕ × ℕ)

-- nothing is posted
abbrev pub nothing : Posted
nothing = record { cash = 0; units = [] }

-- cash goes by the name `CASH`
abbrev pub is_cash : List ℕ → Bool
is_cash name = bytes_eq name (67 ∷ 65 ∷ 83 ∷ 72 ∷ [])

-- the units of a class, 0 where none was ever posted
abbrev pub units_of : List ℕ → List (List ℕ × ℕ) → ℕ
units_of name units = unwrap_or (lookup (bytes_eq name) units) 0

-- units of a class were written, be they 0 now
abbrev pub has_entry : List ℕ → Posted → Bool
has_entry name p = is_some (lookup (bytes_eq name) p.units)

-- what is posted by a name: cents of cash, or units
abbrev pub amount_of : List ℕ → Posted → ℕ
amount_of name p = if is_cash name then p.cash else units_of name p.units

-- with another amount by a name
abbrev pub with_amount : Posted → List ℕ → ℕ → Posted
with_amount p name amount =
    if is_cash name then record p { cash = amount } else record p { units = insert_entry bytes_eq p.units name amount }

-- 10^15 cents of cash, 10^9 units of a class
abbrev pub most_of : List ℕ → ℕ
most_of name = if is_cash name then 10 ^ 15 else 10 ^ 9

-- a set has a class of that name
abbrev pub has_class : List Class → List ℕ → Bool
has_class classes name = is_some (position (bytes_eq name) (class_names classes))

-- cash, and the classes of the set, can be posted and drawn
abbrev pub is_known : List Class → List ℕ → Bool
is_known classes name = is_cash name || has_class classes name

-- a set has each class of which units are posted
abbrev pub is_priced_by : List Class → Posted → Bool
is_priced_by classes p = list_all (λ (e : List ℕ × ℕ). (e.1 == 0) || has_class classes e.0) p.units

-- the value of units of a class: at the price less the haircut, rounded down once (own profile)
abbrev pub class_value : Class → ℕ → ℕ
class_value class units = units * class.price * (10000 - class.haircut) / 10000

-- the value of what is posted: the cash, and that of the units of each class of the set
abbrev pub value : List Class → Posted → ℕ
value classes p = p.cash + sum_by (λ c. class_value c (units_of c.name p.units)) classes

-- the limits of what is posted
pub record IsPosted (cash : ℕ) (units : List (List ℕ × ℕ)) : Type 0 where
  pub cash_most : cash ≤ 10 ^ 15
  pub units_most : (name : List ℕ) → units_of name units ≤ 10 ^ 9
