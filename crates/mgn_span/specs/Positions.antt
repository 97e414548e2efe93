-- What is held: each contract of a set with its net quantity.
use Rattle.std.specs.Prelude.{◌≡◌, ℤ, pos, ◌≤◌, ◌^◌, List, All, unsigned_abs}
use Rattle.std.specs.List.{zip}
use Rattle.mgn_params.specs.declared.tables.Contract.{Contract}

abbrev pub Position : Type 0
Position = Contract × ℤ

-- the contracts of a set, each with its net (own profile: one net for each contract, in file order)
abbrev pub positions : List Contract → List ℤ → List Position
positions contracts nets = zip contracts nets

-- at most 10^7 in size (own profile)
abbrev pub IsNet : ℤ → Type 0
IsNet net = unsigned_abs net ≤ 10 ^ 7

-- each net is 0
abbrev pub AreFlat : List ℤ → Type 0
AreFlat nets = All (λ net. net ≡ pos 0) nets
