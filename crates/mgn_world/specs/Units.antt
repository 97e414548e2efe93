-- The units of a command as the code hands them on (own profile).
use Rattle.std.specs.Prelude.{ℕ, List, [], ◌∷◌}
use Rattle.mgn_world.specs.declared.units.CommandUnits.{CommandUnits}
use Rattle.mgn_world.specs.declared.units.CommandUnits.TheVariants.{Nothing, One, Two}

abbrev pub units_by : CommandUnits → List ℕ
units_by Nothing = []
units_by (One u) = u ∷ []
units_by (Two u v) = u ∷ v ∷ []
