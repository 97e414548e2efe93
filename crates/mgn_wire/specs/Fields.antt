-- Numbers in replies and statements (own format).
use Rattle.std.specs.Prelude.{ℕ, ℤ, List, ◌++◌, codes}
use Rattle.std.specs.Fmt.{decimal, signed_decimal}
use Rattle.mgn_machine.specs.declared.reply.UnitFigures.{UnitFigures}

-- a number of cents after a space
abbrev pub field : ℤ → List ℕ
field cents = codes " " ++ signed_decimal cents

abbrev pub figures_text : UnitFigures → List ℕ
figures_text f = field f.requirement ++ field f.exposure_requirement ++ field f.value ++ field f.exposure_value ++ field f.room

-- a number after a space
abbrev pub number_text : ℕ → List ℕ
number_text number = codes " " ++ decimal number
