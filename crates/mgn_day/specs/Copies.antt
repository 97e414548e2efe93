-- Copies of the nets of margin units (own profile).
use Rattle.std.specs.Prelude.{ℤ, List, None, Option, Some}

-- the nets of a portfolio by a copy beside the lots: those of the lots where there is none
abbrev pub beside : List ℤ → Option (List ℤ) → List ℤ
beside lots None = lots
beside lots (Some nets) = nets
