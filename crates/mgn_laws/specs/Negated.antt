-- Nets with every position negated.
use Rattle.std.specs.Prelude.{ℤ, neg_ℤ, List, map}

-- what was long is short, and what was short is long
abbrev pub negated : List ℤ → List ℤ
negated nets = map neg_ℤ nets
