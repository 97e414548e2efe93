-- How a statement keeps the lines of its commodities: those whose amounts fit in 64 bits by these, all others in a list of
-- their own.
use Rattle.std.specs.Prelude.{pos, ◌<◌, List, [], length, slice_index_or, FitsSigned}
use Rattle.std.specs.Int.{w64}
use Rattle.std.specs.List.{All}
use Rattle.mgn_machine.specs.declared.statement.CommodityLine.{CommodityLine}
use Rattle.mgn_machine.specs.declared.commodity_lines.StoredLine.{StoredLine}
use Rattle.mgn_machine.specs.declared.commodity_lines.StoredLine.TheVariants.{Narrow, Wide}

-- 64 bits hold each of the amounts
abbrev pub IsNarrow : CommodityLine → Type 0
IsNarrow g =
    FitsSigned w64 g.scan × (FitsSigned w64 g.intra
    × (FitsSigned w64 g.spot × (FitsSigned w64 g.credit × (FitsSigned w64 g.minimum × FitsSigned w64 g.risk))))

-- stands for the line past the end of a list, which no one asks for
abbrev pub no_line : CommodityLine
no_line = record {
  commodity = [];
  scan = pos 0;
  active = 0;
  intra = pos 0;
  spot = pos 0;
  credit = pos 0;
  minimum = pos 0;
  risk = pos 0;
}

-- the line that is stored
abbrev pub line_of : List CommodityLine → StoredLine → CommodityLine
line_of wide (Narrow commodity active scan intra spot credit minimum risk) = record {
  commodity = commodity;
  scan = scan;
  active = active;
  intra = intra;
  spot = spot;
  credit = credit;
  minimum = minimum;
  risk = risk;
}
line_of wide (Wide place) = slice_index_or wide place no_line

-- the list of wide lines has its place
abbrev pub IsPlaced : List CommodityLine → StoredLine → Type 0
IsPlaced wide (Narrow commodity active scan intra spot credit minimum risk) = Unit {0}
IsPlaced wide (Wide place) = place < length wide

-- every line is there, and the list of wide lines has none that fits in 64 bits
abbrev pub AreStored : List CommodityLine → List StoredLine → Type 0
AreStored wide stored = All (IsPlaced wide) stored × All (λ (g : CommodityLine). ¬ (IsNarrow g)) wide
