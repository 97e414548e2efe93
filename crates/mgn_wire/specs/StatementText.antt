-- The text of a statement, line by line (own format).
use Rattle.std.specs.Prelude.{ℕ, ◌+◌, List, ◌++◌, length, codes}
use Rattle.std.specs.List.{flat_map}
use Rattle.mgn_lots.specs.declared.lot.Lot.{Lot}
use Rattle.mgn_lots.specs.declared.lot.Mark.{Mark}
use Rattle.mgn_lots.specs.declared.lot.Mark.TheVariants.{Traded, Moved, Busted}
use Rattle.mgn_holds.specs.declared.held.Held.{Held}
use Rattle.mgn_machine.specs.declared.command.Mode.{Mode}
use Rattle.mgn_machine.specs.declared.command.Mode.TheVariants.{Gross, Net}
use Rattle.mgn_machine.specs.declared.statement.ClassLine.{ClassLine}
use Rattle.mgn_machine.specs.declared.statement.CommodityLine.{CommodityLine}
use Rattle.mgn_machine.specs.declared.statement.Heading.{Heading}
use Rattle.mgn_machine.specs.Statements.{Told}
use Rattle.mgn_wire.specs.Fields.{field, figures_text, number_text}

-- a name after a space
abbrev pub name_text : List ℕ → List ℕ
name_text name = codes " " ++ name

abbrev pub mode_text : Mode → List ℕ
mode_text Gross = codes " GROSS"
mode_text Net = codes " NET"

-- T of a lot that was traded, M of one that was moved; a statement has no busted ones
abbrev pub mark_text : Mark → List ℕ
mark_text Traded = codes " T"
mark_text Moved = codes " M"
mark_text Busted = codes " B"

-- whose statement it is, and under which set
abbrev pub account_line : Heading → List ℕ
account_line h = codes "S" ++ name_text h.account ++ name_text h.origin ++ mode_text h.mode ++ name_text h.set ++ number_text h.version ++ codes "\n"

abbrev pub figures_line : Heading → List ℕ
figures_line h = codes "F" ++ figures_text h.figures ++ field h.call ++ codes "\n"

-- what spreads and the spot month charge, the credit, the minimum and the risk of a commodity
abbrev pub charges_text : CommodityLine → List ℕ
charges_text g = field g.intra ++ field g.spot ++ field g.credit ++ field g.minimum ++ field g.risk

abbrev pub commodity_text : CommodityLine → List ℕ
commodity_text g = codes "G" ++ name_text g.commodity ++ field g.scan ++ number_text g.active ++ charges_text g ++ codes "\n"

abbrev pub option_line : Heading → List ℕ
option_line h = codes "N" ++ field h.option_value ++ codes "\n"

abbrev pub lot_text : Lot → List ℕ
lot_text x = codes "L" ++ number_text x.number ++ name_text x.contract ++ field x.quantity ++ number_text x.premium ++ mark_text x.mark ++ codes "\n"

abbrev pub hold_text : Held → List ℕ
hold_text x = codes "O" ++ number_text x.order ++ name_text x.contract ++ field x.quantity ++ number_text x.limit ++ codes "\n"

abbrev pub cash_line : Heading → List ℕ
cash_line h = codes "C CASH" ++ number_text h.cash ++ codes "\n"

abbrev pub class_text : ClassLine → List ℕ
class_text c = codes "C" ++ name_text c.class ++ number_text c.units ++ number_text c.value ++ codes "\n"

-- how many lines there are
abbrev pub line_count : Told → ℕ
line_count told = 4 + length told.commodities + length told.lots + length told.holds + length told.classes

-- the lines of the account's unit: its figures, its commodities and its net option value
unfoldable pub unit_lines : Told → List ℕ
unit_lines told = figures_line told.heading ++ flat_map commodity_text told.commodities ++ option_line told.heading

-- the lines of the account itself: its live lots, its holds and its collateral
unfoldable pub own_lines : Told → List ℕ
own_lines told =
    flat_map lot_text told.lots ++ flat_map hold_text told.holds ++ cash_line told.heading ++ flat_map class_text told.classes

unfoldable pub statement_text : Told → List ℕ
statement_text told = account_line told.heading ++ unit_lines told ++ own_lines told
