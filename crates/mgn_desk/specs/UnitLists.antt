-- What is kept of the four portfolios of a margin unit by their nets alone.
use Rattle.std.specs.Prelude.{ℕ, ◌≡◌, ◌+ℤ◌, ℤ, pos, List, [], ◌∷◌, Option, Some, None, length, map, replicate, slice_index_or, slice_set}
use Rattle.std.specs.Borrow.{Bor}
use Rattle.std.specs.Option.{option_map}
use Rattle.mgn_params.specs.Tables.{Tables, contract_at}
use Rattle.mgn_span.specs.Scan.{value_at}
use Rattle.mgn_nets.specs.declared.portfolios.Portfolios.{Portfolios}
use Rattle.mgn_nets.specs.Portfolios.{UnitNets}
use Rattle.mgn_desk.specs.declared.moves.Moves.{Moves}
use Rattle.mgn_desk.specs.declared.own_rows.OwnRows.{OwnRows}
use Rattle.mgn_desk.specs.declared.portfolio.Portfolio.{Portfolio}
use Rattle.mgn_desk.specs.declared.portfolio.Portfolio.TheVariants.{Lots, WithBuys, WithSales, WithAll}
use Rattle.mgn_desk.specs.declared.step.Step.{Step}
use Rattle.mgn_desk.specs.declared.unit_lists.UnitLists.{UnitLists}
use Rattle.mgn_desk.specs.KeptRows.{IsRowStepped, KeptRow, delta_of, no_row, step_of}
use Rattle.mgn_desk.specs.Moved.{more_of}

-- Of four things, that of a portfolio.

abbrev pub one_of : {X : Type 0} → Portfolio → Portfolios X → X
one_of Lots four = four.lots
one_of WithBuys four = four.buys
one_of WithSales four = four.sales
one_of WithAll four = four.all

abbrev pub quantity_of : Portfolio → Moves → ℤ
quantity_of Lots m = m.lots
quantity_of WithBuys m = m.buys
quantity_of WithSales m = m.sales
quantity_of WithAll m = m.all

abbrev pub moves_alike : ℕ → ℤ → Moves
moves_alike i q = record { contract = i; lots = q; buys = q; sales = q; all = q }

abbrev pub moves_of_one : Portfolio → ℕ → ℤ → Moves
moves_of_one Lots i q = record { contract = i; lots = q; buys = pos 0; sales = pos 0; all = pos 0 }
moves_of_one WithBuys i q = record { contract = i; lots = pos 0; buys = q; sales = pos 0; all = pos 0 }
moves_of_one WithSales i q = record { contract = i; lots = pos 0; buys = pos 0; sales = q; all = pos 0 }
moves_of_one WithAll i q = record { contract = i; lots = pos 0; buys = pos 0; sales = pos 0; all = q }

-- the row that a portfolio has of its own
abbrev pub own_of : Portfolio → OwnRows → Option KeptRow
own_of Lots o = None
own_of WithBuys o = o.buys
own_of WithSales o = o.sales
own_of WithAll o = o.all

-- what an optional reference leads to
abbrev pub lent : {X : Type 0} → Option (Bor X) → Option X
lent o = option_map (λ b. b.now) o

abbrev pub no_own : OwnRows
no_own = record { buys = None; sales = None; all = None }

-- Lists of a portfolio: one net for each contract of a set, one delta for each month, one row for each commodity.

abbrev pub nets_in : Portfolio → UnitLists → List ℤ
nets_in w l = map (one_of w) l.nets

abbrev pub deltas_in : Portfolio → UnitLists → List ℤ
deltas_in w l = map (one_of w) l.deltas

-- a row of its own, or that of the lots
abbrev pub either_row : KeptRow → Option KeptRow → KeptRow
either_row r None = r
either_row r (Some own) = own

abbrev pub rows_shown : Portfolio → List KeptRow → List OwnRows → List KeptRow
rows_shown w [] owns = []
rows_shown w (r ∷ rows) [] = r ∷ rows_shown w rows []
rows_shown w (r ∷ rows) (o ∷ owns) = either_row r (own_of w o) ∷ rows_shown w rows owns

abbrev pub rows_in : Portfolio → UnitLists → List KeptRow
rows_in w l = rows_shown w l.rows l.own

-- the four things at a place
abbrev pub no_four : Portfolios ℤ
no_four = record { lots = pos 0; buys = pos 0; sales = pos 0; all = pos 0 }

abbrev pub four_at : List (Portfolios ℤ) → ℕ → Portfolios ℤ
four_at fours i = slice_index_or fours i no_four

abbrev pub own_at : UnitLists → ℕ → OwnRows
own_at l g = slice_index_or l.own g no_own

-- the row at a place, by the lists and in them
abbrev pub row_before : Portfolio → UnitLists → ℕ → KeptRow
row_before w l g = either_row (slice_index_or l.rows g no_row) (own_of w (own_at l g))

abbrev pub row_at : Portfolio → UnitLists → ℕ → KeptRow
row_at w l g = slice_index_or (rows_in w l) g no_row

-- as many as a set has
pub record AreLists (set : Tables) (l : UnitLists) : Type 0 where
  pub nets : length l.nets ≡ length set.contracts
  pub deltas : length l.deltas ≡ length set.months
  pub rows : length l.rows ≡ length set.commodities
  pub own : length l.own ≡ length set.commodities

-- of nets of 0
abbrev pub flat_lists : Tables → UnitLists
flat_lists set = record {
  nets = replicate (length set.contracts) no_four;
  deltas = replicate (length set.months) no_four;
  rows = replicate (length set.commodities) no_row;
  own = replicate (length set.commodities) no_own;
}

-- the nets of all four
abbrev pub nets_of_lists : UnitLists → UnitNets
nets_of_lists l = record {
  lots = nets_in Lots l;
  buys = nets_in WithBuys l;
  sales = nets_in WithSales l;
  all = nets_in WithAll l;
}

-- a portfolio has what the lots have, and no row of its own
pub record IsTogether (w : Portfolio) (l : UnitLists) : Type 0 where
  pub nets : nets_in w l ≡ nets_in Lots l
  pub deltas : deltas_in w l ≡ deltas_in Lots l
  pub none : (g : ℕ) → own_of w (own_at l g) ≡ None

-- A quantity more of a contract.

abbrev pub step_at : Tables → Portfolio → UnitLists → ℕ → ℤ → Step
step_at set w l i quantity =
    step_of (value_at (nets_in w l) i) (value_at (deltas_in w l) (contract_at set.contracts i).month) quantity

pub record IsFollowed (set : Tables) (i : ℕ) (quantity : ℤ) (w : Portfolio) (old new : UnitLists) : Type 0 where
  pub nets : nets_in w new ≡ more_of (nets_in w old) i quantity
  pub deltas : (let m = (contract_at set.contracts i).month in deltas_in w new ≡ slice_set (deltas_in w old) m (value_at (deltas_in w old) m +ℤ delta_of set i quantity))
  pub row : KeptRow
  pub rows : (let g = (contract_at set.contracts i).commodity in rows_in w new ≡ slice_set (rows_in w old) g row)
  pub stepped : IsRowStepped set i (row_at w old (contract_at set.contracts i).commodity) row (step_at set w old i quantity)
