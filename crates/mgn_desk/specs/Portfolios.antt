-- The four portfolios of a margin unit under one set.
use Rattle.std.specs.Prelude.{ℕ, ◌≡◌, ◌≤◌, ◌+◌, ◌^◌, if◌then◌else◌, true, false, ℤ, neg_ℤ, ◌+ℤ◌, unsigned_abs}
use Rattle.mgn_params.specs.Tables.{Tables}
use Rattle.mgn_span.specs.Positions.{IsNet}
use Rattle.mgn_span.specs.Requirement.{requirement}
use Rattle.mgn_span.specs.Scan.{value_at}
use Rattle.mgn_nets.specs.declared.portfolios.Portfolios.{Portfolios}
use Rattle.mgn_nets.specs.Portfolios.{UnitNets}
use Rattle.mgn_desk.specs.declared.moves.Moves.{Moves}
use Rattle.mgn_desk.specs.declared.branch.Branch.{Branch}
use Rattle.mgn_desk.specs.declared.unit_portfolios.UnitPortfolios.{UnitPortfolios}
use Rattle.mgn_desk.specs.declared.figures.Figures.{Figures}
use Rattle.mgn_desk.specs.declared.portfolio.Portfolio.{Portfolio}
use Rattle.mgn_desk.specs.declared.portfolio.Portfolio.TheVariants.{Lots, WithBuys, WithSales, WithAll}
use Rattle.mgn_desk.specs.declared.unit_lists.UnitLists.{UnitLists}
use Rattle.mgn_desk.specs.UnitLists.{AreLists, IsTogether, flat_lists, nets_of_lists}
use Rattle.mgn_desk.specs.WorkedPortfolios.{AreFigures, AreFlatFigures, IsPortfolio, worked}
use Rattle.mgn_desk.specs.Moved.{arrays_of_quantity, more_of}

-- the figures of a branch: its own where it is apart, else those of the lots
abbrev pub figures_of : Figures → Branch → Figures
figures_of lots b = if b.apart then b.own else lots

abbrev pub nets_of : UnitPortfolios → UnitNets
nets_of p = nets_of_lists p.lists

-- each has the rows that a set asks for
pub record AreRows (set : Tables) (p : UnitPortfolios) : Type 0 where
  pub lists : AreLists set p.lists
  pub lots : AreFigures set p.lots
  pub buys : AreFigures set p.buys.own
  pub sales : AreFigures set p.sales.own
  pub all : AreFigures set p.all.own

-- nothing is held, and no figures of a branch count
pub record AreFlat (set : Tables) (p : UnitPortfolios) : Type 0 where
  pub lists : p.lists ≡ flat_lists set
  pub lots : AreFlatFigures set p.lots
  pub buys : AreFigures set p.buys.own
  pub sales : AreFigures set p.sales.own
  pub all : AreFigures set p.all.own

-- a branch has the rows that this set asks for; where it is apart it is kept under the set, and else it has what the lots have
pub record IsUnder (set : Tables) (w : Portfolio) (l : UnitLists) (b : Branch) : Type 0 where
  pub rows : AreFigures set b.own
  pub own : b.apart ≡ true → IsPortfolio set (worked w l b.own)
  pub together : b.apart ≡ false → IsTogether w l

-- each is kept under this set
pub record ArePortfolios (set : Tables) (p : UnitPortfolios) : Type 0 where
  pub lists : AreLists set p.lists
  pub lots : IsPortfolio set (worked Lots p.lists p.lots)
  pub buys : IsUnder set WithBuys p.lists p.buys
  pub sales : IsUnder set WithSales p.lists p.sales
  pub all : IsUnder set WithAll p.lists p.all

-- those that are not apart move as the lots
pub record AreParted (m : Moves) (p : UnitPortfolios) : Type 0 where
  pub buys : p.buys.apart ≡ false → m.buys ≡ m.lots
  pub sales : p.sales.apart ≡ false → m.sales ≡ m.lots
  pub all : p.all.apart ≡ false → m.all ≡ m.lots

-- of three branches, with buys, with sales and with all, those that have the nets of the lots are not apart
pub record AreTogether (n : UnitNets) (three : Branch × Branch × Branch) : Type 0 where
  pub buys : n.buys ≡ n.lots → three.0.apart ≡ false
  pub sales : n.sales ≡ n.lots → three.1.apart ≡ false
  pub all : n.all ≡ n.lots → three.2.apart ≡ false

-- those that move as the lots are apart only if they were
pub record KeepsTogether (m : Moves) (old new : UnitPortfolios) : Type 0 where
  pub buys : m.buys ≡ m.lots → new.buys.apart ≡ old.buys.apart
  pub sales : m.sales ≡ m.lots → new.sales.apart ≡ old.sales.apart
  pub all : m.all ≡ m.lots → new.all.apart ≡ old.all.apart

-- those are apart that were
pub record StaysApart (old new : UnitPortfolios) : Type 0 where
  pub buys : new.buys.apart ≡ old.buys.apart
  pub sales : new.sales.apart ≡ old.sales.apart
  pub all : new.all.apart ≡ old.all.apart

-- the nets after moves
abbrev pub moved_by : Moves → UnitNets → UnitNets
moved_by m n = record {
  lots = more_of n.lots m.contract m.lots;
  buys = more_of n.buys m.contract m.buys;
  sales = more_of n.sales m.contract m.sales;
  all = more_of n.all m.contract m.all;
}

-- and they are within their limits
pub record CanMove (m : Moves) (n : UnitNets) : Type 0 where
  pub lots : IsNet (value_at n.lots m.contract +ℤ m.lots)
  pub buys : IsNet (value_at n.buys m.contract +ℤ m.buys)
  pub sales : IsNet (value_at n.sales m.contract +ℤ m.sales)
  pub all : IsNet (value_at n.all m.contract +ℤ m.all)

-- the opposite moves
abbrev pub opposite : Moves → Moves
opposite m = record {
  contract = m.contract;
  lots = neg_ℤ m.lots;
  buys = neg_ℤ m.buys;
  sales = neg_ℤ m.sales;
  all = neg_ℤ m.all;
}

-- how many risk arrays they read: one for each portfolio that they change
abbrev pub arrays_of : Moves → ℕ
arrays_of m =
    arrays_of_quantity m.lots + arrays_of_quantity m.buys + arrays_of_quantity m.sales + arrays_of_quantity m.all

-- at most 10^30 each
pub record AreSmall (r : Portfolios ℤ) : Type 0 where
  pub lots : unsigned_abs r.lots ≤ 10 ^ 30
  pub buys : unsigned_abs r.buys ≤ 10 ^ 30
  pub sales : unsigned_abs r.sales ≤ 10 ^ 30
  pub all : unsigned_abs r.all ≤ 10 ^ 30

-- what each requires
abbrev pub requirements_of : Tables → UnitNets → Portfolios ℤ
requirements_of set n = record {
  lots = requirement set n.lots;
  buys = requirement set n.buys;
  sales = requirement set n.sales;
  all = requirement set n.all;
}
