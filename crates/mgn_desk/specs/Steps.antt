-- A quantity more of a contract in each of the four portfolios of a margin unit.
use Rattle.std.specs.Prelude.{◌≡◌, ℤ, pos, ◌+ℤ◌, ◌*ℤ◌, ◌⊎◌, None}
use Rattle.mgn_num.specs.Amount.{IsQuantity}
use Rattle.mgn_span.specs.Sizes.{IsDelta}
use Rattle.mgn_nets.specs.declared.portfolios.Portfolios.{Portfolios}
use Rattle.mgn_desk.specs.declared.moves.Moves.{Moves}
use Rattle.mgn_desk.specs.declared.own_rows.OwnRows.{OwnRows}
use Rattle.mgn_desk.specs.declared.portfolio.Portfolio.{Portfolio}
use Rattle.mgn_desk.specs.declared.step.Step.{Step}
use Rattle.mgn_desk.specs.KeptRows.{step_of}
use Rattle.mgn_desk.specs.UnitLists.{own_of}

-- by moves, and by what the portfolios have of the contract and of its month
abbrev pub steps_of : Moves → Portfolios ℤ → Portfolios ℤ → Portfolios Step
steps_of m nets deltas = record {
  lots = step_of nets.lots deltas.lots m.lots;
  buys = step_of nets.buys deltas.buys m.buys;
  sales = step_of nets.sales deltas.sales m.sales;
  all = step_of nets.all deltas.all m.all;
}

-- nets, and deltas at a scaled delta for each contract, after steps
abbrev pub net_after : Step → ℤ
net_after s = s.net +ℤ s.quantity

abbrev pub delta_after : ℤ → Step → ℤ
delta_after delta s = s.delta +ℤ s.quantity *ℤ delta

abbrev pub nets_after : Portfolios Step → Portfolios ℤ
nets_after s = record { lots = net_after s.lots; buys = net_after s.buys; sales = net_after s.sales; all = net_after s.all }

abbrev pub deltas_after : ℤ → Portfolios Step → Portfolios ℤ
deltas_after delta s = record {
  lots = delta_after delta s.lots;
  buys = delta_after delta s.buys;
  sales = delta_after delta s.sales;
  all = delta_after delta s.all;
}

-- they are within their limits
pub record AreNetsRoomy (s : Portfolios Step) : Type 0 where
  pub lots : IsQuantity (net_after s.lots)
  pub buys : IsQuantity (net_after s.buys)
  pub sales : IsQuantity (net_after s.sales)
  pub all : IsQuantity (net_after s.all)

pub record AreDeltasRoomy (delta : ℤ) (s : Portfolios Step) : Type 0 where
  pub lots : IsDelta (delta_after delta s.lots)
  pub buys : IsDelta (delta_after delta s.buys)
  pub sales : IsDelta (delta_after delta s.sales)
  pub all : IsDelta (delta_after delta s.all)

-- a branch has the lots' row and moves as this does, or nothing moves
abbrev pub StaysAsLots : Portfolio → OwnRows → Step → Step → Type 0
StaysAsLots branch own lots step =
    ((own_of branch own ≡ None) × (step ≡ lots)) ⊎ ((step.quantity ≡ pos 0) × (lots.quantity ≡ pos 0))
