-- What is kept of the commodities of a set by nets alone: a row for each of them.
use Rattle.std.specs.Prelude.{ℕ, ◌≡◌, ◌≢◌, ◌+◌, ◌-◌, ◌*◌, ◌<◌, ◌≤◌, ◌^◌, ℤ, pos, ◌+ℤ◌, ◌*ℤ◌, unsigned_abs, List, map}
use Rattle.mgn_params.specs.declared.tables.Month.{Month}
use Rattle.mgn_params.specs.Tables.{Tables, contract_at, month_at}
use Rattle.mgn_span.specs.Positions.{IsNet}
use Rattle.mgn_span.specs.Scan.{scan_risk, value_at}
use Rattle.mgn_span.specs.Sizes.{IsDelta, IsTotal}
use Rattle.mgn_scan.specs.Totals.{no_totals}
use Rattle.mgn_option.specs.Sums.{IsMinimum, Sums, minimum_share}
use Rattle.mgn_tiers.specs.Runs.{Tier}
use Rattle.mgn_tiers.specs.Tiers.{HasRoom, Tiers, moved, no_tier, run_of}
use Rattle.mgn_desk.specs.declared.step.Step.{Step}

-- what is kept of a commodity: the totals of its scenarios, its net delta and stages, and its option minimum
pub record KeptRow : Type 0 where
  pub scan : List ℤ
  pub tier : Tier
  pub minimum : ℕ

-- where nothing of it is held
abbrev pub no_row : KeptRow
no_row = record { scan = no_totals; tier = no_tier; minimum = 0 }

-- its risk before credits, in cents: the scan risk with the spreading and the spot charge (CME SPAN)
abbrev pub row_charge : KeptRow → ℤ
row_charge r = scan_risk (value_at r.scan) +ℤ pos r.tier.run.charged +ℤ pos r.tier.run.spot_charged

-- by rows, one for each commodity of a set in file order: their totals, their minimums with the option value, and the month
-- deltas with the net deltas and stages
abbrev pub totals_by : List KeptRow → List (List ℤ)
totals_by rows = map (λ (r : KeptRow). r.scan) rows

abbrev pub sums_by : List KeptRow → ℤ → Sums
sums_by rows value = record { minimums = map (λ (r : KeptRow). r.minimum) rows; value = value }

abbrev pub tiers_by : List KeptRow → List ℤ → Tiers
tiers_by rows deltas = record {
  deltas = deltas;
  net_deltas = map (λ (r : KeptRow). r.tier.net_delta) rows;
  runs = map (λ (r : KeptRow). r.tier.run) rows;
}

-- what a portfolio has of a contract, the delta of the contract's month there, and how much more of the contract it is to have
abbrev pub step_of : ℤ → ℤ → ℤ → Step
step_of net delta quantity = record { net = net; delta = delta; quantity = quantity }

-- A change of one net.

-- the month of the contract at a place, and the delta of a quantity of it
abbrev pub month_of : Tables → ℕ → Month
month_of set i = month_at set.months (contract_at set.contracts i).month

abbrev pub delta_of : Tables → ℕ → ℤ → ℤ
delta_of set i quantity = quantity *ℤ (contract_at set.contracts i).delta

-- the row of a contract's commodity has room for a quantity more of it, beside its net and the delta of its month
pub record HasRowRoom (set : Tables) (i : ℕ) (row : KeptRow) (s : Step) : Type 0 where
  pub net_small : IsNet s.net
  pub changed_small : IsNet (s.net +ℤ s.quantity)
  pub quantity_small : unsigned_abs s.quantity ≤ 2 * 10 ^ 7
  pub totals_small : (n : ℕ) → n < 16 → IsTotal (value_at row.scan n +ℤ s.quantity *ℤ value_at (contract_at set.contracts i).array n)
  pub counted : minimum_share set i s.net ≤ row.minimum
  pub minimum_small : IsMinimum (row.minimum - minimum_share set i s.net + minimum_share set i (s.net +ℤ s.quantity))
  pub delta_small : IsDelta (s.delta +ℤ delta_of set i s.quantity)
  pub net_delta_small : IsDelta (row.tier.net_delta +ℤ delta_of set i s.quantity)
  pub room : HasRoom row.tier.run (month_of set i).tier s.delta (s.delta +ℤ delta_of set i s.quantity)
  pub formed : row.tier.run ≡ run_of set (month_of set i).commodity row.tier.run.starts

-- the row after that
pub record IsRowMoved (set : Tables) (i : ℕ) (old new : KeptRow) (s : Step) : Type 0 where
  pub totals : (n : ℕ) → n < 16 → value_at new.scan n ≡ value_at old.scan n +ℤ s.quantity *ℤ value_at (contract_at set.contracts i).array n
  pub minimum : new.minimum ≡ old.minimum - minimum_share set i s.net + minimum_share set i (s.net +ℤ s.quantity)
  pub net_delta : new.tier.net_delta ≡ old.tier.net_delta +ℤ delta_of set i s.quantity
  pub run : new.tier.run ≡ moved set (month_of set i) old.tier.run s.delta (s.delta +ℤ delta_of set i s.quantity)

-- the same, but that a quantity of 0 leaves it as it was
pub record IsRowStepped (set : Tables) (i : ℕ) (old new : KeptRow) (s : Step) : Type 0 where
  pub still : s.quantity ≡ pos 0 → new ≡ old
  pub moved : s.quantity ≢ pos 0 → IsRowMoved set i old new s
