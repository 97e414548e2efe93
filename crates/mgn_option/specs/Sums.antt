-- Short option minimums, one for each commodity of a set in file order, and the net option value.
use Rattle.std.specs.Prelude.{ℕ, ◌*◌, ◌≡◌, ◌<◌, ◌≤◌, ◌^◌, ℤ, unsigned_abs, List, length, slice_index, All}
use Rattle.mgn_span.specs.Options.{net_option_value}
use Rattle.mgn_span.specs.Positions.{IsNet, positions}
use Rattle.mgn_span.specs.Requirement.{minimum}
use Rattle.mgn_span.specs.Words.{short_share_of}
use Rattle.mgn_params.specs.Tables.{Tables, commodity_at, contract_at}

-- at most 256 * 10^16: 256 contracts sold 10^7 times each, at a charge of at most 10^9 (own profile)
abbrev pub IsMinimum : ℕ → Type 0
IsMinimum cents = cents ≤ 256 * 10 ^ 16

-- at most 4,096 * 10^15 in size: 4,096 contracts at 10^7 each, with values of at most 10^8 (own profile)
abbrev pub IsOptionValue : ℤ → Type 0
IsOptionValue value = unsigned_abs value ≤ 4096 * 10 ^ 15

-- what a net of the contract at a place counts for in the minimum of its commodity, in cents (CME SPAN)
abbrev pub minimum_share : Tables → ℕ → ℤ → ℕ
minimum_share set i net =
    let contract = contract_at set.contracts i in
    short_share_of contract.commodity (commodity_at set.commodities contract.commodity).short_option_charge (contract, net)

pub record Sums : Type 0 where
  pub minimums : List ℕ
  pub value : ℤ

-- the minimums and the value are those of these nets under this set (CME SPAN), one net for each contract and within its
-- limit
pub record AreSums (set : Tables) (nets : List ℤ) (sums : Sums) : Type 0 where
  pub one_each : length nets ≡ length set.contracts
  pub small : All IsNet nets
  pub one_minimum_each : length sums.minimums ≡ length set.commodities
  pub each : (g : ℕ) → g < length set.commodities → slice_index sums.minimums g ≡ minimum set (positions set.contracts nets) g
  pub value_is : sums.value ≡ net_option_value (positions set.contracts nets)
