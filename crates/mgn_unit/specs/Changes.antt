-- What commands change in the rows of a unit, in one contract.
use Rattle.std.specs.Prelude.{ℕ, ◌≡◌, Bool, ℤ, pos, neg_ℤ, ◌+ℤ◌, ◌*ℤ◌, unsigned_abs, if◌then◌else◌, List}
use Rattle.std.specs.Str.{bytes_eq}
use Rattle.mgn_params.specs.Tables.{Tables}
use Rattle.mgn_lots.specs.declared.lot.Lot.{Lot}
use Rattle.mgn_holds.specs.Holds.{is_buy}
use Rattle.mgn_machine.specs.State.{AccountState}
use Rattle.mgn_machine.specs.Portfolios.{Portfolio, OnlyLots, WithBuys, WithSales, WithAll, account_net, account_size, account_worth}
use Rattle.mgn_unit.specs.declared.change.Change.{Change}
use Rattle.mgn_unit.specs.declared.change.Gain.{Gain}

-- what a portfolio gains
abbrev pub gain_of : Change → Portfolio → Gain
gain_of change OnlyLots = change.lots
gain_of change WithBuys = change.buys
gain_of change WithSales = change.sales
gain_of change WithAll = change.all

-- the same gain in every portfolio
abbrev pub gain : ℤ → ℤ → Gain
gain quantity worth = record { quantity = quantity; worth = worth }

-- what a lot more changes: each portfolio gains its quantity, and loses what it cost
abbrev pub lot_change : ℕ → ℤ → ℕ → Change
lot_change i quantity premium =
    let each = gain quantity (neg_ℤ (quantity *ℤ pos premium)) in
    record { contract = i; size = pos (unsigned_abs quantity); lots = each; buys = each; sales = each; all = each }

-- what a moved lot more changes: each portfolio gains its quantity, at no cost
abbrev pub moved_change : ℕ → ℤ → Change
moved_change i quantity =
    let each = gain quantity (pos 0) in
    record { contract = i; size = pos (unsigned_abs quantity); lots = each; buys = each; sales = each; all = each }

-- what a busted lot changes: the opposite
abbrev pub bust_change : ℕ → Lot → Change
bust_change i x =
    let each = gain (neg_ℤ x.quantity) (x.quantity *ℤ pos x.premium) in
    let size = neg_ℤ (pos (unsigned_abs x.quantity)) in
    record { contract = i; size = size; lots = each; buys = each; sales = each; all = each }

-- one account changed as the change says, by the name of its contract
pub record Moves (set : Tables) (contract : List ℕ) (change : Change) (a b : AccountState) : Type 0 where
  pub unit : b.unit ≡ a.unit
  pub size : (c : List ℕ)
      → account_size c b ≡ account_size c a +ℤ (if bytes_eq contract c then change.size else pos 0)
  pub net : (p : Portfolio) (c : List ℕ)
      → account_net p c b
      ≡ account_net p c a +ℤ (if bytes_eq contract c then (gain_of change p).quantity else pos 0)
  pub worth : (p : Portfolio) → account_worth set p b ≡ account_worth set p a +ℤ (gain_of change p).worth

-- one account changed in nothing but its worth
pub record MovesWorth (set : Tables) (amount : ℤ) (a b : AccountState) : Type 0 where
  pub unit : b.unit ≡ a.unit
  pub size : (c : List ℕ) → account_size c b ≡ account_size c a
  pub net : (p : Portfolio) (c : List ℕ) → account_net p c b ≡ account_net p c a
  pub worth : (p : Portfolio) → account_worth set p b ≡ account_worth set p a +ℤ amount

-- one gain for the two portfolios that count what is held on a side, another for the two that do not
abbrev pub held_change : ℕ → ℤ → Bool → Gain → Gain → Change
held_change i size buys apart own = record {
  contract = i;
  size = size;
  lots = apart;
  buys = if buys then own else apart;
  sales = if buys then apart else own;
  all = own;
}

-- what a hold more changes: where it counts it is a lot at its limit
abbrev pub hold_change : ℕ → ℤ → ℕ → Change
hold_change i quantity limit =
    let own = gain quantity (neg_ℤ (quantity *ℤ pos limit)) in
    held_change i (pos (unsigned_abs quantity)) (is_buy quantity) (gain (pos 0) (pos 0)) own

-- what a hold less changes
abbrev pub release_change : ℕ → ℤ → ℕ → Change
release_change i quantity limit =
    let own = gain (neg_ℤ quantity) (quantity *ℤ pos limit) in
    held_change i (neg_ℤ (pos (unsigned_abs quantity))) (is_buy quantity) (gain (pos 0) (pos 0)) own

-- what a fill changes: a lot more, and where its hold counts as much less of it
abbrev pub fill_change : ℕ → ℤ → ℕ → ℕ → Change
fill_change i quantity limit premium =
    let paid = neg_ℤ (quantity *ℤ pos premium) in
    held_change i (pos 0) (is_buy quantity) (gain quantity paid) (gain (pos 0) (paid +ℤ quantity *ℤ pos limit))
