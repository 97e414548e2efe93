-- Rows of units that have nothing: for a new unit.
use Rattle.std.proofs.Common.{◌≡◌, ℕ, ◌≤◌, ◌^◌, length, replicate, unsigned_abs, arith, All, ℤ, pos, ⊎_elim}
use Rattle.std.proofs.lemmas.Bool.{cases_lt}
use Rattle.std.proofs.lemmas.Int.{ints}
use Rattle.std.proofs.lemmas.List.{get_or-replicate, get_or_past, length-replicate}
use Rattle.std.proofs.lemmas.List.Elements.{All-replicate, All-set}
use Rattle.mgn_span.specs.Positions.{IsNet}
use Rattle.mgn_span.specs.Scan.{value_at}
use Rattle.mgn_params.specs.Tables.{Tables}
use Rattle.mgn_unit.specs.declared.change.Change.{Change}
use Rattle.mgn_unit.specs.Rows.{IsChange, IsRow, IsRoomy, IsPortfolioRow, more_at, no_row, no_portfolio}

pub flat_nets : (n : ℕ) → All IsNet (replicate n (pos 0))
flat_nets n = All-replicate IsNet n (pos 0) (omega arith)

pub flat_portfolio : (set' : Tables) → IsPortfolioRow set' (no_portfolio set')
flat_portfolio set' = record {
  one_each = length-replicate (length set'.contracts) (pos 0);
  nets = flat_nets (length set'.contracts);
  worth = omega arith;
  requirement = omega arith;
}

pub flat_row : (set' : Tables) → IsRow set' (no_row set')
flat_row set' = record {
  one_each = length-replicate (length set'.contracts) (pos 0);
  sizes = flat_nets (length set'.contracts);
  lots = flat_portfolio set';
  buys = flat_portfolio set';
  sales = flat_portfolio set';
  all = flat_portfolio set';
}

zero_at : (n i : ℕ) → value_at (replicate n (pos 0)) i ≡ pos 0
zero_at n i =
    ⊎_elim
    (λ inside. get_or-replicate {A = ℤ} n i (pos 0) (pos 0) inside)
    (λ past. get_or_past {X = ℤ} (replicate {A = ℤ} n (pos 0)) i (pos 0) (omega (arith, length-replicate {A = ℤ} n (pos 0))))
    (cases_lt i n)

-- nets of 0 with a quantity within the limit more
pub flat_more : (n i : ℕ) (quantity : ℤ) → unsigned_abs quantity ≤ 10 ^ 7 → All IsNet (more_at (replicate n (pos 0)) i quantity)
flat_more n i quantity small =
    All-set IsNet (replicate n (pos 0)) i _ (rw (zero_at n i) (omega (arith, ints, small))) (flat_nets n)

-- a first change always has room
pub flat_roomy : (set' : Tables) (change : Change) → IsChange set' change → IsRoomy change (no_row set')
flat_roomy set' change limits =
    let n = length set'.contracts in
    record {
      sizes = flat_more n change.contract change.size limits.size;
      lots = flat_more n change.contract change.lots.quantity limits.lots.quantity;
      buys = flat_more n change.contract change.buys.quantity limits.buys.quantity;
      sales = flat_more n change.contract change.sales.quantity limits.sales.quantity;
      all = flat_more n change.contract change.all.quantity limits.all.quantity;
    }
