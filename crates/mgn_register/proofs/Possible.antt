-- The changes of plans are within the limits: for the plans of all commands.
use Rattle.std.proofs.Common.{◌≡◌, ◌<◌, ⊎_elim, ℕ, List, length, Ok, false, true, eq-eqb, ne_eqb, sym}
use Rattle.std.proofs.lemmas.Bool.{cases_eq}
use Rattle.mgn_params.specs.Limits.{IsWithinLimits}
use Rattle.mgn_params.specs.Tables.{Tables}
use Rattle.mgn_lots.specs.Lots.{is_live, lot_at}
use Rattle.mgn_holds.specs.Holds.{covers, hold_at}
use Rattle.mgn_machine.specs.declared.command.Fill.{Fill}
use Rattle.mgn_machine.specs.declared.command.Hold.{Hold}
use Rattle.mgn_machine.specs.declared.command.Trade.{Trade}
use Rattle.mgn_machine.specs.State.{account_at}
use Rattle.mgn_machine.specs.Refusals.{contract_of, is_over}
use Rattle.mgn_unit.specs.declared.change.Change.{Change}
use Rattle.mgn_unit.specs.declared.row.Row.{Row}
use Rattle.mgn_unit.specs.Changes.{bust_change, fill_change, hold_change, lot_change, release_change}
use Rattle.mgn_unit.specs.Rows.{IsChange, IsRoomy}
use Rattle.mgn_register.specs.BookStates.{BookState, IsKept}
use Rattle.mgn_plan.specs.declared.plans.UnitChange.{UnitChange}
use Rattle.mgn_plan.specs.Plans.{CanChange, IsPossible, both_plan, in_unit_of, row_at}
use Rattle.mgn_register.proofs.Busts.{Busting, bust-roomy}
use Rattle.mgn_register.proofs.Holding.{Reads, fill-roomy, hold-roomy, old-row, release-roomy}
use Rattle.mgn_register.proofs.Kept.{unit-inside}
use Rattle.mgn_register.proofs.Trades.{Trading, trade-roomy}
use Rattle.mgn_register.proofs.Moving.{reads-there}

possible-by : (set' : Tables) (f : BookState) (k i : ℕ) (contract : List ℕ) (change : Change) → Reads set' f k i (account_at f.state.accounts k) (row_at set' f.rows (account_at f.state.accounts k).unit) contract
    → IsChange set' change → IsRoomy change (row_at set' f.rows (account_at f.state.accounts k).unit) → CanChange set' f.rows (in_unit_of f.state k change)
possible-by set' f k i contract change reads is roomy =
    let a = account_at f.state.accounts k in
    record {
      inside = unit-inside set' f k a reads.kept reads.account reads.was;
      row = (old-row set' f k i a (row_at set' f.rows a.unit) contract reads).limits;
      change = is;
      roomy = roomy;
    }

pub trade-possible : (set' : Tables) (f : BookState) (k i : ℕ) (t : Trade) → IsWithinLimits set' → IsKept set' f → k < length f.state.accounts → contract_of set' t.contract ≡ Ok i → is_over f.state k t.contract t.quantity ≡ false
    → IsChange set' (lot_change i t.quantity t.premium) → CanChange set' f.rows (in_unit_of f.state k (lot_change i t.quantity t.premium))
trade-possible set' f k i t within kept there stands room is =
    let reads = reads-there set' f k i t.contract within kept there stands in
    let a = account_at f.state.accounts k in
    let trading : Trading set' f k i a (row_at set' f.rows a.unit) t =
    record { within = within; kept = kept; account = there; was = reads.was; row = reads.row; stands = stands; room = room }
    in
    possible-by set' f k i t.contract (lot_change i t.quantity t.premium) reads is (trade-roomy set' f k i a (row_at set' f.rows a.unit) t trading)

pub bust-possible : (set' : Tables) (f : BookState) (k at i : ℕ) → IsWithinLimits set' → IsKept set' f → k < length f.state.accounts → at < length (account_at f.state.accounts k).lots → is_live (lot_at (account_at f.state.accounts k).lots at).mark ≡ true
    → contract_of set' (lot_at (account_at f.state.accounts k).lots at).contract ≡ Ok i → IsChange set' (bust_change i (lot_at (account_at f.state.accounts k).lots at)) → CanChange set' f.rows (in_unit_of f.state k (bust_change i (lot_at (account_at f.state.accounts k).lots at)))
bust-possible set' f k at i within kept there lot live stands is =
    let a = account_at f.state.accounts k in
    let x = lot_at a.lots at in
    let reads = reads-there set' f k i x.contract within kept there stands in
    let busting : Busting set' f k at i a (row_at set' f.rows a.unit) =
    record { within = within; kept = kept; account = there; was = reads.was; row = reads.row; lot = lot; live = live; stands = stands }
    in
    possible-by set' f k i x.contract (bust_change i x) reads is (bust-roomy set' f k at i a (row_at set' f.rows a.unit) busting)

pub hold-possible : (set' : Tables) (f : BookState) (k i : ℕ) (h : Hold) → IsWithinLimits set' → IsKept set' f → k < length f.state.accounts → contract_of set' h.contract ≡ Ok i → is_over f.state k h.contract h.quantity ≡ false
    → IsChange set' (hold_change i h.quantity h.limit) → CanChange set' f.rows (in_unit_of f.state k (hold_change i h.quantity h.limit))
hold-possible set' f k i h within kept there stands room is =
    let reads = reads-there set' f k i h.contract within kept there stands in
    let a = account_at f.state.accounts k in
    possible-by set' f k i h.contract (hold_change i h.quantity h.limit) reads is (hold-roomy set' f k i a (row_at set' f.rows a.unit) h reads room)

pub fill-possible : (set' : Tables) (f : BookState) (k i j : ℕ) (y : Fill) → IsWithinLimits set' → IsKept set' f → k < length f.state.accounts → j < length (account_at f.state.accounts k).holds → covers (hold_at (account_at f.state.accounts k).holds j) y.quantity ≡ true
    → contract_of set' (hold_at (account_at f.state.accounts k).holds j).contract ≡ Ok i → IsChange set' (fill_change i y.quantity (hold_at (account_at f.state.accounts k).holds j).limit y.premium)
    → CanChange set' f.rows (in_unit_of f.state k (fill_change i y.quantity (hold_at (account_at f.state.accounts k).holds j).limit y.premium))
fill-possible set' f k i j y within kept there held covered stands is =
    let a = account_at f.state.accounts k in
    let x = hold_at a.holds j in
    let reads = reads-there set' f k i x.contract within kept there stands in
    possible-by set' f k i x.contract (fill_change i y.quantity x.limit y.premium) reads is (fill-roomy set' f k i j a (row_at set' f.rows a.unit) y reads held covered)

pub release-possible : (set' : Tables) (f : BookState) (k i j : ℕ) → IsWithinLimits set' → IsKept set' f → k < length f.state.accounts → j < length (account_at f.state.accounts k).holds
    → contract_of set' (hold_at (account_at f.state.accounts k).holds j).contract ≡ Ok i → IsChange set' (release_change i (hold_at (account_at f.state.accounts k).holds j).quantity (hold_at (account_at f.state.accounts k).holds j).limit)
    → CanChange set' f.rows (in_unit_of f.state k (release_change i (hold_at (account_at f.state.accounts k).holds j).quantity (hold_at (account_at f.state.accounts k).holds j).limit))
release-possible set' f k i j within kept there held stands is =
    let a = account_at f.state.accounts k in
    let x = hold_at a.holds j in
    let reads = reads-there set' f k i x.contract within kept there stands in
    possible-by set' f k i x.contract (release_change i x.quantity x.limit) reads is (release-roomy set' f k i j a (row_at set' f.rows a.unit) reads held)

pub both-possible : (set' : Tables) (rows : List Row) (u v : UnitChange) → CanChange set' rows u → CanChange set' rows v → IsPossible set' rows (both_plan u v)
both-possible set' rows u v given taken =
    ⊎_elim (λ same. rw (eq-eqb u.unit v.unit same) tt) (λ apart. rw (ne_eqb u.unit v.unit apart) (given, taken, λ same. apart (sym same))) (cases_eq u.unit v.unit)
