-- A desk that moves as its row does: for `foresee` and `take_back`.
use Rattle.std.proofs.Common.{◌≡◌, ◌<◌, ◌∙◌, ℕ, zero, suc, ℤ, pos, All, List, [], ◌∷◌, ◌++◌, length, get_or, sym, ap, subst, refl, arith, Option, Some, None, true, true≢false}
use Rattle.std.specs.Prelude.{◌+ℤ◌, is_some, neg_ℤ}
use Rattle.std.proofs.lemmas.Bool.Decides.{Decides-eqb}
use Rattle.std.proofs.lemmas.Int.{ints}
use Rattle.std.proofs.lemmas.List.{get_or-set_same, length-set}
use Rattle.mgn_params.specs.Tables.{Tables}
use Rattle.mgn_span.specs.Positions.{IsNet}
use Rattle.mgn_span.specs.Scan.{value_at}
use Rattle.mgn_nets.specs.Portfolios.{AreNets, AreUnitNets, UnitNets}
use Rattle.mgn_desk.specs.declared.desk.Marked.{Marked}
use Rattle.mgn_desk.specs.Desks.{CanMoveMarked, DeskRows, IsMarkedBy, MarkedNets, Requires, Shown, marked_nets, marked_with, moved_desk, moved_marked, shown}
use Rattle.mgn_desk.specs.Portfolios.{AreSmall, CanMove, moved_by, nets_of, opposite, requirements_of}
use Rattle.mgn_unit.specs.declared.change.Change.{Change}
use Rattle.mgn_unit.specs.declared.row.Row.{Row}
use Rattle.mgn_unit.specs.Rows.{IsChange, IsRoomy, IsRow, Priced, Prices, more_at, nets_in}
use Rattle.mgn_unit.proofs.RowNets.{row-nets}
use Rattle.mgn_plan.specs.Plans.{moved_nets}
use Rattle.mgn_pricing.specs.Desks.{CanGain, IsReady, is_of, moves_of}

-- a net that moves stays within its limit
pub net-moved : (nets : List ℤ) (i : ℕ) (quantity : ℤ) → i < length nets → All IsNet (more_at nets i quantity) → IsNet (value_at nets i +ℤ quantity)
net-moved nets i quantity inside small =
    subst IsNet (get_or-set_same nets i (value_at nets i +ℤ quantity) (pos 0) inside) (small i (pos 0) (omega (arith, length-set nets i (value_at nets i +ℤ quantity), inside)))

-- a desk can move as its nets can change
pub can_move : (set' : Tables) (version : ℕ) (nets : UnitNets) (change : Change) (now : Option Marked) → CanGain set' nets change → IsReady set' version nets now → CanMoveMarked (moves_of change) now
can_move set' version nets change None can ready = tt
can_move set' version nets change (Some m) can ready =
    subst (λ (n : UnitNets). CanMove (moves_of change) n) (sym ready.shows) record {
      lots = net-moved nets.lots change.contract change.lots.quantity (omega (arith, can.before.lots.one_each, can.contract)) can.after.lots.small;
      buys = net-moved nets.buys change.contract change.buys.quantity (omega (arith, can.before.buys.one_each, can.contract)) can.after.buys.small;
      sales = net-moved nets.sales change.contract change.sales.quantity (omega (arith, can.before.sales.one_each, can.contract)) can.after.sales.small;
      all = net-moved nets.all change.contract change.all.quantity (omega (arith, can.before.all.one_each, can.contract)) can.after.all.small;
    }

-- the nets of a row can change as the row can
more-nets : (set' : Tables) (nets : List ℤ) (i : ℕ) (quantity : ℤ) → length nets ≡ length set'.contracts → All IsNet (more_at nets i quantity) → AreNets set' (more_at nets i quantity)
more-nets set' nets i quantity one_each small = record { one_each = length-set nets i (value_at nets i +ℤ quantity) ∙ one_each; small = small }

pub row-gains : (set' : Tables) (row : Row) (change : Change) → IsRow set' row → IsChange set' change → IsRoomy change row → CanGain set' (nets_in row) change
row-gains set' row change is possible roomy = record {
  contract = possible.contract;
  before = row-nets set' row is;
  after = record {
    lots = more-nets set' row.lots.nets change.contract change.lots.quantity is.lots.one_each roomy.lots;
    buys = more-nets set' row.buys.nets change.contract change.buys.quantity is.buys.one_each roomy.buys;
    sales = more-nets set' row.sales.nets change.contract change.sales.quantity is.sales.one_each roomy.sales;
    all = more-nets set' row.all.nets change.contract change.all.quantity is.all.one_each roomy.all;
  };
}

pub is_marked : (set' : Tables) (version : ℕ) (nets : UnitNets) (now : Option Marked) → IsReady set' version nets now → IsMarkedBy set' now
is_marked set' version nets None ready = ready
is_marked set' version nets (Some m) ready = ready.of_set

abbrev nets_or : UnitNets → Option MarkedNets → UnitNets
nets_or d None = d
nets_or d (Some m) = m.nets

-- what a row requires after a change, by its nets then
pub prices-by : (set' : Tables) (row : Row) (change : Change) (p : Priced) → p ≡ requirements_of set' (moved_by (moves_of change) (nets_in row)) → AreSmall p → Prices set' change row p
prices-by set' row change p all small = record {
  lots = record { is = ap (λ (x : Priced). x.lots) all; small = small.lots };
  buys = record { is = ap (λ (x : Priced). x.buys) all; small = small.buys };
  sales = record { is = ap (λ (x : Priced). x.sales) all; small = small.sales };
  all = record { is = ap (λ (x : Priced). x.all) all; small = small.all };
}

-- what a desk requires after a change, by what its row then requires
pub priced-by : (set' : Tables) (version : ℕ) (row : Row) (change : Change) (before after : DeskRows) (p : Priced) → IsReady set' version (nets_in row) before.marked → shown after ≡ moved_desk (moves_of change) (shown before)
    → Requires set' after.marked p → AreSmall p → Prices set' change row p
priced-by set' version row change before after p ready moved required small = by before.marked after.marked ready (ap (λ (s : Shown). s.marked) moved) required
  where
    by : (b a : Option Marked) → IsReady set' version (nets_in row) b → marked_nets a ≡ moved_marked (moves_of change) (marked_nets b) → Requires set' a p → Prices set' change row p
    by None a is same told = absurd is
    by (Some b) None is same told = absurd told
    by (Some b) (Some a) is same told =
        let nets : nets_of a.portfolios ≡ moved_by (moves_of change) (nets_in row) =
        ap (nets_or (nets_of a.portfolios)) same ∙ ap (moved_by (moves_of change)) is.shows
        in
        prices-by set' row change p (told ∙ ap (requirements_of set') nets) small

-- Moving back.

pub net-back : (nets : List ℤ) (i : ℕ) (quantity : ℤ) → i < length nets → All IsNet nets → IsNet (value_at (more_at nets i quantity) i +ℤ neg_ℤ quantity)
net-back nets i quantity inside small =
    let there = get_or-set_same nets i (value_at nets i +ℤ quantity) (pos 0) inside in
    subst (λ (z : ℤ). IsNet (z +ℤ neg_ℤ quantity)) (sym there) (back (value_at nets i) (small i (pos 0) inside))
  where
    back : (z : ℤ) → IsNet z → IsNet ((z +ℤ quantity) +ℤ neg_ℤ quantity)
    back z is = omega (arith, ints, is)

pub can_move_back : (set' : Tables) (version : ℕ) (nets : UnitNets) (change : Change) (now : Option Marked) → change.contract < length set'.contracts → AreUnitNets set' nets → IsReady set' version (moved_nets change nets) now
    → CanMoveMarked (opposite (moves_of change)) now
can_move_back set' version nets change None inside before ready = tt
can_move_back set' version nets change (Some m) inside before ready =
    subst (λ (n : UnitNets). CanMove (opposite (moves_of change)) n) (sym ready.shows) record {
      lots = net-back nets.lots change.contract change.lots.quantity (omega (arith, before.lots.one_each, inside)) before.lots.small;
      buys = net-back nets.buys change.contract change.buys.quantity (omega (arith, before.buys.one_each, inside)) before.buys.small;
      sales = net-back nets.sales change.contract change.sales.quantity (omega (arith, before.sales.one_each, inside)) before.sales.small;
      all = net-back nets.all change.contract change.all.quantity (omega (arith, before.all.one_each, inside)) before.all.small;
    }

-- what a moved desk showed before
pub moved-shown : (set' : Tables) (version : ℕ) (row : Row) (change : Change) (now : DeskRows) → IsReady set' version (moved_nets change (nets_in row)) now.marked → shown now ≡ moved_desk (moves_of change) (marked_with now.unit version (nets_in row))
moved-shown set' version row change now ready = ap (λ (m : Option MarkedNets). record { unit = now.unit; marked = m }) (by now.marked ready)
  where
    by : (m : Option Marked) → IsReady set' version (moved_nets change (nets_in row)) m → marked_nets m ≡ Some record { version = version; nets = moved_by (moves_of change) (nets_in row) }
    by None is = absurd is
    by (Some m) is = λ j. Some record { version = is.under j; nets = is.shows j }

abbrev version_or : ℕ → Option MarkedNets → ℕ
version_or d None = d
version_or d (Some m) = m.version

pub ready-shown : (set' : Tables) (version unit : ℕ) (nets : UnitNets) (now : DeskRows) → IsMarkedBy set' now.marked → shown now ≡ marked_with unit version nets → IsReady set' version nets now.marked
ready-shown set' version unit nets now of_set is = by now.marked of_set (ap (λ (s : Shown). s.marked) is)
  where
    by : (m : Option Marked) → IsMarkedBy set' m → marked_nets m ≡ Some record { version = version; nets = nets } → IsReady set' version nets m
    by None of same = of
    by (Some m) of same = record { under = ap (version_or 0) same; of_set = of; shows = ap (nets_or nets) same }

pub of-version-shown : (version unit : ℕ) (nets : UnitNets) (now : DeskRows) → shown now ≡ marked_with unit version nets → is_of version now.marked ≡ true
of-version-shown version unit nets now is = by now.marked (ap (λ (s : Shown). s.marked) is)
  where
    by : (m : Option Marked) → marked_nets m ≡ Some record { version = version; nets = nets } → is_of version m ≡ true
    by None same = absurd (true≢false (sym (ap is_some same)))
    by (Some m) same = (Decides-eqb m.version version).1 (ap (version_or 0) same)

-- an empty desk more
pub marked-pushed : (desks : List DeskRows) (x d : DeskRows) (k : ℕ) → x.marked ≡ None → d.marked ≡ None → (get_or (desks ++ x ∷ []) k d).marked ≡ (get_or desks k d).marked
marked-pushed [] x d zero none empty = none ∙ sym empty
marked-pushed [] x d (suc k) none empty = refl
marked-pushed (y ∷ ys) x d zero none empty = refl
marked-pushed (y ∷ ys) x d (suc k) none empty = marked-pushed ys x d k none empty
