-- Desks in step with what their stamps show: for `apply`, `priced` and `take_back`.
use Rattle.std.proofs.Common.{◌≡◌, ◌∙◌, ◌<◌, ℕ, ℤ, List, length, refl, sym, ap, subst, Option, Some, None, IfSome}
use Rattle.std.specs.Prelude.{◌+ℤ◌}
use Rattle.std.proofs.lemmas.List.{length-set}
use Rattle.std.proofs.lemmas.List.Elements.{All-set}
use Rattle.mgn_params.specs.Tables.{Tables}
use Rattle.mgn_desk.specs.declared.desk.Marked.{Marked}
use Rattle.mgn_desk.specs.Desks.{CanMoveMarked, DeskRows, IsMarkedBy, MarkedNets, Requires, Shown, marked_nets, marked_with, moved_desk, shown}
use Rattle.mgn_desk.specs.Desks as desks
use Rattle.mgn_desk.specs.Portfolios as portfolios
use Rattle.mgn_desk.specs.Portfolios.{AreSmall, CanMove, moved_by, requirements_of}
use Rattle.mgn_desk.proofs.DeskLemmas.{marked_nets_are}
use Rattle.mgn_unit.specs.declared.change.Change.{Change}
use Rattle.mgn_unit.specs.declared.row.Row.{Row}
use Rattle.mgn_unit.specs.Rows.{Priced, Prices, more_at, nets_in}
use Rattle.mgn_span.specs.Positions.{IsNet}
use Rattle.mgn_span.specs.Scan.{value_at}
use Rattle.mgn_nets.specs.Portfolios.{AreNets, AreUnitNets, UnitNets}
use Rattle.mgn_plan.specs.declared.plans.UnitChange.{UnitChange}
use Rattle.mgn_plan.specs.Plans.{CanChange, moved_nets, row_at}
use Rattle.mgn_pricing.specs.Desks.{CanGain, IsReady, moves_of}
use Rattle.mgn_pricing.proofs.Moved.{prices-by, ready-shown, row-gains}
use Rattle.mgn_day.specs.Changes.{SameUnit}
use Rattle.mgn_day.specs.Days.{Day, nets_of, set_of, version_of}
use Rattle.mgn_unit_desk.specs.declared.sight.UnitMove.{UnitMove}
use Rattle.mgn_unit_desk.specs.UnitDesks.{IsInStep, IsOfDay, IsSight, SameMoves, moved_in}

-- what a moved desk showed before
moved-shown : (t : Tables) (version : ℕ) (nets : UnitNets) (change : Change) (now : DeskRows) → IsReady t version (moved_nets change nets) now.marked → shown now ≡ moved_desk (moves_of change) (marked_with now.unit version nets)
moved-shown t version nets change now ready = ap (λ (m : Option MarkedNets). record { unit = now.unit; marked = m }) (by now.marked ready)
  where
    by : (m : Option Marked) → IsReady t version (moved_nets change nets) m → marked_nets m ≡ Some record { version = version; nets = moved_by (moves_of change) nets }
    by None is = absurd is
    by (Some m) is = λ j. Some record { version = is.under j; nets = is.shows j }

-- a desk that took its moves back
pub back-ready : (t : Tables) (version : ℕ) (nets : UnitNets) (change : Change) (old new : DeskRows) → IsReady t version (moved_nets change nets) old.marked → IsMarkedBy t new.marked
    → ((before : Shown) → shown old ≡ moved_desk (moves_of change) before → shown new ≡ before) → IsReady t version nets new.marked
back-ready t version nets change old new ready of_set back =
    ready-shown t version old.unit nets new of_set (back (marked_with old.unit version nets) (moved-shown t version nets change old ready))

-- the same of the day that a stamp shows
pub of_day : (day : Day) (t : Tables) (version : ℕ) (u : UnitMove) (desk : DeskRows) → t ≡ set_of day → version ≡ version_of day → desk.unit ≡ u.unit → IsReady t version (nets_of day u.unit) desk.marked → IsOfDay day desk
of_day day t version u desk set_is version_is unit ready =
    subst (λ (s : Tables). IsReady s (version_of day) (nets_of day desk.unit) desk.marked) set_is
    (subst (λ (v : ℕ). IsReady t v (nets_of day desk.unit) desk.marked) version_is
    (subst (λ (k : ℕ). IsReady t version (nets_of day k) desk.marked) (sym unit) ready))

pub ready_of : (day : Day) (t : Tables) (version : ℕ) (u : UnitMove) (desk : DeskRows) → t ≡ set_of day → version ≡ version_of day → desk.unit ≡ u.unit → IsOfDay day desk → IsReady t version (nets_of day u.unit) desk.marked
ready_of day t version u desk set_is version_is unit of =
    subst (λ (k : ℕ). IsReady t version (nets_of day k) desk.marked) unit
    (subst (λ (v : ℕ). IsReady t v (nets_of day desk.unit) desk.marked) (sym version_is)
    (subst (λ (s : Tables). IsReady s (version_of day) (nets_of day desk.unit) desk.marked) (sym set_is) of))

-- changes that move as much leave the same nets
pub same-moved : (a b : Change) (n : UnitNets) → SameMoves a b → moved_nets a n ≡ moved_nets b n
same-moved a b n same = λ j. record {
  lots = more_at n.lots (same.contract j) (same.lots j);
  buys = more_at n.buys (same.contract j) (same.buys j);
  sales = more_at n.sales (same.contract j) (same.sales j);
  all = more_at n.all (same.contract j) (same.all j);
}

-- what a row requires after a change, by a desk that moved as much
pub priced-by : (t : Tables) (version : ℕ) (row : Row) (nets : UnitNets) (change now : Change) (marked : Option Marked) (p : Priced) → IsReady t version (moved_nets change nets) marked → SameMoves now change → nets_in row ≡ nets → Requires t marked p → AreSmall p → Prices t now row p
priced-by t version row nets change now None p ready moves same told small = absurd ready
priced-by t version row nets change now (Some m) p ready moves same told small =
    prices-by t row now p (told ∙ ap (requirements_of t) (ready.shows ∙ sym (same-moved now change nets moves) ∙ ap (moved_nets now) (sym same))) small

-- A look at a unit.
pub sighted : {T : Type 0} (shown : T → Day) (day : Day) (u : UnitChange) (version : ℕ) (t : Tables) (at_stamp : ℕ × T) (nets : Option UnitNets) → SameUnit (shown at_stamp.1) day u.unit → CanChange (set_of day) day.book.book.rows u
    → version ≡ version_of day → t ≡ set_of day → IfSome nets (λ n. n ≡ nets_of day u.unit) → IsSight shown (moved_in u) version t at_stamp nets
sighted shown day u version t at_stamp nets same can version_is set_is copied = record {
  version_is = version_is ∙ sym same.version;
  set_is = set_is ∙ sym same.set_is;
  can = subst (λ (x : Tables). CanGain x (nets_of (shown at_stamp.1) u.unit) u.change) (sym set_is)
      (subst (λ (n : UnitNets). CanGain (set_of day) n u.change) (sym same.nets) (row-gains (set_of day) (row_at (set_of day) day.book.book.rows u.unit) u.change can.row can.change can.roomy));
  copied = by nets copied;
}
  where
    by : (o : Option UnitNets) → IfSome o (λ n. n ≡ nets_of day u.unit) → IfSome o (λ n. n ≡ nets_of (shown at_stamp.1) u.unit)
    by None is = tt
    by (Some n) is = is ∙ sym same.nets

-- A sight by a desk in step.

-- nets with one more of a contract, where that net stays within its limit
more-small : (t : Tables) (nets : List ℤ) (i : ℕ) (quantity : ℤ) → AreNets t nets → IsNet (value_at nets i +ℤ quantity) → AreNets t (more_at nets i quantity)
more-small t nets i quantity are small = record { one_each = length-set nets i (value_at nets i +ℤ quantity) ∙ are.one_each; small = All-set IsNet nets i (value_at nets i +ℤ quantity) small are.small }

nets-more : (t : Tables) (nets : UnitNets) (change : Change) → AreUnitNets t nets → CanMove (moves_of change) nets → AreUnitNets t (moved_nets change nets)
nets-more t nets change are can = record {
  lots = more-small t nets.lots change.contract change.lots.quantity are.lots can.lots;
  buys = more-small t nets.buys change.contract change.buys.quantity are.buys can.buys;
  sales = more-small t nets.sales change.contract change.sales.quantity are.sales can.sales;
  all = more-small t nets.all change.contract change.all.quantity are.all can.all;
}

abbrev said : Option ℕ → ℕ
said None = 0
said (Some version) = version

pub foreseen : {T : Type 0} (shown : T → Day) (desk : DeskRows) (change : Change) (version : ℕ) (t : Tables) (at_stamp : ℕ × T) → IsInStep shown desk (Some at_stamp) → t ≡ set_of (shown at_stamp.1) → desks.version_of desk.marked ≡ Some version
    → change.contract < length t.contracts → CanMoveMarked (moves_of change) desk.marked → IsSight shown (record { unit = desk.unit; change = change }) version t at_stamp None
foreseen shown desk change version t at_stamp of set_is version_is contract can = by desk.marked of version_is can
  where
    day : Day
    day = shown at_stamp.1

    by : (m : Option Marked) → IsReady (set_of day) (version_of day) (nets_of day desk.unit) m → desks.version_of m ≡ Some version → CanMoveMarked (moves_of change) m → IsSight shown (record { unit = desk.unit; change = change }) version t at_stamp None
    by None of is can = absurd of
    by (Some m) of is can =
        let nets = nets_of day desk.unit in
        let before : AreUnitNets (set_of day) nets = subst (λ (n : UnitNets). AreUnitNets (set_of day) n) of.shows (marked_nets_are (set_of day) (Some m) (portfolios.nets_of m.portfolios) of.of_set refl) in
        let moves : CanMove (moves_of change) nets = subst (λ (n : UnitNets). CanMove (moves_of change) n) of.shows can in
        record {
          version_is = sym (ap said is) ∙ of.under;
          set_is = set_is;
          can = subst (λ (x : Tables). CanGain x nets change) (sym set_is) record {
            contract = subst (λ (x : Tables). change.contract < length x.contracts) set_is contract;
            before = before;
            after = nets-more (set_of day) nets change before moves;
          };
          copied = tt;
        }
