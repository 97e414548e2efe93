-- Lists that have followed moves, portfolio by portfolio: for `UnitLists::follow`.
use Rattle.std.proofs.Common.{◌≡◌, ◌≢◌, ◌<◌, ◌∙◌, ℕ, ℤ, List, ap, arith, get_or, get_or-set_other, get_or-set_same, length, length-set, map, refl, set, sym, subst, Option, None, ⊎_elim}
use Rattle.std.specs.Prelude.{◌+ℤ◌}
use Rattle.std.proofs.lemmas.Bool.{cases_eq}
use Rattle.std.proofs.lemmas.Int.{ints}
use Rattle.std.proofs.lemmas.List.{map-set}
use Rattle.mgn_num.specs.Amount.{IsQuantity}
use Rattle.mgn_params.specs.Limits.{IsWithinLimits}
use Rattle.mgn_params.specs.declared.tables.Contract.{Contract}
use Rattle.mgn_params.specs.Tables.{Tables, contract_at}
use Rattle.mgn_span.specs.Positions.{IsNet}
use Rattle.mgn_span.specs.Scan.{value_at}
use Rattle.mgn_span.specs.Sizes.{IsDelta}
use Rattle.mgn_nets.specs.declared.portfolios.Portfolios.{Portfolios}
use Rattle.mgn_desk.specs.declared.figures.Figures.{Figures}
use Rattle.mgn_desk.specs.declared.moves.Moves.{Moves}
use Rattle.mgn_desk.specs.declared.own_rows.OwnRows.{OwnRows}
use Rattle.mgn_desk.specs.declared.portfolio.Portfolio.{Portfolio}
use Rattle.mgn_desk.specs.declared.portfolio.Portfolio.TheVariants.{Lots, WithBuys, WithSales, WithAll}
use Rattle.mgn_desk.specs.declared.step.Step.{Step}
use Rattle.mgn_desk.specs.declared.unit_lists.UnitLists.{UnitLists}
use Rattle.mgn_desk.specs.KeptRows.{HasRowRoom, IsRowStepped, KeptRow, delta_of, no_row, step_of}
use Rattle.mgn_desk.specs.Moved.{more_of}
use Rattle.mgn_desk.specs.Steps.{delta_after, deltas_after, net_after, nets_after, steps_of}
use Rattle.mgn_desk.specs.UnitLists.{AreLists, IsFollowed, IsTogether, deltas_in, either_row, four_at, nets_in, no_own, one_of, own_at, own_of, quantity_of, row_before, rows_shown, step_at}
use Rattle.mgn_desk.specs.WorkedPortfolios.{AreParts, row_of, worked}
use Rattle.mgn_desk.proofs.AddLemmas.{own, own_low, row_room}
use Rattle.mgn_desk.proofs.KeptLemmas.{row_before_is, row_is, rows_one_each}
use Rattle.mgn_desk.proofs.MoveLemmas.{month_delta_after}
use Rattle.mgn_desk.proofs.ShownLemmas.{apart, rows_shown-set, set_again, value_in}

abbrev month : Tables → ℕ → ℕ
month t i = (contract_at t.contracts i).month

-- the steps of moves
abbrev pub steps : Tables → UnitLists → Moves → Portfolios Step
steps t l m = steps_of m (four_at l.nets m.contract) (four_at l.deltas (month t m.contract))

-- that of a portfolio
pub step_is : (t : Tables) (w : Portfolio) (l : UnitLists) (m : Moves) → one_of w (steps t l m) ≡ step_at t w l m.contract (quantity_of w m)
step_is t Lots l m = λ i. step_of (sym (value_in Lots l.nets m.contract) i) (sym (value_in Lots l.deltas (month t m.contract)) i) m.lots
step_is t WithBuys l m = λ i. step_of (sym (value_in WithBuys l.nets m.contract) i) (sym (value_in WithBuys l.deltas (month t m.contract)) i) m.buys
step_is t WithSales l m = λ i. step_of (sym (value_in WithSales l.nets m.contract) i) (sym (value_in WithSales l.deltas (month t m.contract)) i) m.sales
step_is t WithAll l m = λ i. step_of (sym (value_in WithAll l.nets m.contract) i) (sym (value_in WithAll l.deltas (month t m.contract)) i) m.all

-- there is room for it in the row
pub step_room : (t : Tables) (w : Portfolio) (l : UnitLists) (f : Figures) (m : Moves) → IsWithinLimits t → AreLists t l → m.contract < length t.contracts → AreParts t (worked w l f) → IsNet (value_at (nets_in w l) m.contract +ℤ quantity_of w m) → HasRowRoom t m.contract (row_before w l (own t m.contract)) (one_of w (steps t l m))
step_room t w l f m limits lists h are net =
    let g = own t m.contract in
    let low = own_low t m.contract limits h in
    let row : row_before w l g ≡ row_of (worked w l f) g = row_before_is t w l g lists low ∙ row_is w l f g (omega (arith, low, rows_one_each t w l lists)) in
    let room = row_room t (worked w l f) m.contract (quantity_of w m) limits h are net in
    subst (λ (r : KeptRow). HasRowRoom t m.contract r (one_of w (steps t l m))) (sym row)
    (subst (λ (s : Step). HasRowRoom t m.contract (row_of (worked w l f) g) s) (sym (step_is t w l m)) room)

-- and for its net and its month delta
pub net_room : (t : Tables) (w : Portfolio) (l : UnitLists) (m : Moves) → IsNet (value_at (nets_in w l) m.contract +ℤ quantity_of w m) → IsQuantity (net_after (one_of w (steps t l m)))
net_room t w l m net =
    let small : IsQuantity (value_at (nets_in w l) m.contract +ℤ quantity_of w m) = omega (arith, ints, net) in
    subst (λ (s : Step). IsQuantity (net_after s)) (sym (step_is t w l m)) small

pub delta_room : (t : Tables) (w : Portfolio) (l : UnitLists) (f : Figures) (m : Moves) → IsWithinLimits t → m.contract < length t.contracts → AreParts t (worked w l f) → IsNet (value_at (nets_in w l) m.contract +ℤ quantity_of w m) → IsDelta (delta_after (contract_at t.contracts m.contract).delta (one_of w (steps t l m)))
delta_room t w l f m limits h are net =
    subst (λ (s : Step). IsDelta (delta_after (contract_at t.contracts m.contract).delta s)) (sym (step_is t w l m)) (month_delta_after t (worked w l f) m.contract (quantity_of w m) limits are h net)

-- a row where nothing but rows of other branches was written
pub row_kept : (w : Portfolio) (old new : UnitLists) (owns : List OwnRows) (g : ℕ) → new ≡ record old { own = owns } → own_of w (own_at new g) ≡ own_of w (own_at old g) → row_before w new g ≡ row_before w old g
row_kept w old new owns g kept same = λ i. either_row (get_or (kept i).rows g no_row) (same i)

-- of what all have after steps, that of a portfolio
net_of_one : (w : Portfolio) (s : Portfolios Step) → one_of w (nets_after s) ≡ net_after (one_of w s)
net_of_one Lots s = refl
net_of_one WithBuys s = refl
net_of_one WithSales s = refl
net_of_one WithAll s = refl

delta_of_one : (w : Portfolio) (delta : ℤ) (s : Portfolios Step) → one_of w (deltas_after delta s) ≡ delta_after delta (one_of w s)
delta_of_one Lots delta s = refl
delta_of_one WithBuys delta s = refl
delta_of_one WithSales delta s = refl
delta_of_one WithAll delta s = refl

-- lists after moves, of which rows are written for one commodity
pub record AreWritten (t : Tables) (m : Moves) (old new : UnitLists) (row : KeptRow) (own_row : OwnRows) : Type 0 where
  pub nets : new.nets ≡ set old.nets m.contract (nets_after (steps t old m))
  pub deltas : (let c = contract_at t.contracts m.contract in new.deltas ≡ set old.deltas c.month (deltas_after c.delta (steps t old m)))
  pub rows : new.rows ≡ set old.rows (own t m.contract) row
  pub owns : new.own ≡ set old.own (own t m.contract) own_row

pub followed_by : (t : Tables) (w : Portfolio) (old new : UnitLists) (m : Moves) (row : KeptRow) (own_row : OwnRows) → IsWithinLimits t → AreLists t old → m.contract < length t.contracts → AreWritten t m old new row own_row → IsRowStepped t m.contract (row_before w old (own t m.contract)) (either_row row (own_of w own_row)) (one_of w (steps t old m)) → IsFollowed t m.contract (quantity_of w m) w old new
followed_by t w old new m row own_row limits lists h are stepped =
    let i = m.contract in
    let c = contract_at t.contracts i in
    let g = own t i in
    let s = steps t old m in
    let step = step_is t w old m in
    let shown = row_before_is t w old g lists (own_low t i limits h) in
    record {
      nets =
          ap (λ (xs : List (Portfolios ℤ)). map (one_of w) xs) are.nets
          ∙ map-set (one_of w) old.nets i (nets_after s)
          ∙ ap (λ (n : ℤ). set (nets_in w old) i n) (net_of_one w s ∙ ap net_after step);
      deltas =
          ap (λ (xs : List (Portfolios ℤ)). map (one_of w) xs) are.deltas
          ∙ map-set (one_of w) old.deltas c.month (deltas_after c.delta s)
          ∙ ap (λ (n : ℤ). set (deltas_in w old) c.month n) (delta_of_one w c.delta s ∙ ap (delta_after c.delta) step);
      row = either_row row (own_of w own_row);
      rows = (λ j. rows_shown w (are.rows j) (are.owns j)) ∙ rows_shown-set w old.rows old.own g row own_row (omega (arith, lists.rows, lists.own));
      stepped = subst (λ (r : KeptRow). IsRowStepped t i r (either_row row (own_of w own_row)) (step_at t w old i (quantity_of w m))) shown (subst (λ (x : Step). IsRowStepped t i (row_before w old g) (either_row row (own_of w own_row)) x) step stepped);
    }

pub lists_written : (t : Tables) (m : Moves) (old new : UnitLists) (row : KeptRow) (own_row : OwnRows) → AreLists t old → AreWritten t m old new row own_row → AreLists t new
lists_written t m old new row own_row lists are = record {
  nets = ap length are.nets ∙ length-set old.nets m.contract (nets_after (steps t old m)) ∙ lists.nets;
  deltas = (let c = contract_at t.contracts m.contract in ap length are.deltas ∙ length-set old.deltas c.month (deltas_after c.delta (steps t old m)) ∙ lists.deltas);
  rows = ap length are.rows ∙ length-set old.rows (own t m.contract) row ∙ lists.rows;
  own = ap length are.owns ∙ length-set old.own (own t m.contract) own_row ∙ lists.own;
}

-- A portfolio that is together with the lots and moves as they do.

pub step_alike : (t : Tables) (w : Portfolio) (l : UnitLists) (m : Moves) → IsTogether w l → quantity_of w m ≡ m.lots → one_of w (steps t l m) ≡ (steps t l m).lots
step_alike t w l m is same =
    step_is t w l m ∙ (λ i. step_of (value_at (is.nets i) m.contract) (value_at (is.deltas i) (month t m.contract)) (same i)) ∙ sym (step_is t Lots l m)

pub together_after : (t : Tables) (w : Portfolio) (old new : UnitLists) (m : Moves) (row : KeptRow) (own_row : OwnRows) → IsFollowed t m.contract (quantity_of w m) w old new → IsFollowed t m.contract m.lots Lots old new → AreLists t old → own t m.contract < length t.commodities → AreWritten t m old new row own_row → IsTogether w old → quantity_of w m ≡ m.lots → own_of w own_row ≡ None → IsTogether w new
together_after t w old new m row own_row followed lots lists low are is same none =
    let c = contract_at t.contracts m.contract in
    record {
      nets = followed.nets ∙ (λ i. more_of (is.nets i) m.contract (same i)) ∙ sym lots.nets;
      deltas = followed.deltas ∙ (λ i. set (is.deltas i) c.month (value_at (is.deltas i) c.month +ℤ delta_of t m.contract (same i))) ∙ sym lots.deltas;
      none = λ k.
          ⊎_elim
          (λ (here : k ≡ own t m.contract).
          ap (λ (o : OwnRows). own_of w o) (ap (λ (owns : List OwnRows). get_or owns k no_own) are.owns ∙ ap (λ (j : ℕ). get_or (set old.own (own t m.contract) own_row) j no_own) here ∙ get_or-set_same old.own (own t m.contract) own_row no_own (omega (arith, low, lists.own))) ∙ none)
          (λ (other : k ≢ own t m.contract).
          ap (λ (o : OwnRows). own_of w o) (ap (λ (owns : List OwnRows). get_or owns k no_own) are.owns ∙ get_or-set_other old.own (own t m.contract) k own_row no_own other) ∙ is.none k)
          (cases_eq k (own t m.contract));
    }

-- The lists after the steps of the branches, one after another, of the lots, and as they are written at last.

pub record AreStepped (t : Tables) (m : Moves) (g : ℕ) (s : Portfolios Step) (old first second third lots : UnitLists) : Type 0 where
  pub buys_kept : first ≡ record old { own = set old.own g (own_at first g) }
  pub buys_others : (w : Portfolio) → w ≢ WithBuys → own_of w (own_at first g) ≡ own_of w (own_at old g)
  pub buys_row : (after : KeptRow) → IsRowStepped t m.contract (row_before Lots old g) after s.lots → IsRowStepped t m.contract (row_before WithBuys old g) (either_row after (own_of WithBuys (own_at first g))) s.buys
  pub buys_none : own_of WithBuys (own_at old g) ≡ None → s.buys ≡ s.lots → own_of WithBuys (own_at first g) ≡ None
  pub sales_kept : second ≡ record first { own = set first.own g (own_at second g) }
  pub sales_others : (w : Portfolio) → w ≢ WithSales → own_of w (own_at second g) ≡ own_of w (own_at first g)
  pub sales_row : (after : KeptRow) → IsRowStepped t m.contract (row_before Lots first g) after s.lots → IsRowStepped t m.contract (row_before WithSales first g) (either_row after (own_of WithSales (own_at second g))) s.sales
  pub sales_none : own_of WithSales (own_at first g) ≡ None → s.sales ≡ s.lots → own_of WithSales (own_at second g) ≡ None
  pub all_kept : third ≡ record second { own = set second.own g (own_at third g) }
  pub all_others : (w : Portfolio) → w ≢ WithAll → own_of w (own_at third g) ≡ own_of w (own_at second g)
  pub all_row : (after : KeptRow) → IsRowStepped t m.contract (row_before Lots second g) after s.lots → IsRowStepped t m.contract (row_before WithAll second g) (either_row after (own_of WithAll (own_at third g))) s.all
  pub all_none : own_of WithAll (own_at second g) ≡ None → s.all ≡ s.lots → own_of WithAll (own_at third g) ≡ None
  pub lots_kept : lots ≡ record third { rows = set third.rows g (row_before Lots lots g) }
  pub lots_row : IsRowStepped t m.contract (row_before Lots third g) (row_before Lots lots g) s.lots

pub written : (t : Tables) (m : Moves) (g : ℕ) (s : Portfolios Step) (k : Contract) (old first second third lots new : UnitLists) → AreStepped t m g s old first second third lots → k ≡ contract_at t.contracts m.contract → g ≡ own t m.contract → s ≡ steps t old m → new ≡ record lots { nets = set lots.nets m.contract (nets_after s); deltas = set lots.deltas k.month (deltas_after k.delta s) } → AreWritten t m old new (row_before Lots lots g) (own_at third g)
written t m g s k old first second third lots new are contract here is last =
    let nets = ap (λ (l : UnitLists). l.nets) are.lots_kept ∙ ap (λ (l : UnitLists). l.nets) are.all_kept ∙ ap (λ (l : UnitLists). l.nets) are.sales_kept ∙ ap (λ (l : UnitLists). l.nets) are.buys_kept in
    let deltas = ap (λ (l : UnitLists). l.deltas) are.lots_kept ∙ ap (λ (l : UnitLists). l.deltas) are.all_kept ∙ ap (λ (l : UnitLists). l.deltas) are.sales_kept ∙ ap (λ (l : UnitLists). l.deltas) are.buys_kept in
    let rows = ap (λ (l : UnitLists). l.rows) are.all_kept ∙ ap (λ (l : UnitLists). l.rows) are.sales_kept ∙ ap (λ (l : UnitLists). l.rows) are.buys_kept in
    let owns = ap (λ (l : UnitLists). l.own) are.buys_kept in
    record {
      nets = ap (λ (l : UnitLists). l.nets) last ∙ (λ i. set (nets i) m.contract (nets_after (is i)));
      deltas = ap (λ (l : UnitLists). l.deltas) last ∙ (λ i. set (deltas i) (contract i).month (deltas_after (contract i).delta (is i)));
      rows = ap (λ (l : UnitLists). l.rows) last ∙ ap (λ (l : UnitLists). l.rows) are.lots_kept ∙ (λ i. set (rows i) (here i) (row_before Lots lots g));
      owns =
          ap (λ (l : UnitLists). l.own) last
          ∙ ap (λ (l : UnitLists). l.own) are.lots_kept
          ∙ ap (λ (l : UnitLists). l.own) are.all_kept
          ∙ ap (λ (xs : List OwnRows). set xs g (own_at third g)) (ap (λ (l : UnitLists). l.own) are.sales_kept ∙ ap (λ (xs : List OwnRows). set xs g (own_at second g)) owns ∙ set_again old.own g (own_at first g) (own_at second g))
          ∙ set_again old.own g (own_at second g) (own_at third g)
          ∙ ap (λ (j : ℕ). set old.own j (own_at third g)) here;
    }

-- the row of a portfolio that is not written
buys_before : (t : Tables) (m : Moves) (g : ℕ) (s : Portfolios Step) (old first second third lots : UnitLists) (w : Portfolio) → AreStepped t m g s old first second third lots → w ≢ WithBuys → row_before w first g ≡ row_before w old g
buys_before t m g s old first second third lots w are other = row_kept w old first (set old.own g (own_at first g)) g are.buys_kept (are.buys_others w other)

sales_before : (t : Tables) (m : Moves) (g : ℕ) (s : Portfolios Step) (old first second third lots : UnitLists) (w : Portfolio) → AreStepped t m g s old first second third lots → w ≢ WithSales → row_before w second g ≡ row_before w first g
sales_before t m g s old first second third lots w are other = row_kept w first second (set first.own g (own_at second g)) g are.sales_kept (are.sales_others w other)

-- the lots' row, from the lists of each
lots_second : (t : Tables) (m : Moves) (g : ℕ) (s : Portfolios Step) (old first second third lots : UnitLists) → AreStepped t m g s old first second third lots → IsRowStepped t m.contract (row_before Lots second g) (row_before Lots lots g) s.lots
lots_second t m g s old first second third lots are =
    subst (λ (r : KeptRow). IsRowStepped t m.contract r (row_before Lots lots g) s.lots) (row_kept Lots second third (set second.own g (own_at third g)) g are.all_kept refl) are.lots_row

lots_first : (t : Tables) (m : Moves) (g : ℕ) (s : Portfolios Step) (old first second third lots : UnitLists) → AreStepped t m g s old first second third lots → IsRowStepped t m.contract (row_before Lots first g) (row_before Lots lots g) s.lots
lots_first t m g s old first second third lots are =
    subst (λ (r : KeptRow). IsRowStepped t m.contract r (row_before Lots lots g) s.lots) (row_kept Lots first second (set first.own g (own_at second g)) g are.sales_kept refl) (lots_second t m g s old first second third lots are)

lots_old : (t : Tables) (m : Moves) (g : ℕ) (s : Portfolios Step) (old first second third lots : UnitLists) → AreStepped t m g s old first second third lots → IsRowStepped t m.contract (row_before Lots old g) (row_before Lots lots g) s.lots
lots_old t m g s old first second third lots are =
    subst (λ (r : KeptRow). IsRowStepped t m.contract r (row_before Lots lots g) s.lots) (row_kept Lots old first (set old.own g (own_at first g)) g are.buys_kept refl) (lots_first t m g s old first second third lots are)

-- the row of each portfolio
pub stepped : (t : Tables) (m : Moves) (g : ℕ) (s : Portfolios Step) (old first second third lots : UnitLists) (w : Portfolio) → AreStepped t m g s old first second third lots → IsRowStepped t m.contract (row_before w old g) (either_row (row_before Lots lots g) (own_of w (own_at third g))) (one_of w s)
stepped t m g s old first second third lots Lots are = lots_old t m g s old first second third lots are
stepped t m g s old first second third lots WithBuys are =
    let own = are.all_others WithBuys (apart WithBuys WithAll (λ e. omega (arith, e))) ∙ are.sales_others WithBuys (apart WithBuys WithSales (λ e. omega (arith, e))) in
    subst (λ (o : Option KeptRow). IsRowStepped t m.contract (row_before WithBuys old g) (either_row (row_before Lots lots g) o) s.buys) (sym own) (are.buys_row (row_before Lots lots g) (lots_old t m g s old first second third lots are))
stepped t m g s old first second third lots WithSales are =
    let own = are.all_others WithSales (apart WithSales WithAll (λ e. omega (arith, e))) in
    let before = buys_before t m g s old first second third lots WithSales are (apart WithSales WithBuys (λ e. omega (arith, e))) in
    subst (λ (o : Option KeptRow). IsRowStepped t m.contract (row_before WithSales old g) (either_row (row_before Lots lots g) o) s.sales) (sym own)
    (subst (λ (r : KeptRow). IsRowStepped t m.contract r (either_row (row_before Lots lots g) (own_of WithSales (own_at second g))) s.sales) before (are.sales_row (row_before Lots lots g) (lots_first t m g s old first second third lots are)))
stepped t m g s old first second third lots WithAll are =
    let before = sales_before t m g s old first second third lots WithAll are (apart WithAll WithSales (λ e. omega (arith, e))) ∙ buys_before t m g s old first second third lots WithAll are (apart WithAll WithBuys (λ e. omega (arith, e))) in
    subst (λ (r : KeptRow). IsRowStepped t m.contract r (either_row (row_before Lots lots g) (own_of WithAll (own_at third g))) s.all) before (are.all_row (row_before Lots lots g) (lots_second t m g s old first second third lots are))

-- a portfolio that steps as the lots do still has no row of its own
pub still_none : (t : Tables) (m : Moves) (g : ℕ) (s : Portfolios Step) (old first second third lots : UnitLists) (w : Portfolio) → AreStepped t m g s old first second third lots → own_of w (own_at old g) ≡ None → one_of w s ≡ s.lots → own_of w (own_at third g) ≡ None
still_none t m g s old first second third lots Lots are none same = refl
still_none t m g s old first second third lots WithBuys are none same =
    are.all_others WithBuys (apart WithBuys WithAll (λ e. omega (arith, e))) ∙ are.sales_others WithBuys (apart WithBuys WithSales (λ e. omega (arith, e))) ∙ are.buys_none none same
still_none t m g s old first second third lots WithSales are none same =
    are.all_others WithSales (apart WithSales WithAll (λ e. omega (arith, e))) ∙ are.sales_none (are.buys_others WithSales (apart WithSales WithBuys (λ e. omega (arith, e))) ∙ none) same
still_none t m g s old first second third lots WithAll are none same =
    are.all_none (are.sales_others WithAll (apart WithAll WithSales (λ e. omega (arith, e))) ∙ are.buys_others WithAll (apart WithAll WithBuys (λ e. omega (arith, e))) ∙ none) same
