-- The row of a unit tells the room and the figures that the machine defines.
use Rattle.std.proofs.Common.{◌≡◌, ◌∙◌, ℕ, Bool, true, false, List, ap, refl}
use Rattle.std.specs.Prelude.{int_lt, if◌then◌else◌}
use Rattle.mgn_params.specs.Tables.{Tables}
use Rattle.mgn_machine.specs.Portfolios.{Portfolio, OnlyLots, WithBuys, WithSales, WithAll}
use Rattle.mgn_machine.specs.Room.{figures_of, least, least_of, requirement_of, room_of, unit_room, worth_of, lesser as lesser_portfolio}
use Rattle.mgn_machine.specs.State.{AccountState}
use Rattle.mgn_machine.specs.declared.reply.UnitFigures.{UnitFigures}
use Rattle.mgn_unit.specs.declared.row.PortfolioRow.{PortfolioRow}
use Rattle.mgn_unit.specs.Rows.{least_portfolio, lesser, portfolio_of, portfolio_room, row_figures, row_of}

choice : {X Y : Type 0} (f : X → Y) (b : Bool) (x y : X) → (if b then f y else f x) ≡ f (if b then y else x)
choice f true x y = refl
choice f false x y = refl

lesser-rows : (set' : Tables) (accounts : List AccountState) (u : ℕ) (p q : Portfolio)
    → lesser (portfolio_of set' accounts u p) (portfolio_of set' accounts u q) ≡ portfolio_of set' accounts u (lesser_portfolio (room_of set' accounts u) p q)
unfolding portfolio_of worth_of requirement_of
lesser-rows set' accounts u p q =
    choice (portfolio_of set' accounts u) (int_lt (room_of set' accounts u q) (room_of set' accounts u p)) p q

-- the portfolio with the least room
pub least_row : (set' : Tables) (accounts : List AccountState) (u : ℕ) → least_portfolio (row_of set' accounts u) ≡ portfolio_of set' accounts u (least_of set' accounts u)
unfolding least
least_row set' accounts u =
    let room = room_of set' accounts u in
    let row = portfolio_of set' accounts u in
    let first : Portfolio = lesser_portfolio room OnlyLots WithBuys in
    let second : Portfolio = lesser_portfolio room first WithSales in
    ap (λ (x : PortfolioRow). lesser (lesser x (row WithSales)) (row WithAll)) (lesser-rows set' accounts u OnlyLots WithBuys)
    ∙ ap (λ (x : PortfolioRow). lesser x (row WithAll)) (lesser-rows set' accounts u first WithSales)
    ∙ lesser-rows set' accounts u second WithAll

-- the least room
pub room_of_row : (set' : Tables) (accounts : List AccountState) (u : ℕ) → portfolio_room (least_portfolio (row_of set' accounts u)) ≡ unit_room set' accounts u
unfolding portfolio_of worth_of requirement_of
room_of_row set' accounts u = ap (λ (x : PortfolioRow). portfolio_room x) (least_row set' accounts u)

-- the figures
pub figures_of_row : (set' : Tables) (accounts : List AccountState) (u : ℕ) → row_figures (row_of set' accounts u) ≡ figures_of set' accounts u
unfolding portfolio_of worth_of requirement_of
figures_of_row set' accounts u =
    let lots = portfolio_of set' accounts u OnlyLots in
    ap (λ (x : PortfolioRow). let told : UnitFigures = record { requirement = lots.requirement; exposure_requirement = x.requirement; value = lots.worth; exposure_value = x.worth; room = portfolio_room x } in told) (least_row set' accounts u)
