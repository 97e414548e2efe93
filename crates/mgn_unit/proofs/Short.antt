-- The least room is below 0 where one of the four is: for `lacks_room_with`.
use Rattle.std.proofs.Common.{◌≡◌, Bool, true, false, refl, ap, ◌∙◌, arith}
use Rattle.std.specs.Prelude.{pos, int_lt, ◌||◌, if◌then◌else◌}
use Rattle.std.proofs.lemmas.Int.{ints}
use Rattle.mgn_unit.specs.declared.row.Row.{Row}
use Rattle.mgn_unit.specs.declared.row.PortfolioRow.{PortfolioRow}
use Rattle.mgn_unit.specs.Rows.{portfolio_room, lesser, least_portfolio}

of_lesser : (first second : PortfolioRow) → int_lt (portfolio_room (lesser first second)) (pos 0) ≡ (int_lt (portfolio_room first) (pos 0) || int_lt (portfolio_room second) (pos 0))
of_lesser first second = by (int_lt (portfolio_room second) (portfolio_room first)) refl
  where
    by : (b : Bool) → int_lt (portfolio_room second) (portfolio_room first) ≡ b → int_lt (portfolio_room (if b then second else first)) (pos 0) ≡ (int_lt (portfolio_room first) (pos 0) || int_lt (portfolio_room second) (pos 0))
    by true e = grind (arith, ints, e)
    by false e = grind (arith, ints, e)

pub lacks_room : (row : Row) → int_lt (portfolio_room (least_portfolio row)) (pos 0) ≡ (int_lt (portfolio_room row.lots) (pos 0) || int_lt (portfolio_room row.buys) (pos 0) || int_lt (portfolio_room row.sales) (pos 0) || int_lt (portfolio_room row.all) (pos 0))
lacks_room row =
    of_lesser (lesser (lesser row.lots row.buys) row.sales) row.all
    ∙ ap (λ (b : Bool). b || int_lt (portfolio_room row.all) (pos 0)) (of_lesser (lesser row.lots row.buys) row.sales ∙ ap (λ (b : Bool). b || int_lt (portfolio_room row.sales) (pos 0)) (of_lesser row.lots row.buys))

pub any-same : (a b c d a' b' c' d' : Bool) → a ≡ a' → b ≡ b' → c ≡ c' → d ≡ d' → (a || b || c || d) ≡ (a' || b' || c' || d')
any-same a b c d a' b' c' d' first second third fourth = λ i. (first i || second i || third i || fourth i)
