-- Lists of the four portfolios of a unit, and one of them alone.
use Rattle.std.proofs.Common.{◌≡◌, ◌≢◌, ◌<◌, ℕ, zero, suc, ℤ, List, [], ◌∷◌, ap, arith, get_or, length, map, pos, refl, replicate, set, sym, None, ◌⊎◌, inl, inr}
use Rattle.std.proofs.lemmas.List.{length-map}
use Rattle.mgn_span.specs.Scan.{value_at}
use Rattle.mgn_nets.specs.declared.portfolios.Portfolios.{Portfolios}
use Rattle.mgn_desk.specs.declared.own_rows.OwnRows.{OwnRows}
use Rattle.mgn_desk.specs.declared.portfolio.Portfolio.{Portfolio}
use Rattle.mgn_desk.specs.declared.portfolio.Portfolio.TheVariants.{Lots, WithBuys, WithSales, WithAll}
use Rattle.mgn_desk.specs.KeptRows.{KeptRow, no_row}
use Rattle.mgn_desk.specs.UnitLists.{either_row, four_at, moves_alike, moves_of_one, no_four, no_own, one_of, own_of, quantity_of, rows_shown}

-- nothing in each
pub one_of_none : (w : Portfolio) → one_of w no_four ≡ pos 0
one_of_none Lots = refl
one_of_none WithBuys = refl
one_of_none WithSales = refl
one_of_none WithAll = refl

pub own_of_none : (w : Portfolio) → own_of w no_own ≡ None
own_of_none Lots = refl
own_of_none WithBuys = refl
own_of_none WithSales = refl
own_of_none WithAll = refl

pub get_or-replicate-any : (n g : ℕ) → get_or (replicate n no_own) g no_own ≡ no_own
get_or-replicate-any zero g = refl
get_or-replicate-any (suc n) zero = refl
get_or-replicate-any (suc n) (suc g) = get_or-replicate-any n g

pub rows_flat : (w : Portfolio) (n m : ℕ) → rows_shown w (replicate n no_row) (replicate m no_own) ≡ replicate n no_row
rows_flat w zero m = refl
rows_flat w (suc n) zero = ap (λ (rows : List KeptRow). no_row ∷ rows) (rows_flat w n zero)
rows_flat w (suc n) (suc m) =
    λ i. either_row no_row (own_of_none w i) ∷ rows_flat w n m i

-- the number of a portfolio at a place
pub value_in : (w : Portfolio) (fours : List (Portfolios ℤ)) (i : ℕ) → value_at (map (one_of w) fours) i ≡ one_of w (four_at fours i)
value_in w [] i = sym (one_of_none w)
value_in w (four ∷ fours) zero = refl
value_in w (four ∷ fours) (suc i) = value_in w fours i

-- its row at a place
pub rows_long : (w : Portfolio) (rows : List KeptRow) (owns : List OwnRows) → length (rows_shown w rows owns) ≡ length rows
rows_long w [] owns = refl
rows_long w (r ∷ rows) [] = ap suc (rows_long w rows [])
rows_long w (r ∷ rows) (o ∷ owns) = ap suc (rows_long w rows owns)

pub row_shown : (w : Portfolio) (rows : List KeptRow) (owns : List OwnRows) (g : ℕ) → g < length rows → get_or (rows_shown w rows owns) g no_row ≡ either_row (get_or rows g no_row) (own_of w (get_or owns g no_own))
row_shown w [] owns g low = absurd (omega (arith, low))
row_shown w (r ∷ rows) [] zero low = λ i. either_row r (sym (own_of_none w) i)
row_shown w (r ∷ rows) [] (suc g) low = row_shown w rows [] g (omega (arith, low))
row_shown w (r ∷ rows) (o ∷ owns) zero low = refl
row_shown w (r ∷ rows) (o ∷ owns) (suc g) low = row_shown w rows owns g (omega (arith, low))

-- rows of one commodity that are written
pub rows_shown-set : (w : Portfolio) (rows : List KeptRow) (owns : List OwnRows) (g : ℕ) (r : KeptRow) (o : OwnRows) → length rows ≡ length owns → rows_shown w (set rows g r) (set owns g o) ≡ set (rows_shown w rows owns) g (either_row r (own_of w o))
rows_shown-set w [] owns g r o long = refl
rows_shown-set w (x ∷ rows) [] g r o long = absurd (omega (arith, long))
rows_shown-set w (x ∷ rows) (y ∷ owns) zero r o long = refl
rows_shown-set w (x ∷ rows) (y ∷ owns) (suc g) r o long =
    ap (λ (rest : List KeptRow). either_row x (own_of w y) ∷ rest) (rows_shown-set w rows owns g r o (omega (arith, long)))

-- where a portfolio has no row of its own it has those of the lots
pub rows_none : (w : Portfolio) (rows : List KeptRow) (owns : List OwnRows) → ((g : ℕ) → own_of w (get_or owns g no_own) ≡ None) → rows_shown w rows owns ≡ rows_shown Lots rows owns
rows_none w [] owns none = refl
rows_none w (r ∷ rows) [] none = ap (λ (rest : List KeptRow). r ∷ rest) (rows_none w rows [] none)
rows_none w (r ∷ rows) (o ∷ owns) none =
    λ i. either_row r (none zero i) ∷ rows_none w rows owns (λ g. none (suc g)) i

-- an element that is written twice
pub set_again : {X : Type 0} (xs : List X) (i : ℕ) (a b : X) → set (set xs i a) i b ≡ set xs i b
set_again [] i a b = refl
set_again (x ∷ xs) zero a b = refl
set_again {X} (x ∷ xs) (suc i) a b = ap (λ (rest : List X). x ∷ rest) (set_again xs i a b)

-- portfolios by number
abbrev pub place : Portfolio → ℕ
place Lots = 0
place WithBuys = 1
place WithSales = 2
place WithAll = 3

pub apart : (a b : Portfolio) → place a ≢ place b → a ≢ b
apart a b other same = other (ap place same)

pub same_or_apart : (a b : Portfolio) → (a ≡ b) ⊎ (a ≢ b)
same_or_apart Lots Lots = inl refl
same_or_apart Lots WithBuys = inr (apart Lots WithBuys (λ e. omega (arith, e)))
same_or_apart Lots WithSales = inr (apart Lots WithSales (λ e. omega (arith, e)))
same_or_apart Lots WithAll = inr (apart Lots WithAll (λ e. omega (arith, e)))
same_or_apart WithBuys Lots = inr (apart WithBuys Lots (λ e. omega (arith, e)))
same_or_apart WithBuys WithBuys = inl refl
same_or_apart WithBuys WithSales = inr (apart WithBuys WithSales (λ e. omega (arith, e)))
same_or_apart WithBuys WithAll = inr (apart WithBuys WithAll (λ e. omega (arith, e)))
same_or_apart WithSales Lots = inr (apart WithSales Lots (λ e. omega (arith, e)))
same_or_apart WithSales WithBuys = inr (apart WithSales WithBuys (λ e. omega (arith, e)))
same_or_apart WithSales WithSales = inl refl
same_or_apart WithSales WithAll = inr (apart WithSales WithAll (λ e. omega (arith, e)))
same_or_apart WithAll Lots = inr (apart WithAll Lots (λ e. omega (arith, e)))
same_or_apart WithAll WithBuys = inr (apart WithAll WithBuys (λ e. omega (arith, e)))
same_or_apart WithAll WithSales = inr (apart WithAll WithSales (λ e. omega (arith, e)))
same_or_apart WithAll WithAll = inl refl

-- moves of one portfolio, and of all alike
pub one_moves : (w : Portfolio) (i : ℕ) (q : ℤ) → quantity_of w (moves_of_one w i q) ≡ q
one_moves Lots i q = refl
one_moves WithBuys i q = refl
one_moves WithSales i q = refl
one_moves WithAll i q = refl

pub one_contract : (w : Portfolio) (i : ℕ) (q : ℤ) → (moves_of_one w i q).contract ≡ i
one_contract Lots i q = refl
one_contract WithBuys i q = refl
one_contract WithSales i q = refl
one_contract WithAll i q = refl

pub others_still : (p w : Portfolio) (i : ℕ) (q : ℤ) → w ≢ p → quantity_of w (moves_of_one p i q) ≡ pos 0
others_still Lots Lots i q other = absurd (other refl)
others_still Lots WithBuys i q other = refl
others_still Lots WithSales i q other = refl
others_still Lots WithAll i q other = refl
others_still WithBuys Lots i q other = refl
others_still WithBuys WithBuys i q other = absurd (other refl)
others_still WithBuys WithSales i q other = refl
others_still WithBuys WithAll i q other = refl
others_still WithSales Lots i q other = refl
others_still WithSales WithBuys i q other = refl
others_still WithSales WithSales i q other = absurd (other refl)
others_still WithSales WithAll i q other = refl
others_still WithAll Lots i q other = refl
others_still WithAll WithBuys i q other = refl
others_still WithAll WithSales i q other = refl
others_still WithAll WithAll i q other = absurd (other refl)

pub alike_moves : (w : Portfolio) (i : ℕ) (q : ℤ) → quantity_of w (moves_alike i q) ≡ q
alike_moves Lots i q = refl
alike_moves WithBuys i q = refl
alike_moves WithSales i q = refl
alike_moves WithAll i q = refl

-- nothing at each place
pub value_none : (w : Portfolio) (n k : ℕ) → one_of w (four_at (replicate n no_four) k) ≡ pos 0
value_none w zero k = one_of_none w
value_none w (suc n) zero = one_of_none w
value_none w (suc n) (suc k) = value_none w n k

pub nets_long : (w : Portfolio) (fours : List (Portfolios ℤ)) → length (map (one_of w) fours) ≡ length fours
nets_long w fours = length-map fours (one_of w)
