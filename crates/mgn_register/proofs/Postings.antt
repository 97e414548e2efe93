-- What a posting owes: rows that are kept.
use Rattle.std.proofs.Common.{◌≡◌, ◌<◌, List, length, set, get_or, sym, ap, ◌∙◌, subst, refl, arith}
use Rattle.std.specs.Prelude.{ℤ, pos, ◌+ℤ◌, ◌-ℤ◌, ℕ, Bool}
use Rattle.std.proofs.lemmas.Int.{ints}
use Rattle.mgn_params.specs.Limits.{IsWithinLimits}
use Rattle.mgn_params.specs.Tables.{Tables}
use Rattle.mgn_coll.specs.Posted.{IsPosted, value}
use Rattle.mgn_machine.specs.declared.origin.Origin.{Origin}
use Rattle.mgn_unit.specs.declared.row.Row.{Row}
use Rattle.mgn_machine.specs.State.{AccountState, IsAccount, no_account, account_at, with_amount}
use Rattle.mgn_machine.specs.Refusals.{IsKnown}
use Rattle.mgn_unit.specs.Rows.{row_of, row_with_worth}
use Rattle.mgn_unit.proofs.AccountMoves.{amount-moves, amount-limits}
use Rattle.mgn_unit.proofs.Moved.{row-moved_worth}
use Rattle.mgn_register.specs.BookStates.{book_state, IsKept}
use Rattle.mgn_register.proofs.Kept.{kept-changed, own-moved_worth, account-limits, account-known}

-- how much more what is posted is worth
abbrev pub gained : Tables → AccountState → AccountState → ℤ
gained set a b = pos (value set.classes b.collateral) -ℤ pos (value set.classes a.collateral)

more : (x y : ℤ) → x ≡ y +ℤ (x -ℤ y)
more x y = omega (arith, ints)

pub post-kept : (set' : Tables) (origins : List Origin) (accounts : List AccountState) (rows : List Row) (closed : Bool) (version : ℕ) (k : ℕ) (a b : AccountState) (r row : Row) (class : List ℕ) (amount : ℕ) → IsWithinLimits set' → IsKept set' (book_state origins accounts rows closed version) → k < length accounts → a ≡ get_or accounts k a → r ≡ get_or rows a.unit r → b ≡ with_amount a class amount → IsPosted b.collateral.cash b.collateral.units → row ≡ row_with_worth (gained set' a b) r → IsKept set' (book_state origins (set accounts k b) (set rows a.unit row) closed version)
post-kept set' origins accounts rows closed version k a b r row class amount within kept h was is written few worth =
    subst (λ (x : Row × AccountState). IsKept set' (book_state origins (set accounts k x.1) (set rows a.unit x.0) closed version)) (λ i. (sym worth_is i, sym written i))
    (kept-changed set' origins accounts rows closed version k a after (row_with_worth (gained set' a after) r) record {
      kept = kept;
      account = h;
      was = was;
      unit = refl;
      origin = refl;
      limits = limits;
      known = record { lots = was_known.lots; holds = was_known.holds };
      own = own-moved_worth set' (book_state origins accounts rows closed version) k a after (gained set' a after) r within kept h was is limits
          (amount-moves set' a class amount (gained set' a after) (more (pos (value set'.classes after.collateral)) (pos (value set'.classes a.collateral))));
    })
  where
    after : AccountState
    after = with_amount a class amount

    limits : IsAccount after
    limits = amount-limits a class amount (account-limits set' (book_state origins accounts rows closed version) k a kept h was) (subst (λ (x : AccountState). IsPosted x.collateral.cash x.collateral.units) written few)

    was_known : IsKnown set' a
    was_known = account-known set' (book_state origins accounts rows closed version) k a kept h was

    worth_is : row ≡ row_with_worth (gained set' a after) r
    worth_is = worth ∙ ap (λ (x : AccountState). row_with_worth (gained set' a x) r) written

-- the row of the unit with another amount of a class in an account
pub amount-moved : (set' : Tables) (accounts : List AccountState) (k : ℕ) (class : List ℕ) (amount : ℕ) → k < length accounts → row_of set' (set accounts k (with_amount (account_at accounts k) class amount)) (account_at accounts k).unit ≡ row_with_worth (gained set' (account_at accounts k) (with_amount (account_at accounts k) class amount)) (row_of set' accounts (account_at accounts k).unit)
amount-moved set' accounts k class amount h =
    let a = get_or accounts k no_account in
    let after = with_amount a class amount in
    row-moved_worth set' accounts k a.unit after (gained set' a after) record { inside = h; was = refl; now = refl }
    (amount-moves set' a class amount (gained set' a after) (more (pos (value set'.classes after.collateral)) (pos (value set'.classes a.collateral))))
