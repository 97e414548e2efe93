-- Rows that are kept under a new account, origin or unit: for `open_in`, `open_own` and `originate`.
use Rattle.std.proofs.Common.{◌≡◌, ℕ, suc, ◌+◌, ◌<◌, List, [], ◌∷◌, ◌++◌, length, map, replicate, get_or, refl, sym, ◌∙◌, subst, arith, All, Bool, true, false, length-append}
use Rattle.std.specs.Prelude.{ℤ, pos, nat_eq, nat_lt, if◌then◌else◌, Option, Some, None, IfSome}
use Rattle.std.specs.List.{sum_by}
use Rattle.std.proofs.lemmas.Bool.Decides.{nat_tests}
use Rattle.std.proofs.lemmas.Int.{ints}
use Rattle.std.proofs.lemmas.List.{get_or_append_left}
use Rattle.std.proofs.lemmas.List.Elements.{All-push}
use Rattle.std.proofs.lemmas.List.Sums.{sum_by-cons}
use Rattle.std.proofs.lemmas.Simd.{splat_is_map}
use Rattle.std.proofs.Math.Seq.{get_or-append_seam}
use Rattle.mgn_num.proofs.SignedLemmas.{signed_sum_by-cons}
use Rattle.mgn_params.specs.declared.tables.Class.{Class}
use Rattle.mgn_params.specs.declared.tables.Contract.{Contract}
use Rattle.mgn_params.specs.Tables.{Tables}
use Rattle.mgn_span.proofs.FlatLemmas.{requirement_flat_replicate}
use Rattle.mgn_coll.specs.Posted.{class_value}
use Rattle.mgn_num.proofs.SignedEdits.{signed_sum_by-push}
use Rattle.mgn_machine.specs.declared.origin.Origin.{Origin}
use Rattle.mgn_unit.specs.declared.row.Row.{Row}
use Rattle.mgn_machine.specs.State.{AccountState, IsAccount, fresh}
use Rattle.mgn_machine.specs.Portfolios.{Portfolio, OnlyLots, WithBuys, WithSales, WithAll, account_net, account_size, account_worth, in_unit, unit_sum, row_by}
use Rattle.mgn_machine.specs.Refusals.{IsKnown}
use Rattle.mgn_unit.specs.Rows.{priced, row_of, portfolio_of, no_row, no_portfolio}
use Rattle.mgn_unit.proofs.Flat.{flat_row}
use Rattle.mgn_register.specs.BookStates.{book_state, IsKept, IsUnitRow}

-- A unit that no account has.

none-sum : (u : ℕ) (f : AccountState → ℤ) (accounts : List AccountState) → All (λ (a : AccountState). a.unit < u) accounts → unit_sum u f accounts ≡ pos 0
none-sum u f [] apart = refl
none-sum u f (a ∷ accounts) apart =
    let rest : unit_sum u f accounts ≡ pos 0 = none-sum u f accounts (λ i d less. apart (suc i) d (omega arith)) in
    let below : a.unit < u = apart 0 a (omega arith) in
    let own : in_unit u f a ≡ pos 0 = grind (arith, nat_tests) in
    omega (arith, ints, signed_sum_by-cons (in_unit u f) a accounts, rest, own)

zeros : (contracts : List Contract) → map (λ (c : Contract). pos 0) contracts ≡ replicate (length contracts) (pos 0)
zeros contracts = sym (splat_is_map contracts (length contracts) (pos 0) refl)

none-row : (contracts : List Contract) (accounts : List AccountState) (u : ℕ) (f : List ℕ → AccountState → ℤ) → All (λ (a : AccountState). a.unit < u) accounts → row_by contracts accounts u f ≡ replicate (length contracts) (pos 0)
none-row contracts accounts u f apart = (λ i. map (λ (c : Contract). none-sum u (f c.name) accounts apart i) contracts) ∙ zeros contracts

none-side : (set' : Tables) (accounts : List AccountState) (u : ℕ) (p : Portfolio) → All (λ (a : AccountState). a.unit < u) accounts → no_portfolio set' ≡ portfolio_of set' accounts u p
unfolding portfolio_of
none-side set' accounts u p apart =
    sym (λ i. record (no_portfolio set') { requirement = requirement_flat_replicate set' (length set'.contracts) i })
    ∙ (λ i. priced set' (sym (none-row set'.contracts accounts u (account_net p) apart) i) (sym (none-sum u (account_worth set' p) accounts apart) i))

pub none-row_of : (set' : Tables) (accounts : List AccountState) (u : ℕ) → All (λ (a : AccountState). a.unit < u) accounts → no_row set' ≡ row_of set' accounts u
none-row_of set' accounts u apart = λ i. record {
  sizes = sym (none-row set'.contracts accounts u account_size apart) i;
  lots = none-side set' accounts u OnlyLots apart i;
  buys = none-side set' accounts u WithBuys apart i;
  sales = none-side set' accounts u WithSales apart i;
  all = none-side set' accounts u WithAll apart i;
}

-- An account in which there is nothing counts for nothing.

fresh-sum : (u : ℕ) (f : AccountState → ℤ) (accounts : List AccountState) (a : AccountState) → f a ≡ pos 0 → unit_sum u f (accounts ++ a ∷ []) ≡ unit_sum u f accounts
fresh-sum u f accounts a nothing_is =
    let own : in_unit u f a ≡ pos 0 = by (nat_eq a.unit u) in
    omega (arith, ints, signed_sum_by-push (in_unit u f) accounts a, own)
  where
    by : (b : Bool) → (if b then f a else pos 0) ≡ pos 0
    by true = nothing_is
    by false = refl

no-value : (classes : List Class) → sum_by (λ (class : Class). class_value class 0) classes ≡ 0
no-value [] = refl
no-value (class ∷ classes) =
    let own : class_value class 0 ≡ 0 = omega arith in
    omega (arith, sum_by-cons (λ (class : Class). class_value class 0) class classes, no-value classes, own)

fresh-net : (p : Portfolio) (contract name : List ℕ) (origin unit : ℕ) → account_net p contract (fresh name origin unit) ≡ pos 0
fresh-net OnlyLots contract name origin unit = refl
fresh-net WithBuys contract name origin unit = refl
fresh-net WithSales contract name origin unit = refl
fresh-net WithAll contract name origin unit = refl

fresh-worth : (set' : Tables) (p : Portfolio) (name : List ℕ) (origin unit : ℕ) → account_worth set' p (fresh name origin unit) ≡ pos 0
fresh-worth set' OnlyLots name origin unit = omega (arith, ints, no-value set'.classes)
fresh-worth set' WithBuys name origin unit = omega (arith, ints, no-value set'.classes)
fresh-worth set' WithSales name origin unit = omega (arith, ints, no-value set'.classes)
fresh-worth set' WithAll name origin unit = omega (arith, ints, no-value set'.classes)

fresh-side : (set' : Tables) (accounts : List AccountState) (u : ℕ) (p : Portfolio) (name : List ℕ) (origin unit : ℕ) → portfolio_of set' (accounts ++ fresh name origin unit ∷ []) u p ≡ portfolio_of set' accounts u p
unfolding portfolio_of
fresh-side set' accounts u p name origin unit = λ i.
    priced set' (map (λ (c : Contract). fresh-sum u (account_net p c.name) accounts (fresh name origin unit) (fresh-net p c.name name origin unit) i) set'.contracts)
    (fresh-sum u (account_worth set' p) accounts (fresh name origin unit) (fresh-worth set' p name origin unit) i)

fresh-row_of : (set' : Tables) (accounts : List AccountState) (u : ℕ) (name : List ℕ) (origin unit : ℕ) → row_of set' (accounts ++ fresh name origin unit ∷ []) u ≡ row_of set' accounts u
fresh-row_of set' accounts u name origin unit = λ i. record {
  sizes = map (λ (c : Contract). fresh-sum u (account_size c.name) accounts (fresh name origin unit) refl i) set'.contracts;
  lots = fresh-side set' accounts u OnlyLots name origin unit i;
  buys = fresh-side set' accounts u WithBuys name origin unit i;
  sales = fresh-side set' accounts u WithSales name origin unit i;
  all = fresh-side set' accounts u WithAll name origin unit i;
}

fresh-limits : (name : List ℕ) (origin unit : ℕ) → IsAccount (fresh name origin unit)
fresh-limits name origin unit = record {
  collateral = record { cash_most = omega arith; units_most = λ class. omega arith };
  lots = λ i d less. absurd (omega arith);
  few_lots = omega arith;
  holds = λ i d less. absurd (omega arith);
  few_holds = omega arith;
}

-- Books.

-- an account more in a unit that is there
pub kept-open : (set' : Tables) (origins : List Origin) (accounts : List AccountState) (rows : List Row) (closed : Bool) (version : ℕ) (name : List ℕ) (origin unit : ℕ) → IsKept set' (book_state origins accounts rows closed version) → length accounts < 1024 → unit < length rows → origin < length origins → IsKept set' (book_state origins (accounts ++ fresh name origin unit ∷ []) rows closed version)
kept-open set' origins accounts rows closed version name origin unit kept few inside home = record {
  units = refl;
  few_units = kept.few_units;
  few_accounts = omega (arith, length-append accounts (fresh name origin unit ∷ []));
  accounts = All-push IsAccount accounts (fresh name origin unit) kept.accounts (fresh-limits name origin unit);
  known = All-push (IsKnown set') accounts (fresh name origin unit) kept.known record { lots = λ i d less. absurd (omega arith); holds = λ i d less. absurd (omega arith) };
  within = All-push (λ (a : AccountState). a.unit < length rows) accounts (fresh name origin unit) kept.within inside;
  homes = All-push (λ (a : AccountState). a.origin < length origins) accounts (fresh name origin unit) kept.homes home;
  netted = kept.netted;
  rows = λ u d less. let old = kept.rows u d less in record { is = old.is ∙ sym (fresh-row_of set' accounts u name origin unit); limits = old.limits };
}

-- a unit more, which no account has yet
pub kept-unit : (set' : Tables) (origins : List Origin) (accounts : List AccountState) (rows : List Row) (closed : Bool) (version : ℕ) → IsKept set' (book_state origins accounts rows closed version) → length rows < 1024 → IsKept set' (book_state origins accounts (rows ++ no_row set' ∷ []) closed version)
kept-unit set' origins accounts rows closed version kept few = record {
  units = refl;
  few_units = omega (arith, long);
  few_accounts = kept.few_accounts;
  accounts = kept.accounts;
  known = kept.known;
  within = λ k d less. omega (arith, long, kept.within k d less);
  homes = kept.homes;
  netted = λ k d less. wider (get_or origins k d).unit (kept.netted k d less);
  rows = λ u d less. at u d (omega (arith, long, less)) (nat_lt u (length rows)) refl;
}
  where
    long : length (rows ++ no_row set' ∷ []) ≡ length rows + 1
    long = length-append rows (no_row set' ∷ [])

    wider : (unit : Option ℕ) → IfSome unit (λ u. u < length rows) → IfSome unit (λ u. u < length (rows ++ no_row set' ∷ []))
    wider None inside = inside
    wider (Some u) inside = omega (arith, long, inside)

    at : (u : ℕ) (d : Row) → u < length rows + 1 → (b : Bool) → nat_lt u (length rows) ≡ b → IsUnitRow set' accounts u (get_or (rows ++ no_row set' ∷ []) u d)
    at u d less true e =
        let before : u < length rows = grind (arith, nat_tests) in
        subst (λ (r : Row). IsUnitRow set' accounts u r) (sym (get_or_append_left rows (no_row set' ∷ []) d u before)) (kept.rows u d before)
    at u d less false e =
        let here : u ≡ length rows = grind (arith, nat_tests) in
        subst (λ (v : ℕ). IsUnitRow set' accounts v (get_or (rows ++ no_row set' ∷ []) v d)) (sym here)
        (subst (λ (r : Row). IsUnitRow set' accounts (length rows) r) (sym (get_or-append_seam rows (no_row set') [] d)) record { is = none-row_of set' accounts (length rows) kept.within; limits = flat_row set' })

-- an origin more, whose unit is there if it has one
pub kept-origin : (set' : Tables) (origins : List Origin) (accounts : List AccountState) (rows : List Row) (closed : Bool) (version : ℕ) (o : Origin) → IsKept set' (book_state origins accounts rows closed version) → IfSome o.unit (λ u. u < length rows) → IsKept set' (book_state (origins ++ o ∷ []) accounts rows closed version)
kept-origin set' origins accounts rows closed version o kept inside = record {
  units = refl;
  few_units = kept.few_units;
  few_accounts = kept.few_accounts;
  accounts = kept.accounts;
  known = kept.known;
  within = kept.within;
  homes = λ k d less. omega (arith, length-append origins (o ∷ []), kept.homes k d less);
  netted = All-push (λ (x : Origin). IfSome x.unit (λ u. u < length rows)) origins o kept.netted inside;
  rows = kept.rows;
}
