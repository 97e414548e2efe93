-- What the commands on holds owe: room for their sizes, and rows that are kept.
use Rattle.std.proofs.Common.{◌≡◌, ℕ, ◌<◌, ◌≤◌, ◌^◌, List, length, set, get_or, refl, sym, ap, ◌∙◌, subst, arith, Bool, true, false, length-set}
use Rattle.std.specs.Prelude.{if◌then◌else◌, ℤ, pos, neg_ℤ, ◌+ℤ◌, ◌≤ℤ◌, unsigned_abs, Result, Ok, Err, int_lt}
use Rattle.std.proofs.lemmas.Int.{ints}
use Rattle.std.proofs.lemmas.Bool.Decides.{nat_tests}
use Rattle.std.proofs.lemmas.List.{get_or_default, set-get_or}
use Rattle.std.proofs.lemmas.List.Elements.{All-push, All-get_or}
use Rattle.mgn_params.specs.Limits.{IsWithinLimits}
use Rattle.mgn_span.specs.Positions.{IsNet}
use Rattle.mgn_params.specs.Tables.{Tables}
use Rattle.mgn_lots.specs.declared.lot.Lot.{Lot}
use Rattle.mgn_lots.specs.Lots.{IsLot, is_live, is_full}
use Rattle.mgn_holds.specs.declared.held.Held.{Held}
use Rattle.mgn_holds.specs.Holds.{IsHeld, has_order, hold_at, no_hold, is_full as holds_full, covers}
use Rattle.mgn_unit.specs.declared.change.Change.{Change}
use Rattle.mgn_machine.specs.declared.command.Fill.{Fill}
use Rattle.mgn_machine.specs.declared.command.Hold.{Hold}
use Rattle.mgn_machine.specs.declared.origin.Origin.{Origin}
use Rattle.mgn_machine.specs.declared.reply.Refusal.{Refusal}
use Rattle.mgn_machine.specs.declared.reply.Refusal.TheVariants.{NoRoom, Limit}
use Rattle.mgn_unit.specs.declared.row.Row.{Row}
use Rattle.mgn_machine.specs.State.{State, AccountState, IsAccount, no_account, account_at, put, traded_lot}
use Rattle.mgn_machine.specs.Portfolios.{account_size}
use Rattle.mgn_machine.specs.Room.{unit_room}
use Rattle.mgn_machine.specs.Refusals.{◌>>=◌, refuse_if, if_room, place_of, contract_of, has_contract, is_over, premium_fits, IsKnown}
use Rattle.mgn_unit.specs.Rows.{IsRoomy, Priced, Prices, row_of, row_with, lacks_room}
use Rattle.mgn_unit.specs.Changes.{Moves, hold_change, release_change, fill_change}
use Rattle.mgn_machine.specs.Holding.{entered, hold_places, new_hold, with_hold, without_hold, fill_of}
use Rattle.mgn_machine.proofs.Names.{unit_size}
use Rattle.mgn_unit.proofs.Bounded.{unit-within}
use Rattle.mgn_unit.proofs.HoldMoves.{hold-moves, release-moves, hold-limits, release-limits, All-removed}
use Rattle.mgn_unit.proofs.FillMoves.{fill-moves, fill-limits, All-filled}
use Rattle.mgn_unit.proofs.Moved.{Stands, row-moved}
use Rattle.mgn_unit.proofs.Sums.{row_by-at}
use Rattle.mgn_unit.proofs.Least.{room_of_row}
use Rattle.mgn_register.specs.declared.step_fault.StepFault.{StepFault}
use Rattle.mgn_register.specs.declared.step_fault.StepFault.TheVariants.{Refused, Memory}
use Rattle.mgn_register.specs.BookStates.{BookState, book_state, IsKept, IsUnitRow, AsksMemory, Steps}
use Rattle.mgn_register.specs.RoomAsked.{AsksRoom}
use Rattle.mgn_register.proofs.Kept.{contract-stands, stands-inside, row-there, room-by, sizes-more, own-moved, kept-changed, account-limits, account-known, stands-known}

-- what is known where one contract of an account is about to change: the account and its row as they were read
pub record Reads (set' : Tables) (f : BookState) (k i : ℕ) (a : AccountState) (r : Row) (contract : List ℕ) : Type 0 where
  pub within : IsWithinLimits set'
  pub kept : IsKept set' f
  pub account : k < length f.state.accounts
  pub was : a ≡ get_or f.state.accounts k a
  pub row : r ≡ get_or f.rows a.unit r
  pub stands : contract_of set' contract ≡ Ok i

pub stands : (set' : Tables) (f : BookState) (k i : ℕ) (a : AccountState) (r : Row) (contract : List ℕ) → Reads set' f k i a r contract → Stands set' contract i
stands set' f k i a r contract reads = contract-stands set' contract i reads.within reads.stands

pub account-read : (set' : Tables) (f : BookState) (k i : ℕ) (a : AccountState) (r : Row) (contract : List ℕ) → Reads set' f k i a r contract → a ≡ account_at f.state.accounts k
account-read set' f k i a r contract reads = reads.was ∙ get_or_default f.state.accounts k a no_account reads.account

pub old-row : (set' : Tables) (f : BookState) (k i : ℕ) (a : AccountState) (r : Row) (contract : List ℕ) → Reads set' f k i a r contract → IsUnitRow set' f.state.accounts a.unit r
old-row set' f k i a r contract reads = row-there set' f k a r reads.kept reads.account reads.was reads.row

-- The size of the unit in the contract.

pub row-size : (set' : Tables) (f : BookState) (k i : ℕ) (a : AccountState) (r : Row) (contract : List ℕ) → Reads set' f k i a r contract → get_or r.sizes i (pos 0) ≡ unit_size f.state a.unit contract
row-size set' f k i a r contract reads =
    ap (λ (x : Row). get_or x.sizes i (pos 0)) (old-row set' f k i a r contract reads).is ∙ row_by-at set'.contracts f.state.accounts a.unit account_size contract i (stands set' f k i a r contract reads).here

pub row-small : (set' : Tables) (f : BookState) (k i : ℕ) (a : AccountState) (r : Row) (contract : List ℕ) → Reads set' f k i a r contract → IsNet (get_or r.sizes i (pos 0))
row-small set' f k i a r contract reads =
    let old = old-row set' f k i a r contract reads in
    old.limits.sizes i (pos 0) (omega (arith, old.limits.one_each, stands-inside set' contract i (stands set' f k i a r contract reads)))

size-some : (s : State) (u : ℕ) (contract : List ℕ) → pos 0 ≤ℤ unit_size s u contract
size-some s u contract = omega (arith, ints, unit-within u (λ a. pos 0) (account_size contract) s.accounts (λ a. omega (arith, ints)))

pub not_over : (size : ℤ) (more : ℕ) → IsNet size → int_lt (pos (10 ^ 7)) (size +ℤ pos more) ≡ false → IsNet (size +ℤ pos more)
not_over size more small room = grind (arith, ints, room)

not_under : (size : ℤ) (less : ℕ) → IsNet size → pos 0 ≤ℤ size → less ≤ 10 ^ 6 → IsNet (size +ℤ neg_ℤ (pos less))
not_under size less small some few = omega (arith, ints)

not_moved : (size : ℤ) → IsNet size → IsNet (size +ℤ pos 0)
not_moved size small = omega (arith, ints)

-- Any change of one contract.

pub changed-roomy : (set' : Tables) (f : BookState) (k : ℕ) (a b : AccountState) (r : Row) (contract : List ℕ) (change : Change) → Reads set' f k change.contract a r contract → Moves set' contract change a b → IsNet (get_or r.sizes change.contract (pos 0) +ℤ change.size) → IsRoomy change r
changed-roomy set' f k a b r contract change reads moves size =
    room-by set' f k a b contract change r reads.kept reads.account reads.was reads.row (stands set' f k change.contract a r contract reads) moves
    (sizes-more r.sizes change.contract change.size (old-row set' f k change.contract a r contract reads).limits.sizes size)

pub changed-row : (set' : Tables) (f : BookState) (k : ℕ) (a b : AccountState) (r : Row) (contract : List ℕ) (change : Change) → Reads set' f k change.contract a r contract → Moves set' contract change a b → row_with set' change r ≡ row_of set' (set f.state.accounts k b) a.unit
changed-row set' f k a b r contract change reads moves =
    let there = account-read set' f k change.contract a r contract reads in
    ap (λ (x : Row). row_with set' change x) (old-row set' f k change.contract a r contract reads).is
    ∙ sym (row-moved set' f.state.accounts k a.unit b contract change (stands set' f k change.contract a r contract reads) record { inside = reads.account; was = ap (λ (x : AccountState). x.unit) (sym there); now = moves.unit }
    (subst (λ (x : AccountState). Moves set' contract change x b) there moves))

pub changed-kept : (set' : Tables) (origins : List Origin) (accounts : List AccountState) (rows : List Row) (closed : Bool) (version : ℕ) (k : ℕ) (a b now : AccountState) (r row : Row) (contract : List ℕ) (change : Change) (priced : Priced) → Reads set' (book_state origins accounts rows closed version) k change.contract a r contract → Moves set' contract change a b → b.origin ≡ a.origin → IsRoomy change r → Prices set' change r priced → IsAccount b → IsKnown set' b → row ≡ row_with set' change r → now ≡ b → IsKept set' (book_state origins (set accounts k now) (set rows a.unit row) closed version)
changed-kept set' origins accounts rows closed version k a b now r row contract change priced reads moves origin room prices limits known is added =
    subst (λ (x : Row × AccountState). IsKept set' (book_state origins (set accounts k x.1) (set rows a.unit x.0) closed version)) (λ j. (sym is j, sym added j))
    (kept-changed set' origins accounts rows closed version k a b (row_with set' change r) record {
      kept = reads.kept;
      account = reads.account;
      was = reads.was;
      unit = moves.unit;
      origin = origin;
      limits = limits;
      known = known;
      own = own-moved set' (book_state origins accounts rows closed version) k a b contract change r priced reads.within reads.kept reads.account reads.was reads.row limits
          (stands set' (book_state origins accounts rows closed version) k change.contract a r contract reads) moves room prices;
    })

pub was-limits : (set' : Tables) (f : BookState) (k i : ℕ) (a : AccountState) (r : Row) (contract : List ℕ) → Reads set' f k i a r contract → IsAccount a
was-limits set' f k i a r contract reads = account-limits set' f k a reads.kept reads.account reads.was

pub was-known : (set' : Tables) (f : BookState) (k i : ℕ) (a : AccountState) (r : Row) (contract : List ℕ) → Reads set' f k i a r contract → IsKnown set' a
was-known set' f k i a r contract reads = account-known set' f k a reads.kept reads.account reads.was

-- HOLD

pub hold-roomy : (set' : Tables) (f : BookState) (k i : ℕ) (a : AccountState) (r : Row) (h : Hold) → Reads set' f k i a r h.contract → is_over f.state k h.contract h.quantity ≡ false → IsRoomy (hold_change i h.quantity h.limit) r
hold-roomy set' f k i a r h reads over =
    changed-roomy set' f k a (with_hold a (new_hold h)) r h.contract (hold_change i h.quantity h.limit) reads (hold-moves set' a i h)
    (subst (λ (z : ℤ). IsNet (z +ℤ pos (unsigned_abs h.quantity))) (sym size) (not_over (unit_size f.state a.unit h.contract) (unsigned_abs h.quantity) (subst IsNet size (row-small set' f k i a r h.contract reads)) room))
  where
    size : get_or r.sizes i (pos 0) ≡ unit_size f.state a.unit h.contract
    size = row-size set' f k i a r h.contract reads

    room : int_lt (pos (10 ^ 7)) (unit_size f.state a.unit h.contract +ℤ pos (unsigned_abs h.quantity)) ≡ false
    room = ap (λ (x : AccountState). int_lt (pos (10 ^ 7)) (unit_size f.state x.unit h.contract +ℤ pos (unsigned_abs h.quantity))) (account-read set' f k i a r h.contract reads) ∙ over

pub hold-row : (set' : Tables) (f : BookState) (k i : ℕ) (a : AccountState) (r : Row) (h : Hold) → Reads set' f k i a r h.contract → row_with set' (hold_change i h.quantity h.limit) r ≡ row_of set' (set f.state.accounts k (with_hold a (new_hold h))) a.unit
hold-row set' f k i a r h reads =
    changed-row set' f k a (with_hold a (new_hold h)) r h.contract (hold_change i h.quantity h.limit) reads (hold-moves set' a i h)

pub hold-kept : (set' : Tables) (origins : List Origin) (accounts : List AccountState) (rows : List Row) (closed : Bool) (version : ℕ) (k i : ℕ) (a now : AccountState) (r row : Row) (h : Hold) (priced : Priced) → Reads set' (book_state origins accounts rows closed version) k i a r h.contract → IsRoomy (hold_change i h.quantity h.limit) r → Prices set' (hold_change i h.quantity h.limit) r priced → IsHeld (new_hold h) → holds_full a.holds ≡ false → row ≡ row_with set' (hold_change i h.quantity h.limit) r → now ≡ with_hold a (new_hold h) → IsKept set' (book_state origins (set accounts k now) (set rows a.unit row) closed version)
hold-kept set' origins accounts rows closed version k i a now r row h priced reads room prices held few is added =
    changed-kept set' origins accounts rows closed version k a (with_hold a x) now r row h.contract (hold_change i h.quantity h.limit) priced reads (hold-moves set' a i h) refl room prices
    (hold-limits a x (was-limits set' f k i a r h.contract reads) held (grind (arith, nat_tests, few)))
    known is added
  where
    f : BookState
    f = book_state origins accounts rows closed version

    x : Held
    x = new_hold h

    before : IsKnown set' a
    before = was-known set' f k i a r h.contract reads

    known : IsKnown set' (with_hold a x)
    known = record {
      lots = before.lots;
      holds = All-push (λ (y : Held). has_contract set' y.contract ≡ true) a.holds x before.holds (stands-known set' h.contract i (stands set' f k i a r h.contract reads));
    }

-- what a test refuses with
pub refused-why : (test : Bool) (r : Result (Unit {0}) Refusal) (why w : Refusal) → r ≡ Err why → r ≡ refuse_if test w → why ≡ w
unfolding refuse_if
refused-why true r why w e f = cc
refused-why false r why w e f = cc

-- where it is the size alone that is refused
pub hold_places-over : (set' : Tables) (s : State) (h : Hold) (k i : ℕ) → s.closed ≡ false → place_of s h.account ≡ Ok k → has_order (account_at s.accounts k).holds h.order ≡ false → contract_of set' h.contract ≡ Ok i → premium_fits set' i h.limit ≡ true
    → holds_full (account_at s.accounts k).holds ≡ false → is_over s k h.contract h.quantity ≡ true → hold_places set' s h ≡ Err Limit
unfolding hold_places refuse_if place_of
hold_places-over set' s h k i closed place fresh contract fits few over =
    rw closed (rw place (rw fresh (rw contract (rw fits (rw few (rw over refl))))))

-- what is answered, once the places and the room are known

pub asked-room : (set' : Tables) (u : ℕ) (s : State) (b : Bool) → lacks_room (row_of set' s.accounts u) ≡ b → if_room set' u s ≡ (if b then Err NoRoom else Ok s)
asked-room set' u s b is =
    ap (λ (t : Bool). if t then Err NoRoom else Ok s) (sym (ap (λ (z : ℤ). int_lt z (pos 0)) (room_of_row set' s.accounts u)) ∙ is)

-- it is the room alone that may be wanted
room-asked : (u : ℕ) (set' : Tables) (s : State) → AsksMemory (if_room set' u s)
room-asked u set' s = by (int_lt (unit_room set' s.accounts u) (pos 0))
  where
    by : (b : Bool) → AsksMemory (if b then Err NoRoom else Ok s)
    by true = refl
    by false = tt

-- the state that a hold leads to
abbrev pub state-held : State → ℕ × ℕ → Hold → State
state-held s at h = put s at.0 (with_hold (account_at s.accounts at.0) (new_hold h))

entered-by : (set' : Tables) (s : State) (at : ℕ × ℕ) (h : Hold) → hold_places set' s h ≡ Ok at → entered set' s h ≡ if_room set' (account_at s.accounts at.0).unit (state-held s at h)
entered-by set' s at h places =
    ap (λ (x : Result (ℕ × ℕ) Refusal). x >>= (λ at. if_room set' (account_at s.accounts at.0).unit (state-held s at h))) places

pub entered-done : (set' : Tables) (s : State) (at : ℕ × ℕ) (h : Hold) → hold_places set' s h ≡ Ok at → lacks_room (row_of set' (state-held s at h).accounts (account_at s.accounts at.0).unit) ≡ false → entered set' s h ≡ Ok (state-held s at h)
entered-done set' s at h places room =
    entered-by set' s at h places ∙ asked-room set' (account_at s.accounts at.0).unit (state-held s at h) false room

pub entered-short : (set' : Tables) (s : State) (at : ℕ × ℕ) (h : Hold) → hold_places set' s h ≡ Ok at → lacks_room (row_of set' (state-held s at h).accounts (account_at s.accounts at.0).unit) ≡ true → entered set' s h ≡ Err NoRoom
entered-short set' s at h places room =
    entered-by set' s at h places ∙ asked-room set' (account_at s.accounts at.0).unit (state-held s at h) true room

-- RELEASE

there : (a : AccountState) (j : ℕ) → j < length a.holds → hold_at a.holds j ≡ get_or a.holds j (hold_at a.holds j)
there a j inside = sym (get_or_default a.holds j (hold_at a.holds j) no_hold inside)

held-limits : (a : AccountState) (j : ℕ) → IsAccount a → j < length a.holds → IsHeld (hold_at a.holds j)
held-limits a j limits inside = All-get_or IsHeld a.holds j no_hold inside limits.holds

pub release-roomy : (set' : Tables) (f : BookState) (k i j : ℕ) (a : AccountState) (r : Row) → Reads set' f k i a r (hold_at a.holds j).contract → j < length a.holds → IsRoomy (release_change i (hold_at a.holds j).quantity (hold_at a.holds j).limit) r
release-roomy set' f k i j a r reads inside =
    changed-roomy set' f k a (without_hold a j) r x.contract (release_change i x.quantity x.limit) reads (release-moves set' a i j x inside (there a j inside))
    (not_under (get_or r.sizes i (pos 0)) (unsigned_abs x.quantity) (row-small set' f k i a r x.contract reads)
    (subst (λ (z : ℤ). pos 0 ≤ℤ z) (sym (row-size set' f k i a r x.contract reads)) (size-some f.state a.unit x.contract)) (held-limits a j (was-limits set' f k i a r x.contract reads) inside).most)
  where
    x : Held
    x = hold_at a.holds j

pub release-kept : (set' : Tables) (origins : List Origin) (accounts : List AccountState) (rows : List Row) (closed : Bool) (version : ℕ) (k i j : ℕ) (a now : AccountState) (r row : Row) (priced : Priced) → Reads set' (book_state origins accounts rows closed version) k i a r (hold_at a.holds j).contract → j < length a.holds → IsRoomy (release_change i (hold_at a.holds j).quantity (hold_at a.holds j).limit) r → Prices set' (release_change i (hold_at a.holds j).quantity (hold_at a.holds j).limit) r priced → row ≡ row_with set' (release_change i (hold_at a.holds j).quantity (hold_at a.holds j).limit) r → now ≡ without_hold a j → IsKept set' (book_state origins (set accounts k now) (set rows a.unit row) closed version)
release-kept set' origins accounts rows closed version k i j a now r row priced reads inside room prices is released =
    changed-kept set' origins accounts rows closed version k a (without_hold a j) now r row x.contract (release_change i x.quantity x.limit) priced reads (release-moves set' a i j x inside (there a j inside)) refl room prices
    (release-limits a j (was-limits set' f k i a r x.contract reads) inside)
    record { lots = before.lots; holds = All-removed (λ (y : Held). has_contract set' y.contract ≡ true) a.holds j before.holds } is released
  where
    f : BookState
    f = book_state origins accounts rows closed version

    x : Held
    x = hold_at a.holds j

    before : IsKnown set' a
    before = was-known set' f k i a r x.contract reads

-- FILL

pub fill-roomy : (set' : Tables) (f : BookState) (k i j : ℕ) (a : AccountState) (r : Row) (y : Fill) → Reads set' f k i a r (hold_at a.holds j).contract → j < length a.holds → covers (hold_at a.holds j) y.quantity ≡ true → IsRoomy (fill_change i y.quantity (hold_at a.holds j).limit y.premium) r
fill-roomy set' f k i j a r y reads inside c =
    changed-roomy set' f k a (fill_of a j y) r (hold_at a.holds j).contract (fill_change i y.quantity (hold_at a.holds j).limit y.premium) reads (fill-moves set' a i j y inside c)
    (not_moved (get_or r.sizes i (pos 0)) (row-small set' f k i a r (hold_at a.holds j).contract reads))

pub fill-kept : (set' : Tables) (origins : List Origin) (accounts : List AccountState) (rows : List Row) (closed : Bool) (version : ℕ) (k i j : ℕ) (a now : AccountState) (r row : Row) (y : Fill) (priced : Priced) → Reads set' (book_state origins accounts rows closed version) k i a r (hold_at a.holds j).contract → j < length a.holds → covers (hold_at a.holds j) y.quantity ≡ true → IsRoomy (fill_change i y.quantity (hold_at a.holds j).limit y.premium) r → Prices set' (fill_change i y.quantity (hold_at a.holds j).limit y.premium) r priced → IsLot (traded_lot y.lot (hold_at a.holds j).contract y.quantity y.premium) → is_full a.lots ≡ false → row ≡ row_with set' (fill_change i y.quantity (hold_at a.holds j).limit y.premium) r → now ≡ fill_of a j y → IsKept set' (book_state origins (set accounts k now) (set rows a.unit row) closed version)
fill-kept set' origins accounts rows closed version k i j a now r row y priced reads inside c room prices is_lot few is filled =
    changed-kept set' origins accounts rows closed version k a (fill_of a j y) now r row x.contract (fill_change i y.quantity x.limit y.premium) priced reads (fill-moves set' a i j y inside c) refl room prices
    (fill-limits a j y (was-limits set' f k i a r x.contract reads) inside c is_lot (grind (arith, nat_tests, few)))
    known is filled
  where
    f : BookState
    f = book_state origins accounts rows closed version

    x : Held
    x = hold_at a.holds j

    before : IsKnown set' a
    before = was-known set' f k i a r x.contract reads

    known : IsKnown set' (fill_of a j y)
    known = record {
      lots = All-push (λ (z : Lot). is_live z.mark ≡ true → has_contract set' z.contract ≡ true) a.lots (traded_lot y.lot x.contract y.quantity y.premium) before.lots (λ _. stands-known set' x.contract i (stands set' f k i a r x.contract reads));
      holds = All-filled (λ (z : Held). has_contract set' z.contract ≡ true) a.holds j y.quantity before.holds (λ part. stands-known set' x.contract i (stands set' f k i a r x.contract reads));
    }

-- Where nothing has changed.

pub same-state : (origins : List Origin) (accounts : List AccountState) (rows : List Row) (closed : Bool) (version : ℕ) (k u : ℕ) (a now : AccountState) (r row : Row) → a ≡ get_or accounts k a → r ≡ get_or rows u r → now ≡ a → row ≡ r → book_state origins (set accounts k now) (set rows u row) closed version ≡ book_state origins accounts rows closed version
same-state origins accounts rows closed version k u a now r row was is same same_row =
    let one : set accounts k now ≡ accounts = ap (λ (x : AccountState). set accounts k x) (same ∙ was) ∙ set-get_or accounts k a in
    let other : set rows u row ≡ rows = ap (λ (x : Row). set rows u x) (same_row ∙ is) ∙ set-get_or rows u r in
    λ i. book_state origins (one i) (other i) closed version

-- The set has the contract of a hold.

pub held-known : (set' : Tables) (f : BookState) (k j : ℕ) → IsKept set' f → k < length f.state.accounts → j < length (account_at f.state.accounts k).holds → has_contract set' (hold_at (account_at f.state.accounts k).holds j).contract ≡ true
held-known set' f k j kept inside held =
    All-get_or (λ (y : Held). has_contract set' y.contract ≡ true) (account_at f.state.accounts k).holds j no_hold held (All-get_or (IsKnown set') f.state.accounts k no_account inside kept.known).holds

-- What a hold is answered.

new-state : (origins : List Origin) (accounts : List AccountState) (rows : List Row) (closed : Bool) (version : ℕ) (k u : ℕ) (row : Row) (b now : AccountState) → b ≡ now → put (book_state origins accounts rows closed version).state k b ≡ (book_state origins (set accounts k now) (set rows u row) closed version).state
new-state origins accounts rows closed version k u row b now is =
    λ i. record { origins = origins; accounts = set accounts k (is i); units = sym (length-set rows u row) i; closed = closed; version = version }

held-short : (set' : Tables) (f : BookState) (at : ℕ × ℕ) (a : AccountState) (r : Row) (h : Hold) (b : Bool) → Reads set' f at.0 at.1 a r h.contract → lacks_room (row_with set' (hold_change at.1 h.quantity h.limit) r) ≡ b → lacks_room (row_of set' (state-held f.state at h).accounts (account_at f.state.accounts at.0).unit) ≡ b
held-short set' f at a r h b reads is =
    subst (λ (x : AccountState). lacks_room (row_of set' (set f.state.accounts at.0 (with_hold x (new_hold h))) x.unit) ≡ b) (account-read set' f at.0 at.1 a r h.contract reads)
    (ap lacks_room (sym (hold-row set' f at.0 at.1 a r h reads)) ∙ is)

pub hold-done : (set' : Tables) (origins : List Origin) (accounts : List AccountState) (rows : List Row) (closed : Bool) (version : ℕ) (at : ℕ × ℕ) (u : ℕ) (a now : AccountState) (r row : Row) (h : Hold) → Reads set' (book_state origins accounts rows closed version) at.0 at.1 a r h.contract → hold_places set' (book_state origins accounts rows closed version).state h ≡ Ok at → lacks_room (row_with set' (hold_change at.1 h.quantity h.limit) r) ≡ false → now ≡ with_hold a (new_hold h) → entered set' (book_state origins accounts rows closed version).state h ≡ Ok (book_state origins (set accounts at.0 now) (set rows u row) closed version).state
hold-done set' origins accounts rows closed version at u a now r row h reads places room added =
    let f = book_state origins accounts rows closed version in
    let x = new_hold h in
    entered-done set' f.state at h places (held-short set' f at a r h false reads room)
    ∙ ap (λ (s : State). Ok s) (new-state origins accounts rows closed version at.0 u row (with_hold (account_at accounts at.0) x) now (ap (λ (y : AccountState). with_hold y x) (sym (account-read set' f at.0 at.1 a r h.contract reads)) ∙ sym added))

pub hold-refused : (set' : Tables) (f new : BookState) (at : ℕ × ℕ) (a : AccountState) (r : Row) (h : Hold) (why : StepFault) → Reads set' f at.0 at.1 a r h.contract → hold_places set' f.state h ≡ Ok at → AsksRoom {X = Unit {0}} (row_with set' (hold_change at.1 h.quantity h.limit) r) (Err why) → new ≡ f → Steps {X = Unit {0}} (entered set' f.state h) (Err why) f new
hold-refused set' f new at a r h (Refused why) reads places asks same =
    (entered-short set' f.state at h places (held-short set' f at a r h true reads asks.1) ∙ ap (λ (x : Refusal). Err x) (sym asks.0), same)
hold-refused set' f new at a r h Memory reads places asks same =
    (subst AsksMemory (sym (entered-by set' f.state at h places)) (room-asked (account_at f.state.accounts at.0).unit set' (state-held f.state at h)), same)
