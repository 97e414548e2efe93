use Rattle.std.proofs.Common.{◌≡◌, ◌≢◌, ◌<◌, List, ap, ◌∙◌, sym, subst, length, rules}
use Rattle.std.specs.Prelude.{neg_ℤ, Ok, OnOk, ◌+ℤ◌}
use Rattle.std.specs.Vec.{with_items}
use Rattle.std.proofs.lemmas.List.{get_or_default, places, with_items_is}
use Rattle.mgn_ids.specs.Amounts.{IsLotQuantity}
use Rattle.mgn_lots.specs.Lots.{is_full}
use Rattle.mgn_machine.specs.Refusals.{account_names, is_over}
use Rattle.mgn_machine.specs.State.{AccountState, account_at, no_account}
use Rattle.mgn_machine.specs.Transfers.{move_places, moved, quantity_in_unit}
use Rattle.mgn_span.specs.Positions.{IsNet}
use Rattle.mgn_span.specs.Scan.{value_at}
use Rattle.mgn_unit.specs.declared.row.Row.{Row}
use Rattle.mgn_unit.specs.Changes.{moved_change}
use Rattle.mgn_unit.specs.Rows.{IsChange}
use Rattle.mgn_register.specs.declared.transfers.Party.{Party}
use Rattle.mgn_register.specs.BookStates.{BookState, IsKept, Steps, book_state}
use Rattle.mgn_plan.specs.declared.plans.Plan.{Plan}
use Rattle.mgn_plan.specs.declared.plans.Plan.TheVariants.{Nothing, Two}
use Rattle.mgn_plan.specs.Plans.{FollowsPlan, in_unit_of, move_plan, row_at}
use Rattle.mgn_register.specs.TransferRows.{TakesChange, party_of}
use Rattle.mgn_register.proofs.Following.{across-follows, both-none, both-two, change_of, within-follows}
use Rattle.mgn_register.proofs.Moving.{Moving, EnteredAcross, EnteredWithin, giver_of, taker_of, inside-set, giver-takes, taker-takes, within-fits, within-after, within-steps, across-after, across-steps, names-after}
use Rattle.mgn_register.proofs.register.Register.transfer.Goals as goal
use Rattle.mgn_register.proofs.register.Register.transfer.Goals.{After-party_of-taker}

-- the book before
abbrev book : After-party_of-taker → BookState
book c =
    let r = c.self.inside in
    book_state r.origins.items r.accounts.items r.rows.items r.closed r.version

moving : (c : After-party_of-taker) → Moving c.args.set.now (book c) c.in_ok-from.from c.in_ok-from.to c.in_ok-from.i c.args.transfer.now
moving c =
    let set' = c.args.set.now in
    let m = c.args.transfer.now in
    let g = c.in_ok-from.from in
    let t = c.in_ok-from.to in
    let back = sym c.self.view_is in
    record {
      within = c.limits.ensures;
      kept = subst (IsKept set') back c.requires.kept;
      giver = subst (λ (f : BookState). g < length f.state.accounts) back c.in_ok-from.ensures.giver;
      taker = subst (λ (f : BookState). t < length f.state.accounts) back c.in_ok-from.ensures.taker;
      apart = c.in_ok-from.ensures.apart;
      stands = c.in_ok-from.ensures.stands;
      giver_few = ap (λ (f : BookState). is_full (account_at f.state.accounts g).lots) c.self.view_is ∙ c.in_ok-from.ensures.giver_few;
      taker_few = ap (λ (f : BookState). is_full (account_at f.state.accounts t).lots) c.self.view_is ∙ c.in_ok-from.ensures.taker_few;
      giver_room = ap (λ (f : BookState). is_over f.state g m.contract (quantity_in_unit f.state g t m.quantity)) c.self.view_is ∙ c.in_ok-from.ensures.giver_room;
      taker_room = ap (λ (f : BookState). is_over f.state t m.contract (quantity_in_unit f.state g t m.quantity)) c.self.view_is ∙ c.in_ok-from.ensures.taker_room;
      quantity = subst IsLotQuantity c.quantity-quantity.ensures.value c.quantity-quantity.ensures.limits;
    }

places_are : (c : After-party_of-taker) → move_places c.args.set.now (book c).state c.args.transfer.now ≡ Ok (c.in_ok-from.from, c.in_ok-from.to, c.in_ok-from.i)
places_are c = ap (λ (f : BookState). move_places c.args.set.now f.state c.args.transfer.now) c.self.view_is ∙ sym c.in_ok-from.ensures.places

giver : (c : After-party_of-taker) → c.party_of-giver.result ≡ giver_of (book c) c.in_ok-from.from c.in_ok-from.i c.args.transfer.now
giver c =
    let g = c.in_ok-from.from in
    let account = c.index.ensures ∙ get_or_default c.self.inside.accounts.items g c.index.result.now no_account (moving c).giver in
    let quantity = c.negated.ensures ∙ ap neg_ℤ c.quantity-quantity.ensures.value in
    c.party_of-giver.ensures.party ∙ (λ j. party_of (account j) g c.in_ok-from.i c.args.transfer.now (quantity j))

taker : (c : After-party_of-taker) → c.party_of-taker.result ≡ taker_of (book c) c.in_ok-from.to c.in_ok-from.i c.args.transfer.now
taker c =
    let t = c.in_ok-from.to in
    let account = c.index-2.ensures ∙ get_or_default c.self.inside.accounts.items t c.index-2.result.now no_account (moving c).taker in
    let quantity = c.quantity-quantity.ensures.value in
    c.party_of-taker.ensures.party ∙ (λ j. party_of (account j) t c.in_ok-from.i c.args.transfer.now (quantity j))

inside : (c : After-party_of-taker) → c.in_ok-from.i < length c.args.set.now.contracts
inside c = inside-set c.args.set.now (book c) c.in_ok-from.from c.in_ok-from.to c.in_ok-from.i c.args.transfer.now (moving c)

-- the units of both accounts, where those of their parties are the same, or are not
one_unit : (c : After-party_of-taker) → c.party_of-giver.result.unit ≡ c.party_of-taker.result.unit → (account_at (book c).state.accounts c.in_ok-from.to).unit ≡ (account_at (book c).state.accounts c.in_ok-from.from).unit
one_unit c same = sym (ap (λ (p : Party). p.unit) (taker c)) ∙ sym same ∙ ap (λ (p : Party). p.unit) (giver c)

two_units : (c : After-party_of-taker) → c.party_of-giver.result.unit ≢ c.party_of-taker.result.unit → (account_at (book c).state.accounts c.in_ok-from.to).unit ≢ (account_at (book c).state.accounts c.in_ok-from.from).unit
two_units c apart same = apart (ap (λ (p : Party). p.unit) (giver c) ∙ sym same ∙ sym (ap (λ (p : Party). p.unit) (taker c)))

apart_places : (c : After-party_of-taker) → c.party_of-taker.result.place ≢ c.party_of-giver.result.place
apart_places c same = (moving c).apart (sym (ap (λ (p : Party). p.place) (taker c)) ∙ same ∙ ap (λ (p : Party). p.place) (giver c))

pub enter_within-requires-clause-contract : goal.enter_within-requires-clause-contract
enter_within-requires-clause-contract c =
    let p = (goal.at.enter_within-requires-clause-contract c).After-party_of-taker in
    subst (λ (x : Party). x.change.contract < length c.args.set.now.contracts) (sym (giver p)) (inside p)

pub enter_within-requires-clause-sizes : goal.enter_within-requires-clause-sizes
enter_within-requires-clause-sizes c =
    let p = (goal.at.enter_within-requires-clause-sizes c).After-party_of-taker in
    let set' = c.args.set.now in
    let Fits : List Row × (Party × Party) → Type 0 = λ x. IsNet (value_at (row_at set' x.0 x.1.0.unit).sizes x.1.0.change.contract +ℤ (x.1.0.change.size +ℤ x.1.1.change.size)) in
    subst Fits (λ j. (sym c.deref_mut-then-giver-taker.ensures.value j, (sym (giver p) j, sym (taker p) j)))
    (within-fits set' (book p) c.in_ok-from.from c.in_ok-from.to c.in_ok-from.i c.args.transfer.now (moving p) (one_unit p c.if-giver-taker.true))

pub enter_across-requires-clause-giver_changes : goal.enter_across-requires-clause-giver_changes
enter_across-requires-clause-giver_changes c =
    let p = (goal.at.enter_across-requires-clause-giver_changes c).After-party_of-taker in
    let set' = c.args.set.now in
    let change = subst (λ (x : Party). IsChange set' x.change) (giver p) (c.party_of-giver.ensures.possible set' (inside p)) in
    subst (λ (x : List Row × Party). TakesChange set' x.0 x.1) (λ j. (sym c.deref_mut-3.ensures.value j, sym (giver p) j))
    (giver-takes set' (book p) c.in_ok-from.from c.in_ok-from.to c.in_ok-from.i c.args.transfer.now (moving p) change)

pub enter_across-requires-clause-taker_changes : goal.enter_across-requires-clause-taker_changes
enter_across-requires-clause-taker_changes c =
    let p = (goal.at.enter_across-requires-clause-taker_changes c).After-party_of-taker in
    let set' = c.args.set.now in
    let change = subst (λ (x : Party). IsChange set' x.change) (taker p) (c.party_of-taker.ensures.possible set' (inside p)) in
    subst (λ (x : List Row × Party). TakesChange set' x.0 x.1) (λ j. (sym c.deref_mut-3.ensures.value j, sym (taker p) j))
    (taker-takes set' (book p) c.in_ok-from.from c.in_ok-from.to c.in_ok-from.i c.args.transfer.now (moving p) change)

pub invariant_of-self : goal.invariant_of-self
invariant_of-self c =
    let p = (goal.at.invariant_of-self c).After-party_of-taker in
    let r = c.self.inside in
    let now = c.enter_within.new.accounts in
    let accounts_are : (with_items r.accounts now).items ≡ now = with_items_is r.accounts now (search (rules, places)) in
    let names : r.names ≡ account_names c.deref_mut.result.now = c.self.invariant ∙ ap account_names (sym c.deref_mut.ensures.value) in
    names-after r.names c.deref_mut.result.now now c.party_of-giver.result c.party_of-taker.result c.enter_within.result (apart_places p) names c.enter_within.ensures.accounts c.enter_within.ensures.same_accounts
    ∙ ap account_names (sym accounts_are)

pub returns-then-giver-taker-clause-kept : goal.returns-then-giver-taker-clause-kept
returns-then-giver-taker-clause-kept c =
    let p = (goal.at.returns-then-giver-taker-clause-kept c).After-party_of-taker in
    let set' = c.args.set.now in
    let r = c.self.inside in
    let now = c.enter_within.new.accounts in
    let after = c.enter_within.new.rows in
    let entered : EnteredWithin set' c.deref_mut.result.now c.deref_mut-then-giver-taker.result.now c.party_of-giver.result c.party_of-taker.result c.enter_within.result now after =
    record { accounts_are = c.enter_within.ensures.accounts; rows_are = c.enter_within.ensures.rows; room = c.enter_within.ensures.room; same_accounts = c.enter_within.ensures.same_accounts; same_rows = c.enter_within.ensures.same_rows }
    in
    let all : EnteredWithin set' r.accounts.items r.rows.items (giver_of (book p) c.in_ok-from.from c.in_ok-from.i c.args.transfer.now) (taker_of (book p) c.in_ok-from.to c.in_ok-from.i c.args.transfer.now) c.enter_within.result now after =
    subst (λ (x : (List AccountState × List Row) × (Party × Party)). EnteredWithin set' x.0.0 x.0.1 x.1.0 x.1.1 c.enter_within.result now after)
    (λ j. ((c.deref_mut.ensures.value j, c.deref_mut-then-giver-taker.ensures.value j), (giver p j, taker p j))) entered
    in
    let accounts_are : (with_items r.accounts now).items ≡ now = with_items_is r.accounts now (search (rules, places)) in
    let rows_are : (with_items r.rows after).items ≡ after = with_items_is r.rows after (search (rules, places)) in
    let unit = one_unit p c.if-giver-taker.true in
    subst (λ (x : List AccountState × List Row). IsKept set' (book_state r.origins.items x.0 x.1 r.closed r.version)) (λ j. (sym accounts_are j, sym rows_are j))
    (within-after set' r.origins.items r.accounts.items now r.rows.items after r.closed r.version c.in_ok-from.from c.in_ok-from.to c.in_ok-from.i c.args.transfer.now c.enter_within.result (moving p) unit all)

pub returns-then-giver-taker-clause-steps : goal.returns-then-giver-taker-clause-steps
returns-then-giver-taker-clause-steps c =
    let p = (goal.at.returns-then-giver-taker-clause-steps c).After-party_of-taker in
    let set' = c.args.set.now in
    let r = c.self.inside in
    let now = c.enter_within.new.accounts in
    let after = c.enter_within.new.rows in
    let entered : EnteredWithin set' c.deref_mut.result.now c.deref_mut-then-giver-taker.result.now c.party_of-giver.result c.party_of-taker.result c.enter_within.result now after =
    record { accounts_are = c.enter_within.ensures.accounts; rows_are = c.enter_within.ensures.rows; room = c.enter_within.ensures.room; same_accounts = c.enter_within.ensures.same_accounts; same_rows = c.enter_within.ensures.same_rows }
    in
    let all : EnteredWithin set' r.accounts.items r.rows.items (giver_of (book p) c.in_ok-from.from c.in_ok-from.i c.args.transfer.now) (taker_of (book p) c.in_ok-from.to c.in_ok-from.i c.args.transfer.now) c.enter_within.result now after =
    subst (λ (x : (List AccountState × List Row) × (Party × Party)). EnteredWithin set' x.0.0 x.0.1 x.1.0 x.1.1 c.enter_within.result now after)
    (λ j. ((c.deref_mut.ensures.value j, c.deref_mut-then-giver-taker.ensures.value j), (giver p j, taker p j))) entered
    in
    let accounts_are : (with_items r.accounts now).items ≡ now = with_items_is r.accounts now (search (rules, places)) in
    let rows_are : (with_items r.rows after).items ≡ after = with_items_is r.rows after (search (rules, places)) in
    let unit = one_unit p c.if-giver-taker.true in
    subst (λ (x : BookState × (List AccountState × List Row)). Steps (moved set' x.0.state c.args.transfer.now) c.enter_within.result x.0 (book_state r.origins.items x.1.0 x.1.1 r.closed r.version)) (λ j. (c.self.view_is j, (sym accounts_are j, sym rows_are j)))
    (within-steps set' r.origins.items r.accounts.items now r.rows.items after r.closed r.version c.in_ok-from.from c.in_ok-from.to c.in_ok-from.i c.args.transfer.now c.enter_within.result (moving p) (places_are p) unit all)

pub invariant_of-self-2 : goal.invariant_of-self-2
invariant_of-self-2 c =
    let p = (goal.at.invariant_of-self-2 c).After-party_of-taker in
    let r = c.self.inside in
    let now = c.enter_across.new.accounts in
    let accounts_are : (with_items r.accounts now).items ≡ now = with_items_is r.accounts now (search (rules, places)) in
    let names : r.names ≡ account_names c.deref_mut-2.result.now = c.self.invariant ∙ ap account_names (sym c.deref_mut-2.ensures.value) in
    names-after r.names c.deref_mut-2.result.now now c.party_of-giver.result c.party_of-taker.result c.enter_across.result (apart_places p) names c.enter_across.ensures.accounts c.enter_across.ensures.same_accounts
    ∙ ap account_names (sym accounts_are)

pub returns-clause-kept : goal.returns-clause-kept
returns-clause-kept c =
    let p = (goal.at.returns-clause-kept c).After-party_of-taker in
    let set' = c.args.set.now in
    let r = c.self.inside in
    let now = c.enter_across.new.accounts in
    let after = c.enter_across.new.rows in
    let entered : EnteredAcross set' c.deref_mut-2.result.now c.deref_mut-3.result.now c.party_of-giver.result c.party_of-taker.result c.enter_across.result now after =
    record { accounts_are = c.enter_across.ensures.accounts; rows_are = c.enter_across.ensures.rows; giver_priced = c.enter_across.ensures.giver_priced; taker_priced = c.enter_across.ensures.taker_priced; room = c.enter_across.ensures.room; same_accounts = c.enter_across.ensures.same_accounts; same_rows = c.enter_across.ensures.same_rows }
    in
    let all : EnteredAcross set' r.accounts.items r.rows.items (giver_of (book p) c.in_ok-from.from c.in_ok-from.i c.args.transfer.now) (taker_of (book p) c.in_ok-from.to c.in_ok-from.i c.args.transfer.now) c.enter_across.result now after =
    subst (λ (x : (List AccountState × List Row) × (Party × Party)). EnteredAcross set' x.0.0 x.0.1 x.1.0 x.1.1 c.enter_across.result now after)
    (λ j. ((c.deref_mut-2.ensures.value j, c.deref_mut-3.ensures.value j), (giver p j, taker p j))) entered
    in
    let accounts_are : (with_items r.accounts now).items ≡ now = with_items_is r.accounts now (search (rules, places)) in
    let rows_are : (with_items r.rows after).items ≡ after = with_items_is r.rows after (search (rules, places)) in
    let unit = two_units p c.if-giver-taker.false in
    subst (λ (x : List AccountState × List Row). IsKept set' (book_state r.origins.items x.0 x.1 r.closed r.version)) (λ j. (sym accounts_are j, sym rows_are j))
    (across-after set' r.origins.items r.accounts.items now r.rows.items after r.closed r.version c.in_ok-from.from c.in_ok-from.to c.in_ok-from.i c.args.transfer.now c.enter_across.result (moving p) unit all)

pub returns-clause-steps : goal.returns-clause-steps
returns-clause-steps c =
    let p = (goal.at.returns-clause-steps c).After-party_of-taker in
    let set' = c.args.set.now in
    let r = c.self.inside in
    let now = c.enter_across.new.accounts in
    let after = c.enter_across.new.rows in
    let entered : EnteredAcross set' c.deref_mut-2.result.now c.deref_mut-3.result.now c.party_of-giver.result c.party_of-taker.result c.enter_across.result now after =
    record { accounts_are = c.enter_across.ensures.accounts; rows_are = c.enter_across.ensures.rows; giver_priced = c.enter_across.ensures.giver_priced; taker_priced = c.enter_across.ensures.taker_priced; room = c.enter_across.ensures.room; same_accounts = c.enter_across.ensures.same_accounts; same_rows = c.enter_across.ensures.same_rows }
    in
    let all : EnteredAcross set' r.accounts.items r.rows.items (giver_of (book p) c.in_ok-from.from c.in_ok-from.i c.args.transfer.now) (taker_of (book p) c.in_ok-from.to c.in_ok-from.i c.args.transfer.now) c.enter_across.result now after =
    subst (λ (x : (List AccountState × List Row) × (Party × Party)). EnteredAcross set' x.0.0 x.0.1 x.1.0 x.1.1 c.enter_across.result now after)
    (λ j. ((c.deref_mut-2.ensures.value j, c.deref_mut-3.ensures.value j), (giver p j, taker p j))) entered
    in
    let accounts_are : (with_items r.accounts now).items ≡ now = with_items_is r.accounts now (search (rules, places)) in
    let rows_are : (with_items r.rows after).items ≡ after = with_items_is r.rows after (search (rules, places)) in
    let unit = two_units p c.if-giver-taker.false in
    subst (λ (x : BookState × (List AccountState × List Row)). Steps (moved set' x.0.state c.args.transfer.now) c.enter_across.result x.0 (book_state r.origins.items x.1.0 x.1.1 r.closed r.version)) (λ j. (c.self.view_is j, (sym accounts_are j, sym rows_are j)))
    (across-steps set' r.origins.items r.accounts.items now r.rows.items after r.closed r.version c.in_ok-from.from c.in_ok-from.to c.in_ok-from.i c.args.transfer.now c.enter_across.result (moving p) (places_are p) unit all)

-- the units of both parties are there
given_inside : (c : After-party_of-taker) → (giver_of (book c) c.in_ok-from.from c.in_ok-from.i c.args.transfer.now).unit < length (book c).rows
given_inside c =
    let set' = c.args.set.now in
    let change = subst (λ (x : Party). IsChange set' x.change) (giver c) (c.party_of-giver.ensures.possible set' (inside c)) in
    (giver-takes set' (book c) c.in_ok-from.from c.in_ok-from.to c.in_ok-from.i c.args.transfer.now (moving c) change).inside

taken_inside : (c : After-party_of-taker) → (taker_of (book c) c.in_ok-from.to c.in_ok-from.i c.args.transfer.now).unit < length (book c).rows
taken_inside c =
    let set' = c.args.set.now in
    let change = subst (λ (x : Party). IsChange set' x.change) (taker c) (c.party_of-taker.ensures.possible set' (inside c)) in
    (taker-takes set' (book c) c.in_ok-from.from c.in_ok-from.to c.in_ok-from.i c.args.transfer.now (moving c) change).inside

pub returns-then-giver-taker-clause-follows : goal.returns-then-giver-taker-clause-follows
returns-then-giver-taker-clause-follows c =
    let p = (goal.at.returns-then-giver-taker-clause-follows c).After-party_of-taker in
    let set' = c.args.set.now in
    let m = c.args.transfer.now in
    let r = c.self.inside in
    let f = book p in
    let now = c.enter_within.new.accounts in
    let after = c.enter_within.new.rows in
    let entered : EnteredWithin set' c.deref_mut.result.now c.deref_mut-then-giver-taker.result.now c.party_of-giver.result c.party_of-taker.result c.enter_within.result now after =
    record { accounts_are = c.enter_within.ensures.accounts; rows_are = c.enter_within.ensures.rows; room = c.enter_within.ensures.room; same_accounts = c.enter_within.ensures.same_accounts; same_rows = c.enter_within.ensures.same_rows }
    in
    let all : EnteredWithin set' r.accounts.items r.rows.items (giver_of f c.in_ok-from.from c.in_ok-from.i m) (taker_of f c.in_ok-from.to c.in_ok-from.i m) c.enter_within.result now after =
    subst (λ (x : (List AccountState × List Row) × (Party × Party)). EnteredWithin set' x.0.0 x.0.1 x.1.0 x.1.1 c.enter_within.result now after)
    (λ j. ((c.deref_mut.ensures.value j, c.deref_mut-then-giver-taker.ensures.value j), (giver p j, taker p j))) entered
    in
    let rows_are : (with_items r.rows after).items ≡ after = with_items_is r.rows after (search (rules, places)) in
    let plan : Plan = move_plan f.state m (move_places set' f.state m) in
    let none : plan ≡ Nothing =
    ap (move_plan f.state m) (places_are p)
    ∙ both-none (in_unit_of f.state c.in_ok-from.from (moved_change c.in_ok-from.i (neg_ℤ m.quantity))) (in_unit_of f.state c.in_ok-from.to (moved_change c.in_ok-from.i m.quantity)) (sym (one_unit p c.if-giver-taker.true))
    in
    subst (λ (x : BookState × List Row). OnOk c.enter_within.result (FollowsPlan set' (move_plan x.0.state m (move_places set' x.0.state m)) x.0.rows x.1)) (λ j. (c.self.view_is j, sym rows_are j))
    (within-follows set' r.accounts.items now r.rows.items after (giver_of f c.in_ok-from.from c.in_ok-from.i m) (taker_of f c.in_ok-from.to c.in_ok-from.i m) plan c.enter_within.result none (given_inside p) all)

pub returns-clause-follows : goal.returns-clause-follows
returns-clause-follows c =
    let p = (goal.at.returns-clause-follows c).After-party_of-taker in
    let set' = c.args.set.now in
    let m = c.args.transfer.now in
    let r = c.self.inside in
    let f = book p in
    let now = c.enter_across.new.accounts in
    let after = c.enter_across.new.rows in
    let entered : EnteredAcross set' c.deref_mut-2.result.now c.deref_mut-3.result.now c.party_of-giver.result c.party_of-taker.result c.enter_across.result now after =
    record { accounts_are = c.enter_across.ensures.accounts; rows_are = c.enter_across.ensures.rows; giver_priced = c.enter_across.ensures.giver_priced; taker_priced = c.enter_across.ensures.taker_priced; room = c.enter_across.ensures.room; same_accounts = c.enter_across.ensures.same_accounts; same_rows = c.enter_across.ensures.same_rows }
    in
    let all : EnteredAcross set' r.accounts.items r.rows.items (giver_of f c.in_ok-from.from c.in_ok-from.i m) (taker_of f c.in_ok-from.to c.in_ok-from.i m) c.enter_across.result now after =
    subst (λ (x : (List AccountState × List Row) × (Party × Party)). EnteredAcross set' x.0.0 x.0.1 x.1.0 x.1.1 c.enter_across.result now after)
    (λ j. ((c.deref_mut-2.ensures.value j, c.deref_mut-3.ensures.value j), (giver p j, taker p j))) entered
    in
    let rows_are : (with_items r.rows after).items ≡ after = with_items_is r.rows after (search (rules, places)) in
    let apart = two_units p c.if-giver-taker.false in
    let plan : Plan = move_plan f.state m (move_places set' f.state m) in
    let two : plan ≡ Two (change_of (giver_of f c.in_ok-from.from c.in_ok-from.i m)) (change_of (taker_of f c.in_ok-from.to c.in_ok-from.i m)) =
    ap (move_plan f.state m) (places_are p)
    ∙ both-two (in_unit_of f.state c.in_ok-from.from (moved_change c.in_ok-from.i (neg_ℤ m.quantity))) (in_unit_of f.state c.in_ok-from.to (moved_change c.in_ok-from.i m.quantity)) (λ e. apart (sym e))
    in
    subst (λ (x : BookState × List Row). OnOk c.enter_across.result (FollowsPlan set' (move_plan x.0.state m (move_places set' x.0.state m)) x.0.rows x.1)) (λ j. (c.self.view_is j, sym rows_are j))
    (across-follows set' r.accounts.items now r.rows.items after (giver_of f c.in_ok-from.from c.in_ok-from.i m) (taker_of f c.in_ok-from.to c.in_ok-from.i m) plan c.enter_across.result two (given_inside p) (taken_inside p) apart all)
