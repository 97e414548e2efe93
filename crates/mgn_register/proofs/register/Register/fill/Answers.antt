use Rattle.std.proofs.Common.{◌≡◌, ℕ, ◌<◌, ap, ◌∙◌, sym, subst, rules, get_or, set, length, true, false}
use Rattle.std.specs.Prelude.{Ok}
use Rattle.std.proofs.lemmas.List.{get_or_default}
use Rattle.mgn_holds.specs.declared.held.Held.{Held}
use Rattle.mgn_holds.specs.Holds.{hold_at, covers}
use Rattle.mgn_lots.specs.declared.lot.Lot.{Lot}
use Rattle.mgn_lots.specs.Lots.{IsLot, is_full}
use Rattle.mgn_unit.specs.declared.change.Change.{Change}
use Rattle.mgn_unit.specs.Rows.{IsRoomy, Priced, Prices, row_with}
use Rattle.mgn_machine.specs.Refusals.{contract_of}
use Rattle.mgn_machine.specs.Holding.{with_fill, fill_places}
use Rattle.mgn_unit.specs.Changes.{fill_change}
use Rattle.mgn_machine.specs.State.{AccountState, no_account, account_at, traded_lot}
use Rattle.mgn_register.specs.BookStates.{BookState, IsKept, book_state}
use Rattle.mgn_register.proofs.Kept.{names-kept}
use Rattle.mgn_register.proofs.Holding.{Reads, same-state, fill-roomy, fill-kept}
use Rattle.mgn_plan.specs.declared.plans.Plan.{Plan}
use Rattle.mgn_plan.specs.declared.plans.Plan.TheVariants.{One}
use Rattle.mgn_register.proofs.Following.{follows-planned}
use Rattle.mgn_plan.specs.Plans.{in_unit_of, fill_plan, fill_plan_at}
use Rattle.mgn_register.proofs.register.Register.fill.Goals as goal

pub fill_hold-requires-clause-roomy : goal.fill_hold-requires-clause-roomy
fill_hold-requires-clause-roomy c =
    let r = c.self.inside in
    let set' = c.args.set.now in
    let f = book_state r.origins.items r.accounts.items r.rows.items r.closed r.version in
    let at : ℕ × ℕ = (c.in_ok-place.place, c.in_ok-place.hold) in
    let a = c.index_mut-owner.result.now in
    let account : a ≡ account_at c.args.self.now.state.accounts c.in_ok-place.place =
    c.index_mut-owner.ensures.value ∙ get_or_default c.self.inside.accounts.items c.in_ok-place.place a no_account (search rules)
    ∙ ap (λ (g : BookState). account_at g.state.accounts c.in_ok-place.place) c.self.view_is
    in
    let stands : contract_of c.args.set.now (hold_at a.holds c.in_ok-place.hold).contract ≡ Ok c.in_ok-place.i =
    ap (λ (x : AccountState). contract_of c.args.set.now (hold_at x.holds c.in_ok-place.hold).contract) account ∙ c.in_ok-place.ensures.stands
    in
    let inside : c.in_ok-place.hold < length a.holds = subst (λ (x : AccountState). c.in_ok-place.hold < length x.holds) (sym account) (c.in_ok-place.ensures.hold) in
    let row = c.index_mut-row.result.now in
    let reads : Reads set' f at.0 c.in_ok-place.i a row (hold_at a.holds at.1).contract = record {
      within = c.limits.ensures;
      kept = search rules;
      account = search rules;
      was = c.index_mut-owner.ensures.value;
      row = c.index_mut-row.ensures.value ∙ ap (λ (u : _). get_or r.rows.items u row) c.unit.ensures;
      stands = stands;
    } in
    let x = hold_at a.holds at.1 in
    let change = fill_change c.in_ok-place.i c.args.fill.now.quantity x.limit c.args.fill.now.premium in
    let is : c.of_fill-change.result ≡ change = c.of_fill-change.ensures.change ∙ ap (λ (y : Held). fill_change c.in_ok-place.i c.args.fill.now.quantity y.limit c.args.fill.now.premium) c.hold_at-held.ensures.held in
    let c_is : covers x c.args.fill.now.quantity ≡ true = ap (λ (y : AccountState). covers (hold_at y.holds at.1) c.args.fill.now.quantity) account ∙ c.in_ok-place.ensures.covers in
    subst (λ (change : Change). IsRoomy change row) (sym is) (fill-roomy set' f at.0 c.in_ok-place.i at.1 a row c.args.fill.now reads inside c_is)

pub returns-in_err-fill_hold-clause-kept : goal.returns-in_err-fill_hold-clause-kept
returns-in_err-fill_hold-clause-kept c =
    let r = c.self.inside in
    let set' = c.args.set.now in
    let f = book_state r.origins.items r.accounts.items r.rows.items r.closed r.version in
    let at : ℕ × ℕ = (c.in_ok-place.place, c.in_ok-place.hold) in
    let a = c.index_mut-owner.result.now in
    let account : a ≡ account_at c.args.self.now.state.accounts c.in_ok-place.place =
    c.index_mut-owner.ensures.value ∙ get_or_default c.self.inside.accounts.items c.in_ok-place.place a no_account (search rules)
    ∙ ap (λ (g : BookState). account_at g.state.accounts c.in_ok-place.place) c.self.view_is
    in
    let stands : contract_of c.args.set.now (hold_at a.holds c.in_ok-place.hold).contract ≡ Ok c.in_ok-place.i =
    ap (λ (x : AccountState). contract_of c.args.set.now (hold_at x.holds c.in_ok-place.hold).contract) account ∙ c.in_ok-place.ensures.stands
    in
    let inside : c.in_ok-place.hold < length a.holds = subst (λ (x : AccountState). c.in_ok-place.hold < length x.holds) (sym account) (c.in_ok-place.ensures.hold) in
    let row = c.index_mut-row.result.now in
    let reads : Reads set' f at.0 c.in_ok-place.i a row (hold_at a.holds at.1).contract = record {
      within = c.limits.ensures;
      kept = search rules;
      account = search rules;
      was = c.index_mut-owner.ensures.value;
      row = c.index_mut-row.ensures.value ∙ ap (λ (u : _). get_or r.rows.items u row) c.unit.ensures;
      stands = stands;
    } in
    let same : c.fill_hold.new.owner ≡ a = search rules in
    let same_row : c.fill_hold.new.row ≡ row = search rules in
    subst (IsKept set') (sym (same-state r.origins.items r.accounts.items r.rows.items r.closed r.version at.0 c.unit.result a c.fill_hold.new.owner row c.fill_hold.new.row c.index_mut-owner.ensures.value c.index_mut-row.ensures.value same same_row))
    reads.kept

pub invariant_of-self-2 : goal.invariant_of-self-2
invariant_of-self-2 c =
    let a = c.index_mut-owner.result.now in
    let added : c.fill_hold.new.owner ≡ with_fill a c.in_ok-place.hold c.traded_lot-lot.result = search rules in
    names-kept c.self.inside.names c.self.inside.accounts.items c.in_ok-place.place c.fill_hold.new.owner a c.self.invariant
    (ap (λ (x : AccountState). x.name) (added ∙ ap (λ (x : AccountState). with_fill x c.in_ok-place.hold c.traded_lot-lot.result) c.index_mut-owner.ensures.value))

pub returns-clause-kept : goal.returns-clause-kept
returns-clause-kept c =
    let r = c.self.inside in
    let set' = c.args.set.now in
    let f = book_state r.origins.items r.accounts.items r.rows.items r.closed r.version in
    let at : ℕ × ℕ = (c.in_ok-place.place, c.in_ok-place.hold) in
    let a = c.index_mut-owner.result.now in
    let account : a ≡ account_at c.args.self.now.state.accounts c.in_ok-place.place =
    c.index_mut-owner.ensures.value ∙ get_or_default c.self.inside.accounts.items c.in_ok-place.place a no_account (search rules)
    ∙ ap (λ (g : BookState). account_at g.state.accounts c.in_ok-place.place) c.self.view_is
    in
    let stands : contract_of c.args.set.now (hold_at a.holds c.in_ok-place.hold).contract ≡ Ok c.in_ok-place.i =
    ap (λ (x : AccountState). contract_of c.args.set.now (hold_at x.holds c.in_ok-place.hold).contract) account ∙ c.in_ok-place.ensures.stands
    in
    let inside : c.in_ok-place.hold < length a.holds = subst (λ (x : AccountState). c.in_ok-place.hold < length x.holds) (sym account) (c.in_ok-place.ensures.hold) in
    let row = c.index_mut-row.result.now in
    let reads : Reads set' f at.0 c.in_ok-place.i a row (hold_at a.holds at.1).contract = record {
      within = c.limits.ensures;
      kept = search rules;
      account = search rules;
      was = c.index_mut-owner.ensures.value;
      row = c.index_mut-row.ensures.value ∙ ap (λ (u : _). get_or r.rows.items u row) c.unit.ensures;
      stands = stands;
    } in
    let x = hold_at a.holds at.1 in
    let change = fill_change c.in_ok-place.i c.args.fill.now.quantity x.limit c.args.fill.now.premium in
    let is : c.of_fill-change.result ≡ change = c.of_fill-change.ensures.change ∙ ap (λ (y : Held). fill_change c.in_ok-place.i c.args.fill.now.quantity y.limit c.args.fill.now.premium) c.hold_at-held.ensures.held in
    let c_is : covers x c.args.fill.now.quantity ≡ true = ap (λ (y : AccountState). covers (hold_at y.holds at.1) c.args.fill.now.quantity) account ∙ c.in_ok-place.ensures.covers in
    let lot = traded_lot c.args.fill.now.lot x.contract c.args.fill.now.quantity c.args.fill.now.premium in
    let lot_is : c.traded_lot-lot.result ≡ lot = c.traded_lot-lot.ensures.lot ∙ ap (λ (y : Held). traded_lot c.args.fill.now.lot y.contract c.args.fill.now.quantity c.args.fill.now.premium) c.hold_at-held.ensures.held in
    let said : (priced : Priced) × Prices set' c.of_fill-change.result row priced = search rules in
    let prices : Prices set' change row said.0 = subst (λ (y : Change). Prices set' y row said.0) is said.1 in
    let changed : c.fill_hold.new.row ≡ row_with set' c.of_fill-change.result row = search rules in
    let filled : c.fill_hold.new.owner ≡ with_fill a at.1 c.traded_lot-lot.result = search rules in
    let limits : IsLot lot = subst IsLot lot_is c.traded_lot-lot.ensures.limits in
    let few : is_full a.lots ≡ false = ap (λ (y : AccountState). is_full y.lots) account ∙ c.in_ok-place.ensures.few in
    let room : IsRoomy change row = fill-roomy set' f at.0 c.in_ok-place.i at.1 a row c.args.fill.now reads inside c_is in
    subst (λ (u : _). IsKept set' (book_state r.origins.items (set r.accounts.items at.0 c.fill_hold.new.owner) (set r.rows.items u c.fill_hold.new.row) r.closed r.version)) (sym c.unit.ensures)
    (fill-kept set' r.origins.items r.accounts.items r.rows.items r.closed r.version at.0 c.in_ok-place.i at.1 a c.fill_hold.new.owner row c.fill_hold.new.row c.args.fill.now said.0 reads inside c_is room prices limits few (changed ∙ ap (λ (y : Change). row_with set' y row) is) (filled ∙ ap (λ (y : Lot). with_fill a at.1 y) lot_is))

pub returns-clause-follows : goal.returns-clause-follows
returns-clause-follows c =
    let r = c.self.inside in
    let set' = c.args.set.now in
    let f = book_state r.origins.items r.accounts.items r.rows.items r.closed r.version in
    let g = c.args.self.now in
    let m = c.args.fill.now in
    let k = c.in_ok-place.place in
    let j = c.in_ok-place.hold in
    let a = c.index_mut-owner.result.now in
    let row = c.index_mut-row.result.now in
    let i = c.in_ok-place.i in
    let changed : c.fill_hold.new.row ≡ row_with set' c.of_fill-change.result row = search rules in
    let within : k < length r.accounts.items = search rules in
    let inside : c.unit.result < length r.rows.items = search rules in
    let account : a ≡ account_at g.state.accounts k =
    c.index_mut-owner.ensures.value ∙ get_or_default r.accounts.items k a no_account within ∙ ap (λ (b : BookState). account_at b.state.accounts k) c.self.view_is
    in
    let is : c.of_fill-change.result ≡ fill_change i m.quantity (hold_at (account_at g.state.accounts k).holds j).limit m.premium =
    c.of_fill-change.ensures.change ∙ ap (λ (y : Held). fill_change i m.quantity y.limit m.premium) c.hold_at-held.ensures.held
    ∙ ap (λ (x : AccountState). fill_change i m.quantity (hold_at x.holds j).limit m.premium) account
    in
    let plan : BookState → Plan = λ b. fill_plan set' b.state m (fill_places set' b.state m) in
    let planned : plan g ≡ One (in_unit_of g.state k c.of_fill-change.result) =
    ap (fill_plan set' g.state m) (sym c.in_ok-place.ensures.places)
    ∙ ap (fill_plan_at g.state k (hold_at (account_at g.state.accounts k).holds j) m) c.in_ok-place.ensures.stands
    ∙ ap (λ (x : Change). One (in_unit_of g.state k x)) (sym is)
    in
    follows-planned set' f g plan k c.unit.result a c.of_fill-change.result row c.fill_hold.new.row c.self.view_is within c.index_mut-owner.ensures.value c.unit.ensures inside c.index_mut-row.ensures.value planned changed
