use Rattle.std.proofs.Common.{◌≡◌, ap, ◌∙◌, sym, subst, rules, get_or, set, false, length, ◌<◌}
use Rattle.std.proofs.lemmas.List.{get_or_default}
use Rattle.mgn_lots.specs.Lots.{IsLot, is_full}
use Rattle.mgn_unit.specs.declared.change.Change.{Change}
use Rattle.mgn_unit.specs.Rows.{IsRoomy, Priced, Prices, row_with}
use Rattle.mgn_unit.specs.Changes.{lot_change}
use Rattle.mgn_machine.specs.State.{AccountState, no_account, account_at, traded_lot, with_lot}
use Rattle.mgn_register.specs.BookStates.{BookState, IsKept, book_state}
use Rattle.mgn_register.proofs.Kept.{names-kept, kept-same}
use Rattle.mgn_register.proofs.Trades.{Trading, trade-roomy, trade-kept}
use Rattle.mgn_plan.specs.declared.plans.Plan.{Plan}
use Rattle.mgn_plan.specs.declared.plans.Plan.TheVariants.{One}
use Rattle.mgn_register.proofs.Following.{follows-planned}
use Rattle.mgn_machine.specs.Refusals.{trade_places}
use Rattle.mgn_plan.specs.Plans.{in_unit_of, trade_plan}
use Rattle.mgn_register.proofs.register.Register.trade.Goals as goal

pub enter_lot-requires-clause-roomy : goal.enter_lot-requires-clause-roomy
enter_lot-requires-clause-roomy c =
    let r = c.self.inside in
    let f = book_state r.origins.items r.accounts.items r.rows.items r.closed r.version in
    let a = c.index_mut-owner.result.now in
    let trading : Trading c.args.set.now f c.in_ok-place.place c.in_ok-place.i a c.index_mut-row.result.now c.args.trade.now = record {
      within = c.limits.ensures;
      kept = search rules;
      account = search rules;
      was = c.index_mut-owner.ensures.value;
      row = c.index_mut-row.ensures.value ∙ ap (λ (u : _). get_or r.rows.items u c.index_mut-row.result.now) c.unit.ensures;
      stands = search rules;
      room = search rules;
    } in
    subst (λ (change : Change). IsRoomy change c.index_mut-row.result.now) (sym c.of_lot-change.ensures.change)
    (trade-roomy c.args.set.now f c.in_ok-place.place c.in_ok-place.i a c.index_mut-row.result.now c.args.trade.now trading)

pub returns-in_err-enter_lot-clause-kept : goal.returns-in_err-enter_lot-clause-kept
returns-in_err-enter_lot-clause-kept c =
    let r = c.self.inside in
    let a = c.index_mut-owner.result.now in
    let kept : IsKept c.args.set.now (book_state r.origins.items r.accounts.items r.rows.items r.closed r.version) = search rules in
    let same : c.enter_lot.new.owner ≡ a = search rules in
    let row : c.enter_lot.new.row ≡ c.index_mut-row.result.now = search rules in
    kept-same c.args.set.now r.origins.items r.accounts.items r.rows.items r.closed r.version c.in_ok-place.place c.unit.result a c.enter_lot.new.owner c.index_mut-row.result.now c.enter_lot.new.row kept c.index_mut-owner.ensures.value same c.index_mut-row.ensures.value row

pub invariant_of-self-2 : goal.invariant_of-self-2
invariant_of-self-2 c =
    let a = c.index_mut-owner.result.now in
    let lot = c.traded_lot-lot.result in
    let added : c.enter_lot.new.owner ≡ with_lot a lot = search rules in
    names-kept c.self.inside.names c.self.inside.accounts.items c.in_ok-place.place c.enter_lot.new.owner a c.self.invariant
    (ap (λ (x : AccountState). x.name) (added ∙ ap (λ (x : AccountState). with_lot x lot) c.index_mut-owner.ensures.value))

pub returns-clause-kept : goal.returns-clause-kept
returns-clause-kept c =
    let r = c.self.inside in
    let f = book_state r.origins.items r.accounts.items r.rows.items r.closed r.version in
    let a = c.index_mut-owner.result.now in
    let row = c.index_mut-row.result.now in
    let trading : Trading c.args.set.now f c.in_ok-place.place c.in_ok-place.i a row c.args.trade.now = record {
      within = c.limits.ensures;
      kept = search rules;
      account = search rules;
      was = c.index_mut-owner.ensures.value;
      row = c.index_mut-row.ensures.value ∙ ap (λ (u : _). get_or r.rows.items u row) c.unit.ensures;
      stands = search rules;
      room = search rules;
    } in
    let t = c.args.trade.now in
    let change = lot_change c.in_ok-place.i t.quantity t.premium in
    let lot = traded_lot t.lot t.contract t.quantity t.premium in
    let said : (priced : Priced) × Prices c.args.set.now c.of_lot-change.result row priced = search rules in
    let prices : Prices c.args.set.now change row said.0 = subst (λ (x : Change). Prices c.args.set.now x row said.0) c.of_lot-change.ensures.change said.1 in
    let changed : c.enter_lot.new.row ≡ row_with c.args.set.now c.of_lot-change.result row = search rules in
    let added : c.enter_lot.new.owner ≡ with_lot a c.traded_lot-lot.result = search rules in
    let limits : IsLot lot = subst IsLot c.traded_lot-lot.ensures.lot c.traded_lot-lot.ensures.limits in
    let k = c.in_ok-place.place in
    let few : is_full a.lots ≡ false =
    ap (λ (x : AccountState). is_full x.lots) (c.index_mut-owner.ensures.value ∙ get_or_default r.accounts.items k a no_account trading.account)
    ∙ ap (λ (g : BookState). is_full (account_at g.state.accounts k).lots) c.self.view_is ∙ c.in_ok-place.ensures.few
    in
    let kept = trade-kept c.args.set.now r.origins.items r.accounts.items r.rows.items r.closed r.version c.in_ok-place.place c.in_ok-place.i a c.enter_lot.new.owner row c.enter_lot.new.row c.args.trade.now said.0
    trading prices (changed ∙ ap (λ (x : Change). row_with c.args.set.now x row) c.of_lot-change.ensures.change) (added ∙ ap (λ (x : _). with_lot a x) c.traded_lot-lot.ensures.lot) limits few in
    subst (λ (u : _). IsKept c.args.set.now (book_state r.origins.items (set r.accounts.items c.in_ok-place.place c.enter_lot.new.owner) (set r.rows.items u c.enter_lot.new.row) r.closed r.version)) (sym c.unit.ensures) kept

pub returns-clause-follows : goal.returns-clause-follows
returns-clause-follows c =
    let r = c.self.inside in
    let set' = c.args.set.now in
    let f = book_state r.origins.items r.accounts.items r.rows.items r.closed r.version in
    let g = c.args.self.now in
    let t = c.args.trade.now in
    let k = c.in_ok-place.place in
    let row = c.index_mut-row.result.now in
    let changed : c.enter_lot.new.row ≡ row_with set' c.of_lot-change.result row = search rules in
    let there : k < length r.accounts.items = search rules in
    let inside : c.unit.result < length r.rows.items = search rules in
    let plan : BookState → Plan = λ h. trade_plan h.state t (trade_places set' h.state t) in
    let planned : plan g ≡ One (in_unit_of g.state k c.of_lot-change.result) =
    ap (trade_plan g.state t) (sym c.in_ok-place.ensures.places) ∙ ap (λ (x : Change). One (in_unit_of g.state k x)) (sym c.of_lot-change.ensures.change)
    in
    follows-planned set' f g plan k c.unit.result c.index_mut-owner.result.now c.of_lot-change.result row c.enter_lot.new.row c.self.view_is there c.index_mut-owner.ensures.value c.unit.ensures inside c.index_mut-row.ensures.value planned changed
