use Rattle.std.proofs.Common.{◌≡◌, ◌<◌, ap, ◌∙◌, sym, subst, length, rules, get_or, true, set as set'}
use Rattle.std.specs.Prelude.{Ok}
use Rattle.std.proofs.lemmas.List.{get_or_default}
use Rattle.mgn_lots.specs.Lots.{is_live, lot_at}
use Rattle.mgn_unit.specs.declared.change.Change.{Change}
use Rattle.mgn_machine.specs.Refusals.{contract_of, bust_places}
use Rattle.mgn_unit.specs.Rows.{IsRoomy, Priced, Prices, row_with}
use Rattle.mgn_unit.specs.Changes.{bust_change}
use Rattle.mgn_machine.specs.State.{AccountState, no_account, account_at, with_bust}
use Rattle.mgn_register.specs.BookStates.{BookState, IsKept, book_state}
use Rattle.mgn_register.proofs.Busts.{Busting, bust-roomy, bust-kept}
use Rattle.mgn_register.proofs.Kept.{names-kept, kept-same}
use Rattle.mgn_plan.specs.declared.plans.Plan.{Plan}
use Rattle.mgn_plan.specs.declared.plans.Plan.TheVariants.{One}
use Rattle.mgn_register.proofs.Following.{follows-planned}
use Rattle.mgn_plan.specs.Plans.{in_unit_of, bust_plan, bust_plan_at}
use Rattle.mgn_register.proofs.register.Register.bust.Goals as goal

pub bust_lot-requires-clause-roomy : goal.bust_lot-requires-clause-roomy
bust_lot-requires-clause-roomy c =
    let r = c.self.inside in
    let set = c.args.set.now in
    let f = book_state r.origins.items r.accounts.items r.rows.items r.closed r.version in
    let a = c.index_mut-owner.result.now in
    let row = c.index_mut-row.result.now in
    let k = c.in_ok-place.place in
    let at = c.in_ok-place.at in
    let within : k < length r.accounts.items = search rules in
    let there : account_at c.args.self.now.state.accounts k ≡ a =
    sym (c.index_mut-owner.ensures.value ∙ get_or_default r.accounts.items k a no_account within ∙ ap (λ (g : BookState). account_at g.state.accounts k) c.self.view_is)
    in
    let busting : Busting set f k at c.in_ok-place.contract a row = record {
      within = c.limits.ensures;
      kept = search rules;
      account = within;
      was = c.index_mut-owner.ensures.value;
      row = c.index_mut-row.ensures.value ∙ ap (λ (u : _). get_or r.rows.items u row) c.unit.ensures;
      lot = subst (λ (x : AccountState). at < length x.lots) there c.in_ok-place.ensures.lot;
      live = subst (λ (x : AccountState). is_live (lot_at x.lots at).mark ≡ true) there c.in_ok-place.ensures.live;
      stands = subst (λ (x : AccountState). contract_of set (lot_at x.lots at).contract ≡ Ok c.in_ok-place.contract) there c.in_ok-place.ensures.stands;
    } in
    let change_is : c.of_bust-change.result ≡ bust_change c.in_ok-place.contract (lot_at a.lots at) =
    c.of_bust-change.ensures.change ∙ ap (bust_change c.in_ok-place.contract) c.lot_at.ensures.lot
    in
    subst (λ (change : Change). IsRoomy change row) (sym change_is) (bust-roomy set f k at c.in_ok-place.contract a row busting)

pub returns-in_err-bust_lot-clause-kept : goal.returns-in_err-bust_lot-clause-kept
returns-in_err-bust_lot-clause-kept c =
    let r = c.self.inside in
    let a = c.index_mut-owner.result.now in
    let kept : IsKept c.args.set.now (book_state r.origins.items r.accounts.items r.rows.items r.closed r.version) = search rules in
    let same : c.bust_lot.new.owner ≡ a = search rules in
    let row : c.bust_lot.new.row ≡ c.index_mut-row.result.now = search rules in
    kept-same c.args.set.now r.origins.items r.accounts.items r.rows.items r.closed r.version c.in_ok-place.place c.unit.result a c.bust_lot.new.owner c.index_mut-row.result.now c.bust_lot.new.row kept c.index_mut-owner.ensures.value same c.index_mut-row.ensures.value row

pub invariant_of-self-2 : goal.invariant_of-self-2
invariant_of-self-2 c =
    let a = c.index_mut-owner.result.now in
    let done : c.bust_lot.new.owner ≡ with_bust a c.in_ok-place.at = search rules in
    names-kept c.self.inside.names c.self.inside.accounts.items c.in_ok-place.place c.bust_lot.new.owner a c.self.invariant
    (ap (λ (x : AccountState). x.name) (done ∙ ap (λ (x : AccountState). with_bust x c.in_ok-place.at) c.index_mut-owner.ensures.value))

pub returns-clause-kept : goal.returns-clause-kept
returns-clause-kept c =
    let r = c.self.inside in
    let set = c.args.set.now in
    let f = book_state r.origins.items r.accounts.items r.rows.items r.closed r.version in
    let a = c.index_mut-owner.result.now in
    let row = c.index_mut-row.result.now in
    let k = c.in_ok-place.place in
    let at = c.in_ok-place.at in
    let within : k < length r.accounts.items = search rules in
    let there : account_at c.args.self.now.state.accounts k ≡ a =
    sym (c.index_mut-owner.ensures.value ∙ get_or_default r.accounts.items k a no_account within ∙ ap (λ (g : BookState). account_at g.state.accounts k) c.self.view_is)
    in
    let busting : Busting set f k at c.in_ok-place.contract a row = record {
      within = c.limits.ensures;
      kept = search rules;
      account = within;
      was = c.index_mut-owner.ensures.value;
      row = c.index_mut-row.ensures.value ∙ ap (λ (u : _). get_or r.rows.items u row) c.unit.ensures;
      lot = subst (λ (x : AccountState). at < length x.lots) there c.in_ok-place.ensures.lot;
      live = subst (λ (x : AccountState). is_live (lot_at x.lots at).mark ≡ true) there c.in_ok-place.ensures.live;
      stands = subst (λ (x : AccountState). contract_of set (lot_at x.lots at).contract ≡ Ok c.in_ok-place.contract) there c.in_ok-place.ensures.stands;
    } in
    let change_is : c.of_bust-change.result ≡ bust_change c.in_ok-place.contract (lot_at a.lots at) =
    c.of_bust-change.ensures.change ∙ ap (bust_change c.in_ok-place.contract) c.lot_at.ensures.lot
    in
    let said : (priced : Priced) × Prices set c.of_bust-change.result row priced = search rules in
    let changed : c.bust_lot.new.row ≡ row_with set c.of_bust-change.result row = search rules in
    let done : c.bust_lot.new.owner ≡ with_bust a at = search rules in
    let kept = bust-kept set r.origins.items r.accounts.items r.rows.items r.closed r.version k at c.in_ok-place.contract a c.bust_lot.new.owner row c.bust_lot.new.row said.0 busting
    (subst (λ (x : Change). Prices set x row said.0) change_is said.1) (changed ∙ ap (λ (x : Change). row_with set x row) change_is) done
    in
    subst (λ (u : _). IsKept set (book_state r.origins.items (set' r.accounts.items k c.bust_lot.new.owner) (set' r.rows.items u c.bust_lot.new.row) r.closed r.version)) (sym c.unit.ensures) kept

pub returns-clause-follows : goal.returns-clause-follows
returns-clause-follows c =
    let r = c.self.inside in
    let set = c.args.set.now in
    let f = book_state r.origins.items r.accounts.items r.rows.items r.closed r.version in
    let g = c.args.self.now in
    let k = c.in_ok-place.place in
    let at = c.in_ok-place.at in
    let a = c.index_mut-owner.result.now in
    let row = c.index_mut-row.result.now in
    let i = c.in_ok-place.contract in
    let changed : c.bust_lot.new.row ≡ row_with set c.of_bust-change.result row = search rules in
    let within : k < length r.accounts.items = search rules in
    let inside : c.unit.result < length r.rows.items = search rules in
    let there : account_at g.state.accounts k ≡ a =
    sym (c.index_mut-owner.ensures.value ∙ get_or_default r.accounts.items k a no_account within ∙ ap (λ (h : BookState). account_at h.state.accounts k) c.self.view_is)
    in
    let change_is : c.of_bust-change.result ≡ bust_change i (lot_at (account_at g.state.accounts k).lots at) =
    c.of_bust-change.ensures.change ∙ ap (bust_change i) c.lot_at.ensures.lot ∙ ap (λ (x : AccountState). bust_change i (lot_at x.lots at)) (sym there)
    in
    let plan : BookState → Plan = λ h. bust_plan set h.state (bust_places h.state c.args.account c.args.number) in
    let planned : plan g ≡ One (in_unit_of g.state k c.of_bust-change.result) =
    ap (bust_plan set g.state) (sym c.in_ok-place.ensures.places)
    ∙ ap (bust_plan_at g.state k (lot_at (account_at g.state.accounts k).lots at)) c.in_ok-place.ensures.stands
    ∙ ap (λ (x : Change). One (in_unit_of g.state k x)) (sym change_is)
    in
    follows-planned set f g plan k c.unit.result a c.of_bust-change.result row c.bust_lot.new.row c.self.view_is within c.index_mut-owner.ensures.value c.unit.ensures inside c.index_mut-row.ensures.value planned changed
