use Rattle.std.proofs.Common.{◌≡◌, ℕ, ◌<◌, ap, ◌∙◌, sym, subst, rules, get_or, set, length}
use Rattle.std.specs.Prelude.{Ok}
use Rattle.std.proofs.lemmas.List.{get_or_default}
use Rattle.mgn_holds.specs.declared.held.Held.{Held}
use Rattle.mgn_holds.specs.Holds.{hold_at}
use Rattle.mgn_unit.specs.declared.change.Change.{Change}
use Rattle.mgn_unit.specs.Rows.{IsRoomy, Priced, Prices, row_with}
use Rattle.mgn_machine.specs.Refusals.{contract_of}
use Rattle.mgn_machine.specs.Holding.{without_hold, release_places}
use Rattle.mgn_unit.specs.Changes.{release_change}
use Rattle.mgn_machine.specs.State.{AccountState, no_account, account_at}
use Rattle.mgn_register.specs.BookStates.{BookState, IsKept, book_state}
use Rattle.mgn_register.proofs.Kept.{names-kept}
use Rattle.mgn_register.proofs.Holding.{Reads, same-state, release-roomy, release-kept}
use Rattle.mgn_plan.specs.declared.plans.Plan.{Plan}
use Rattle.mgn_plan.specs.declared.plans.Plan.TheVariants.{One}
use Rattle.mgn_register.proofs.Following.{follows-planned}
use Rattle.mgn_plan.specs.Plans.{in_unit_of, release_plan, release_plan_at}
use Rattle.mgn_register.proofs.register.Register.release.Goals as goal

pub release_hold-requires-clause-roomy : goal.release_hold-requires-clause-roomy
release_hold-requires-clause-roomy c =
    let r = c.self.inside in
    let set' = c.args.set.now in
    let f = book_state r.origins.items r.accounts.items r.rows.items r.closed r.version in
    let at : ℕ × ℕ = (c.in_ok-place.place, c.in_ok-place.hold) in
    let a = c.index_mut-owner.result.now in
    let account : a ≡ account_at c.args.self.now.state.accounts c.in_ok-place.place =
    c.index_mut-owner.ensures.value ∙ get_or_default c.self.inside.accounts.items c.in_ok-place.place a no_account (search rules)
    ∙ ap (λ (g : BookState). account_at g.state.accounts c.in_ok-place.place) c.self.view_is
    in
    let stands : contract_of c.args.set.now (hold_at a.holds c.in_ok-place.hold).contract ≡ Ok c.in_ok-place.i =
    ap (λ (x : AccountState). contract_of c.args.set.now (hold_at x.holds c.in_ok-place.hold).contract) account ∙ c.in_ok-place.ensures.stands
    in
    let inside : c.in_ok-place.hold < length a.holds = subst (λ (x : AccountState). c.in_ok-place.hold < length x.holds) (sym account) (c.in_ok-place.ensures.hold) in
    let row = c.index_mut-row.result.now in
    let reads : Reads set' f at.0 c.in_ok-place.i a row (hold_at a.holds at.1).contract = record {
      within = c.limits.ensures;
      kept = search rules;
      account = search rules;
      was = c.index_mut-owner.ensures.value;
      row = c.index_mut-row.ensures.value ∙ ap (λ (u : _). get_or r.rows.items u row) c.unit.ensures;
      stands = stands;
    } in
    let x = hold_at a.holds at.1 in
    let change = release_change c.in_ok-place.i x.quantity x.limit in
    let is : c.of_release-change.result ≡ change = c.of_release-change.ensures.change ∙ ap (λ (y : Held). release_change c.in_ok-place.i y.quantity y.limit) c.hold_at.ensures.held in
    subst (λ (change : Change). IsRoomy change row) (sym is) (release-roomy set' f at.0 c.in_ok-place.i at.1 a row reads inside)

pub returns-in_err-release_hold-clause-kept : goal.returns-in_err-release_hold-clause-kept
returns-in_err-release_hold-clause-kept c =
    let r = c.self.inside in
    let set' = c.args.set.now in
    let f = book_state r.origins.items r.accounts.items r.rows.items r.closed r.version in
    let at : ℕ × ℕ = (c.in_ok-place.place, c.in_ok-place.hold) in
    let a = c.index_mut-owner.result.now in
    let account : a ≡ account_at c.args.self.now.state.accounts c.in_ok-place.place =
    c.index_mut-owner.ensures.value ∙ get_or_default c.self.inside.accounts.items c.in_ok-place.place a no_account (search rules)
    ∙ ap (λ (g : BookState). account_at g.state.accounts c.in_ok-place.place) c.self.view_is
    in
    let stands : contract_of c.args.set.now (hold_at a.holds c.in_ok-place.hold).contract ≡ Ok c.in_ok-place.i =
    ap (λ (x : AccountState). contract_of c.args.set.now (hold_at x.holds c.in_ok-place.hold).contract) account ∙ c.in_ok-place.ensures.stands
    in
    let inside : c.in_ok-place.hold < length a.holds = subst (λ (x : AccountState). c.in_ok-place.hold < length x.holds) (sym account) (c.in_ok-place.ensures.hold) in
    let row = c.index_mut-row.result.now in
    let reads : Reads set' f at.0 c.in_ok-place.i a row (hold_at a.holds at.1).contract = record {
      within = c.limits.ensures;
      kept = search rules;
      account = search rules;
      was = c.index_mut-owner.ensures.value;
      row = c.index_mut-row.ensures.value ∙ ap (λ (u : _). get_or r.rows.items u row) c.unit.ensures;
      stands = stands;
    } in
    let same : c.release_hold.new.owner ≡ a = search rules in
    let same_row : c.release_hold.new.row ≡ row = search rules in
    subst (IsKept set') (sym (same-state r.origins.items r.accounts.items r.rows.items r.closed r.version at.0 c.unit.result a c.release_hold.new.owner row c.release_hold.new.row c.index_mut-owner.ensures.value c.index_mut-row.ensures.value same same_row))
    reads.kept

pub invariant_of-self-2 : goal.invariant_of-self-2
invariant_of-self-2 c =
    let a = c.index_mut-owner.result.now in
    let added : c.release_hold.new.owner ≡ without_hold a c.in_ok-place.hold = search rules in
    names-kept c.self.inside.names c.self.inside.accounts.items c.in_ok-place.place c.release_hold.new.owner a c.self.invariant
    (ap (λ (x : AccountState). x.name) (added ∙ ap (λ (x : AccountState). without_hold x c.in_ok-place.hold) c.index_mut-owner.ensures.value))

pub returns-clause-kept : goal.returns-clause-kept
returns-clause-kept c =
    let r = c.self.inside in
    let set' = c.args.set.now in
    let f = book_state r.origins.items r.accounts.items r.rows.items r.closed r.version in
    let at : ℕ × ℕ = (c.in_ok-place.place, c.in_ok-place.hold) in
    let a = c.index_mut-owner.result.now in
    let account : a ≡ account_at c.args.self.now.state.accounts c.in_ok-place.place =
    c.index_mut-owner.ensures.value ∙ get_or_default c.self.inside.accounts.items c.in_ok-place.place a no_account (search rules)
    ∙ ap (λ (g : BookState). account_at g.state.accounts c.in_ok-place.place) c.self.view_is
    in
    let stands : contract_of c.args.set.now (hold_at a.holds c.in_ok-place.hold).contract ≡ Ok c.in_ok-place.i =
    ap (λ (x : AccountState). contract_of c.args.set.now (hold_at x.holds c.in_ok-place.hold).contract) account ∙ c.in_ok-place.ensures.stands
    in
    let inside : c.in_ok-place.hold < length a.holds = subst (λ (x : AccountState). c.in_ok-place.hold < length x.holds) (sym account) (c.in_ok-place.ensures.hold) in
    let row = c.index_mut-row.result.now in
    let reads : Reads set' f at.0 c.in_ok-place.i a row (hold_at a.holds at.1).contract = record {
      within = c.limits.ensures;
      kept = search rules;
      account = search rules;
      was = c.index_mut-owner.ensures.value;
      row = c.index_mut-row.ensures.value ∙ ap (λ (u : _). get_or r.rows.items u row) c.unit.ensures;
      stands = stands;
    } in
    let x = hold_at a.holds at.1 in
    let change = release_change c.in_ok-place.i x.quantity x.limit in
    let is : c.of_release-change.result ≡ change = c.of_release-change.ensures.change ∙ ap (λ (y : Held). release_change c.in_ok-place.i y.quantity y.limit) c.hold_at.ensures.held in
    let said : (priced : Priced) × Prices set' c.of_release-change.result row priced = search rules in
    let prices : Prices set' change row said.0 = subst (λ (y : Change). Prices set' y row said.0) is said.1 in
    let changed : c.release_hold.new.row ≡ row_with set' c.of_release-change.result row = search rules in
    let released : c.release_hold.new.owner ≡ without_hold a at.1 = search rules in
    let room : IsRoomy change row = release-roomy set' f at.0 c.in_ok-place.i at.1 a row reads inside in
    subst (λ (u : _). IsKept set' (book_state r.origins.items (set r.accounts.items at.0 c.release_hold.new.owner) (set r.rows.items u c.release_hold.new.row) r.closed r.version)) (sym c.unit.ensures)
    (release-kept set' r.origins.items r.accounts.items r.rows.items r.closed r.version at.0 c.in_ok-place.i at.1 a c.release_hold.new.owner row c.release_hold.new.row said.0 reads inside room prices (changed ∙ ap (λ (y : Change). row_with set' y row) is) released)

pub returns-clause-follows : goal.returns-clause-follows
returns-clause-follows c =
    let r = c.self.inside in
    let set' = c.args.set.now in
    let f = book_state r.origins.items r.accounts.items r.rows.items r.closed r.version in
    let g = c.args.self.now in
    let k = c.in_ok-place.place in
    let j = c.in_ok-place.hold in
    let a = c.index_mut-owner.result.now in
    let row = c.index_mut-row.result.now in
    let i = c.in_ok-place.i in
    let changed : c.release_hold.new.row ≡ row_with set' c.of_release-change.result row = search rules in
    let within : k < length r.accounts.items = search rules in
    let inside : c.unit.result < length r.rows.items = search rules in
    let account : a ≡ account_at g.state.accounts k =
    c.index_mut-owner.ensures.value ∙ get_or_default r.accounts.items k a no_account within ∙ ap (λ (b : BookState). account_at b.state.accounts k) c.self.view_is
    in
    let is : c.of_release-change.result ≡ release_change i (hold_at (account_at g.state.accounts k).holds j).quantity (hold_at (account_at g.state.accounts k).holds j).limit =
    c.of_release-change.ensures.change ∙ ap (λ (y : Held). release_change i y.quantity y.limit) c.hold_at.ensures.held
    ∙ ap (λ (x : AccountState). release_change i (hold_at x.holds j).quantity (hold_at x.holds j).limit) account
    in
    let plan : BookState → Plan = λ b. release_plan set' b.state (release_places b.state c.args.account c.args.order) in
    let planned : plan g ≡ One (in_unit_of g.state k c.of_release-change.result) =
    ap (release_plan set' g.state) (sym c.in_ok-place.ensures.places)
    ∙ ap (release_plan_at g.state k (hold_at (account_at g.state.accounts k).holds j)) c.in_ok-place.ensures.stands
    ∙ ap (λ (x : Change). One (in_unit_of g.state k x)) (sym is)
    in
    follows-planned set' f g plan k c.unit.result a c.of_release-change.result row c.release_hold.new.row c.self.view_is within c.index_mut-owner.ensures.value c.unit.ensures inside c.index_mut-row.ensures.value planned changed
