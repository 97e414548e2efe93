use Rattle.std.proofs.Common.{◌≡◌, ℕ, ap, ◌∙◌, sym, subst, rules, get_or, set, false, length, ◌<◌}
use Rattle.std.specs.Prelude.{Result, Ok, Err}
use Rattle.mgn_holds.specs.declared.held.Held.{Held}
use Rattle.mgn_holds.specs.Holds.{IsHeld, is_full as holds_full}
use Rattle.mgn_unit.specs.declared.change.Change.{Change}
use Rattle.mgn_unit.specs.Rows.{IsRoomy, Priced, Prices, row_with}
use Rattle.mgn_machine.specs.Refusals.{is_over}
use Rattle.mgn_machine.specs.Holding.{entered, hold_places, new_hold, with_hold}
use Rattle.mgn_unit.specs.Changes.{hold_change}
use Rattle.mgn_machine.specs.State.{AccountState, account_at}
use Rattle.mgn_register.specs.declared.step_fault.StepFault.{StepFault}
use Rattle.mgn_register.specs.BookStates.{BookState, IsKept, Steps, book_state}
use Rattle.mgn_register.specs.RoomAsked.{AsksRoom}
use Rattle.mgn_register.proofs.Kept.{names-kept}
use Rattle.mgn_register.proofs.Holding.{Reads, account-read, hold-roomy, hold-kept, hold-done, hold-refused, same-state}
use Rattle.mgn_plan.specs.declared.plans.Plan.{Plan}
use Rattle.mgn_plan.specs.declared.plans.Plan.TheVariants.{One}
use Rattle.mgn_register.proofs.Following.{follows-planned}
use Rattle.mgn_plan.specs.Plans.{in_unit_of, hold_plan}
use Rattle.mgn_register.proofs.register.Register.hold.Goals as goal

pub enter_hold-requires-clause-roomy : goal.enter_hold-requires-clause-roomy
enter_hold-requires-clause-roomy c =
    let r = c.self.inside in
    let set' = c.args.set.now in
    let f = book_state r.origins.items r.accounts.items r.rows.items r.closed r.version in
    let at : ℕ × ℕ = (c.in_ok-place.place, c.in_ok-place.i) in
    let a = c.index_mut-owner.result.now in
    let row = c.index_mut-row.result.now in
    let reads : Reads set' f at.0 c.in_ok-place.i a row c.args.hold.now.contract = record {
      within = c.limits.ensures;
      kept = search rules;
      account = search rules;
      was = c.index_mut-owner.ensures.value;
      row = c.index_mut-row.ensures.value ∙ ap (λ (u : _). get_or r.rows.items u row) c.unit.ensures;
      stands = search rules;
    } in
    let over : is_over f.state at.0 c.args.hold.now.contract c.args.hold.now.quantity ≡ false = ap (λ (g : BookState). is_over g.state at.0 c.args.hold.now.contract c.args.hold.now.quantity) c.self.view_is ∙ c.in_ok-place.ensures.room in
    subst (λ (change : Change). IsRoomy change row) (sym c.of_hold-change.ensures.change)
    (hold-roomy set' f at.0 at.1 a row c.args.hold.now reads over)

pub returns-in_err-enter_hold-clause-kept : goal.returns-in_err-enter_hold-clause-kept
returns-in_err-enter_hold-clause-kept c =
    let r = c.self.inside in
    let set' = c.args.set.now in
    let f = book_state r.origins.items r.accounts.items r.rows.items r.closed r.version in
    let at : ℕ × ℕ = (c.in_ok-place.place, c.in_ok-place.i) in
    let a = c.index_mut-owner.result.now in
    let row = c.index_mut-row.result.now in
    let reads : Reads set' f at.0 c.in_ok-place.i a row c.args.hold.now.contract = record {
      within = c.limits.ensures;
      kept = search rules;
      account = search rules;
      was = c.index_mut-owner.ensures.value;
      row = c.index_mut-row.ensures.value ∙ ap (λ (u : _). get_or r.rows.items u row) c.unit.ensures;
      stands = search rules;
    } in
    let same : c.enter_hold.new.owner ≡ a = search rules in
    let same_row : c.enter_hold.new.row ≡ row = search rules in
    subst (IsKept set') (sym (same-state r.origins.items r.accounts.items r.rows.items r.closed r.version at.0 c.unit.result a c.enter_hold.new.owner row c.enter_hold.new.row c.index_mut-owner.ensures.value c.index_mut-row.ensures.value same same_row))
    reads.kept

pub returns-in_err-enter_hold-clause-steps : goal.returns-in_err-enter_hold-clause-steps
returns-in_err-enter_hold-clause-steps c =
    let r = c.self.inside in
    let set' = c.args.set.now in
    let f = book_state r.origins.items r.accounts.items r.rows.items r.closed r.version in
    let at : ℕ × ℕ = (c.in_ok-place.place, c.in_ok-place.i) in
    let a = c.index_mut-owner.result.now in
    let row = c.index_mut-row.result.now in
    let reads : Reads set' f at.0 c.in_ok-place.i a row c.args.hold.now.contract = record {
      within = c.limits.ensures;
      kept = search rules;
      account = search rules;
      was = c.index_mut-owner.ensures.value;
      row = c.index_mut-row.ensures.value ∙ ap (λ (u : _). get_or r.rows.items u row) c.unit.ensures;
      stands = search rules;
    } in
    let asks : AsksRoom {X = Unit {0}} (row_with set' (hold_change at.1 c.args.hold.now.quantity c.args.hold.now.limit) row) (Err c.in_err-enter_hold.field-0.0) =
    subst (λ (change : Change). AsksRoom {X = Unit {0}} (row_with set' change row) (Err c.in_err-enter_hold.field-0.0)) c.of_hold-change.ensures.change (search rules)
    in
    let places : hold_places set' f.state c.args.hold.now ≡ Ok at =
    subst (λ (g : BookState). hold_places set' g.state c.args.hold.now ≡ Ok at) (sym c.self.view_is) (sym c.in_ok-place.ensures.places)
    in
    let same : c.enter_hold.new.owner ≡ a = search rules in
    let same_row : c.enter_hold.new.row ≡ row = search rules in
    let new : BookState = book_state r.origins.items (set r.accounts.items at.0 c.enter_hold.new.owner) (set r.rows.items c.unit.result c.enter_hold.new.row) r.closed r.version in
    let stays : new ≡ f =
    same-state r.origins.items r.accounts.items r.rows.items r.closed r.version at.0 c.unit.result a c.enter_hold.new.owner row c.enter_hold.new.row c.index_mut-owner.ensures.value c.index_mut-row.ensures.value same same_row
    in
    let returned : c.from_residual-in_err-enter_hold.result ≡ Err c.in_err-enter_hold.field-0.0 = search rules in
    subst (λ (x : Result (Unit {0}) StepFault). Steps (entered set' c.args.self.now.state c.args.hold.now) x c.args.self.now new) (sym returned)
    (subst (λ (g : BookState). Steps {X = Unit {0}} (entered set' g.state c.args.hold.now) (Err c.in_err-enter_hold.field-0.0) g new) c.self.view_is
    (hold-refused set' f new at a row c.args.hold.now c.in_err-enter_hold.field-0.0 reads places asks stays))

pub invariant_of-self-2 : goal.invariant_of-self-2
invariant_of-self-2 c =
    let a = c.index_mut-owner.result.now in
    let added : c.enter_hold.new.owner ≡ with_hold a c.new_hold-held.result = search rules in
    names-kept c.self.inside.names c.self.inside.accounts.items c.in_ok-place.place c.enter_hold.new.owner a c.self.invariant
    (ap (λ (x : AccountState). x.name) (added ∙ ap (λ (x : AccountState). with_hold x c.new_hold-held.result) c.index_mut-owner.ensures.value))

pub returns-clause-kept : goal.returns-clause-kept
returns-clause-kept c =
    let r = c.self.inside in
    let set' = c.args.set.now in
    let f = book_state r.origins.items r.accounts.items r.rows.items r.closed r.version in
    let at : ℕ × ℕ = (c.in_ok-place.place, c.in_ok-place.i) in
    let a = c.index_mut-owner.result.now in
    let row = c.index_mut-row.result.now in
    let reads : Reads set' f at.0 c.in_ok-place.i a row c.args.hold.now.contract = record {
      within = c.limits.ensures;
      kept = search rules;
      account = search rules;
      was = c.index_mut-owner.ensures.value;
      row = c.index_mut-row.ensures.value ∙ ap (λ (u : _). get_or r.rows.items u row) c.unit.ensures;
      stands = search rules;
    } in
    let over : is_over f.state at.0 c.args.hold.now.contract c.args.hold.now.quantity ≡ false = ap (λ (g : BookState). is_over g.state at.0 c.args.hold.now.contract c.args.hold.now.quantity) c.self.view_is ∙ c.in_ok-place.ensures.room in
    let change = hold_change at.1 c.args.hold.now.quantity c.args.hold.now.limit in
    let x = new_hold c.args.hold.now in
    let said : (priced : Priced) × Prices set' c.of_hold-change.result row priced = search rules in
    let prices : Prices set' change row said.0 = subst (λ (x : Change). Prices set' x row said.0) c.of_hold-change.ensures.change said.1 in
    let changed : c.enter_hold.new.row ≡ row_with set' c.of_hold-change.result row = search rules in
    let added : c.enter_hold.new.owner ≡ with_hold a c.new_hold-held.result = search rules in
    let held : IsHeld x = subst IsHeld c.new_hold-held.ensures.held c.new_hold-held.ensures.limits in
    let few : holds_full a.holds ≡ false =
    ap (λ (x : AccountState). holds_full x.holds) (account-read set' f at.0 at.1 a row c.args.hold.now.contract reads)
    ∙ ap (λ (g : BookState). holds_full (account_at g.state.accounts at.0).holds) c.self.view_is ∙ c.in_ok-place.ensures.few
    in
    let room : IsRoomy change row = hold-roomy set' f at.0 at.1 a row c.args.hold.now reads over in
    subst (λ (u : _). IsKept set' (book_state r.origins.items (set r.accounts.items at.0 c.enter_hold.new.owner) (set r.rows.items u c.enter_hold.new.row) r.closed r.version)) (sym c.unit.ensures)
    (hold-kept set' r.origins.items r.accounts.items r.rows.items r.closed r.version at.0 at.1 a c.enter_hold.new.owner row c.enter_hold.new.row c.args.hold.now said.0 reads room prices held few (changed ∙ ap (λ (x : Change). row_with set' x row) c.of_hold-change.ensures.change) (added ∙ ap (λ (y : Held). with_hold a y) c.new_hold-held.ensures.held))

pub returns-clause-steps : goal.returns-clause-steps
returns-clause-steps c =
    let r = c.self.inside in
    let set' = c.args.set.now in
    let f = book_state r.origins.items r.accounts.items r.rows.items r.closed r.version in
    let at : ℕ × ℕ = (c.in_ok-place.place, c.in_ok-place.i) in
    let a = c.index_mut-owner.result.now in
    let row = c.index_mut-row.result.now in
    let reads : Reads set' f at.0 c.in_ok-place.i a row c.args.hold.now.contract = record {
      within = c.limits.ensures;
      kept = search rules;
      account = search rules;
      was = c.index_mut-owner.ensures.value;
      row = c.index_mut-row.ensures.value ∙ ap (λ (u : _). get_or r.rows.items u row) c.unit.ensures;
      stands = search rules;
    } in
    let asks : AsksRoom {X = Unit {0}} (row_with set' (hold_change at.1 c.args.hold.now.quantity c.args.hold.now.limit) row) (Ok tt) =
    subst (λ (change : Change). AsksRoom {X = Unit {0}} (row_with set' change row) (Ok tt)) c.of_hold-change.ensures.change (search rules)
    in
    let places : hold_places set' f.state c.args.hold.now ≡ Ok at =
    subst (λ (g : BookState). hold_places set' g.state c.args.hold.now ≡ Ok at) (sym c.self.view_is) (sym c.in_ok-place.ensures.places)
    in
    let added : c.enter_hold.new.owner ≡ with_hold a c.new_hold-held.result = search rules in
    let new : BookState = book_state r.origins.items (set r.accounts.items at.0 c.enter_hold.new.owner) (set r.rows.items c.unit.result c.enter_hold.new.row) r.closed r.version in
    subst (λ (g : BookState). entered set' g.state c.args.hold.now ≡ Ok new.state) c.self.view_is
    (hold-done set' r.origins.items r.accounts.items r.rows.items r.closed r.version at c.unit.result a c.enter_hold.new.owner row c.enter_hold.new.row c.args.hold.now reads places asks
    (added ∙ ap (λ (y : Held). with_hold a y) c.new_hold-held.ensures.held))

pub returns-clause-follows : goal.returns-clause-follows
returns-clause-follows c =
    let r = c.self.inside in
    let set' = c.args.set.now in
    let f = book_state r.origins.items r.accounts.items r.rows.items r.closed r.version in
    let g = c.args.self.now in
    let h = c.args.hold.now in
    let k = c.in_ok-place.place in
    let row = c.index_mut-row.result.now in
    let changed : c.enter_hold.new.row ≡ row_with set' c.of_hold-change.result row = search rules in
    let there : k < length r.accounts.items = search rules in
    let inside : c.unit.result < length r.rows.items = search rules in
    let plan : BookState → Plan = λ b. hold_plan b.state h (hold_places set' b.state h) in
    let planned : plan g ≡ One (in_unit_of g.state k c.of_hold-change.result) =
    ap (hold_plan g.state h) (sym c.in_ok-place.ensures.places) ∙ ap (λ (x : Change). One (in_unit_of g.state k x)) (sym c.of_hold-change.ensures.change)
    in
    follows-planned set' f g plan k c.unit.result c.index_mut-owner.result.now c.of_hold-change.result row c.enter_hold.new.row c.self.view_is there c.index_mut-owner.ensures.value c.unit.ensures inside c.index_mut-row.ensures.value planned changed
