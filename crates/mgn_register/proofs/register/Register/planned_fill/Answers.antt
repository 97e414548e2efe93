use Rattle.std.proofs.Common.{◌≡◌, ◌<◌, ◌∙◌, ap, sym, subst, length, rules}
use Rattle.std.proofs.lemmas.List.{get_or_default}
use Rattle.mgn_machine.specs.State.{AccountState, account_at, no_account}
use Rattle.mgn_register.specs.BookStates.{BookState}
use Rattle.mgn_register.proofs.Found.{fill-place, fill-place-there, fill-plan-finds}
use Rattle.mgn_register.proofs.register.Register.planned_fill.Goals as goal

pub index-requires : goal.index-requires
index-requires c =
    let u = c.in-One.found in
    let finds = fill-plan-finds c.args.set.now c.args.self.now.state c.args.fill.now u (sym c.in-One.is ∙ c.requires.plan) in
    let within : u.account < length c.self.inside.accounts.items = subst (λ (g : BookState). u.account < length g.state.accounts) (sym c.self.view_is) finds.1.owner in
    search rules

pub returns-in_err-hold-in-One-clause-refused : goal.returns-in_err-hold-in-One-clause-refused
returns-in_err-hold-in-One-clause-refused c =
    let u = c.in-One.found in
    let s = c.args.self.now.state in
    let planned = sym c.in-One.is ∙ c.requires.plan in
    let within : u.account < length c.self.inside.accounts.items = subst (λ (g : BookState). u.account < length g.state.accounts) (sym c.self.view_is) (fill-plan-finds c.args.set.now s c.args.fill.now u planned).1.owner in
    let own : c.index.result.now ≡ account_at s.accounts u.account =
    c.index.ensures ∙ get_or_default c.self.inside.accounts.items u.account c.index.result.now no_account within ∙ ap (λ (g : BookState). account_at g.state.accounts u.account) c.self.view_is
    in
    absurd (fill-place-there c.args.set.now s c.args.fill.now u c.index.result.now c.in_err-hold-in-One.field-0.0 planned own c.in_err-hold-in-One.ensures.place)

pub returns-in_ok-hold-in-One-clause-places : goal.returns-in_ok-hold-in-One-clause-places
returns-in_ok-hold-in-One-clause-places c =
    let u = c.in-One.found in
    let s = c.args.self.now.state in
    let planned = sym c.in-One.is ∙ c.requires.plan in
    let within : u.account < length c.self.inside.accounts.items = subst (λ (g : BookState). u.account < length g.state.accounts) (sym c.self.view_is) (fill-plan-finds c.args.set.now s c.args.fill.now u planned).1.owner in
    let own : c.index.result.now ≡ account_at s.accounts u.account =
    c.index.ensures ∙ get_or_default c.self.inside.accounts.items u.account c.index.result.now no_account within ∙ ap (λ (g : BookState). account_at g.state.accounts u.account) c.self.view_is
    in
    let found = fill-place c.args.set.now s c.args.fill.now u c.index.result.now c.in_ok-hold-in-One.hold planned own c.in_ok-hold-in-One.ensures.place in
    sym found.places

pub returns-in_ok-hold-in-One-clause-account : goal.returns-in_ok-hold-in-One-clause-account
returns-in_ok-hold-in-One-clause-account c =
    let u = c.in-One.found in
    let s = c.args.self.now.state in
    let planned = sym c.in-One.is ∙ c.requires.plan in
    let within : u.account < length c.self.inside.accounts.items = subst (λ (g : BookState). u.account < length g.state.accounts) (sym c.self.view_is) (fill-plan-finds c.args.set.now s c.args.fill.now u planned).1.owner in
    let own : c.index.result.now ≡ account_at s.accounts u.account =
    c.index.ensures ∙ get_or_default c.self.inside.accounts.items u.account c.index.result.now no_account within ∙ ap (λ (g : BookState). account_at g.state.accounts u.account) c.self.view_is
    in
    let found = fill-place c.args.set.now s c.args.fill.now u c.index.result.now c.in_ok-hold-in-One.hold planned own c.in_ok-hold-in-One.ensures.place in
    found.owner

pub returns-in_ok-hold-in-One-clause-stands : goal.returns-in_ok-hold-in-One-clause-stands
returns-in_ok-hold-in-One-clause-stands c =
    let u = c.in-One.found in
    let s = c.args.self.now.state in
    let planned = sym c.in-One.is ∙ c.requires.plan in
    let within : u.account < length c.self.inside.accounts.items = subst (λ (g : BookState). u.account < length g.state.accounts) (sym c.self.view_is) (fill-plan-finds c.args.set.now s c.args.fill.now u planned).1.owner in
    let own : c.index.result.now ≡ account_at s.accounts u.account =
    c.index.ensures ∙ get_or_default c.self.inside.accounts.items u.account c.index.result.now no_account within ∙ ap (λ (g : BookState). account_at g.state.accounts u.account) c.self.view_is
    in
    let found = fill-place c.args.set.now s c.args.fill.now u c.index.result.now c.in_ok-hold-in-One.hold planned own c.in_ok-hold-in-One.ensures.place in
    found.stands

pub returns-in_ok-hold-in-One-clause-within : goal.returns-in_ok-hold-in-One-clause-within
returns-in_ok-hold-in-One-clause-within c =
    let u = c.in-One.found in
    let s = c.args.self.now.state in
    let planned = sym c.in-One.is ∙ c.requires.plan in
    let within : u.account < length c.self.inside.accounts.items = subst (λ (g : BookState). u.account < length g.state.accounts) (sym c.self.view_is) (fill-plan-finds c.args.set.now s c.args.fill.now u planned).1.owner in
    let own : c.index.result.now ≡ account_at s.accounts u.account =
    c.index.ensures ∙ get_or_default c.self.inside.accounts.items u.account c.index.result.now no_account within ∙ ap (λ (g : BookState). account_at g.state.accounts u.account) c.self.view_is
    in
    let found = fill-place c.args.set.now s c.args.fill.now u c.index.result.now c.in_ok-hold-in-One.hold planned own c.in_ok-hold-in-One.ensures.place in
    found.within

pub returns-in_ok-hold-in-One-clause-fresh : goal.returns-in_ok-hold-in-One-clause-fresh
returns-in_ok-hold-in-One-clause-fresh c =
    let u = c.in-One.found in
    let s = c.args.self.now.state in
    let planned = sym c.in-One.is ∙ c.requires.plan in
    let within : u.account < length c.self.inside.accounts.items = subst (λ (g : BookState). u.account < length g.state.accounts) (sym c.self.view_is) (fill-plan-finds c.args.set.now s c.args.fill.now u planned).1.owner in
    let own : c.index.result.now ≡ account_at s.accounts u.account =
    c.index.ensures ∙ get_or_default c.self.inside.accounts.items u.account c.index.result.now no_account within ∙ ap (λ (g : BookState). account_at g.state.accounts u.account) c.self.view_is
    in
    let found = fill-place c.args.set.now s c.args.fill.now u c.index.result.now c.in_ok-hold-in-One.hold planned own c.in_ok-hold-in-One.ensures.place in
    found.fresh

pub returns-in_ok-hold-in-One-clause-covers : goal.returns-in_ok-hold-in-One-clause-covers
returns-in_ok-hold-in-One-clause-covers c =
    let u = c.in-One.found in
    let s = c.args.self.now.state in
    let planned = sym c.in-One.is ∙ c.requires.plan in
    let within : u.account < length c.self.inside.accounts.items = subst (λ (g : BookState). u.account < length g.state.accounts) (sym c.self.view_is) (fill-plan-finds c.args.set.now s c.args.fill.now u planned).1.owner in
    let own : c.index.result.now ≡ account_at s.accounts u.account =
    c.index.ensures ∙ get_or_default c.self.inside.accounts.items u.account c.index.result.now no_account within ∙ ap (λ (g : BookState). account_at g.state.accounts u.account) c.self.view_is
    in
    let found = fill-place c.args.set.now s c.args.fill.now u c.index.result.now c.in_ok-hold-in-One.hold planned own c.in_ok-hold-in-One.ensures.place in
    found.covered

pub returns-in_ok-hold-in-One-clause-few : goal.returns-in_ok-hold-in-One-clause-few
returns-in_ok-hold-in-One-clause-few c =
    let u = c.in-One.found in
    let s = c.args.self.now.state in
    let planned = sym c.in-One.is ∙ c.requires.plan in
    let within : u.account < length c.self.inside.accounts.items = subst (λ (g : BookState). u.account < length g.state.accounts) (sym c.self.view_is) (fill-plan-finds c.args.set.now s c.args.fill.now u planned).1.owner in
    let own : c.index.result.now ≡ account_at s.accounts u.account =
    c.index.ensures ∙ get_or_default c.self.inside.accounts.items u.account c.index.result.now no_account within ∙ ap (λ (g : BookState). account_at g.state.accounts u.account) c.self.view_is
    in
    let found = fill-place c.args.set.now s c.args.fill.now u c.index.result.now c.in_ok-hold-in-One.hold planned own c.in_ok-hold-in-One.ensures.place in
    found.few

pub returns-in_ok-hold-in-One-clause-hold : goal.returns-in_ok-hold-in-One-clause-hold
returns-in_ok-hold-in-One-clause-hold c =
    let u = c.in-One.found in
    let s = c.args.self.now.state in
    let planned = sym c.in-One.is ∙ c.requires.plan in
    let within : u.account < length c.self.inside.accounts.items = subst (λ (g : BookState). u.account < length g.state.accounts) (sym c.self.view_is) (fill-plan-finds c.args.set.now s c.args.fill.now u planned).1.owner in
    let own : c.index.result.now ≡ account_at s.accounts u.account =
    c.index.ensures ∙ get_or_default c.self.inside.accounts.items u.account c.index.result.now no_account within ∙ ap (λ (g : BookState). account_at g.state.accounts u.account) c.self.view_is
    in
    subst (λ (a : AccountState). c.in_ok-hold-in-One.hold < length a.holds) own c.in_ok-hold-in-One.ensures.within
