use Rattle.std.proofs.Common.{◌≡◌, ◌<◌, ◌∙◌, ap, sym, subst, length, rules}
use Rattle.std.proofs.lemmas.List.{get_or_default}
use Rattle.mgn_machine.specs.State.{AccountState, account_at, no_account}
use Rattle.mgn_register.specs.BookStates.{BookState}
use Rattle.mgn_register.proofs.Found.{release-place, release-place-there, release-plan-finds}
use Rattle.mgn_register.proofs.register.Register.planned_release.Goals as goal

pub index-requires : goal.index-requires
index-requires c =
    let u = c.in-One.found in
    let finds = release-plan-finds c.args.set.now c.args.self.now.state c.args.account c.args.order u (sym c.in-One.is ∙ c.requires.plan) in
    let within : u.account < length c.self.inside.accounts.items = subst (λ (g : BookState). u.account < length g.state.accounts) (sym c.self.view_is) finds.1.owner in
    search rules

pub returns-in_err-hold-in-One-clause-refused : goal.returns-in_err-hold-in-One-clause-refused
returns-in_err-hold-in-One-clause-refused c =
    let u = c.in-One.found in
    let s = c.args.self.now.state in
    let planned = sym c.in-One.is ∙ c.requires.plan in
    let finds = release-plan-finds c.args.set.now s c.args.account c.args.order u planned in
    let within : u.account < length c.self.inside.accounts.items = subst (λ (g : BookState). u.account < length g.state.accounts) (sym c.self.view_is) finds.1.owner in
    let own : c.index.result.now ≡ account_at s.accounts u.account =
    c.index.ensures ∙ get_or_default c.self.inside.accounts.items u.account c.index.result.now no_account within ∙ ap (λ (g : BookState). account_at g.state.accounts u.account) c.self.view_is
    in
    absurd (release-place-there c.args.set.now s c.args.account c.args.order u c.index.result.now c.in_err-hold-in-One.field-0.0 planned own c.in_err-hold-in-One.ensures.place)

pub returns-in_ok-hold-in-One-clause-places : goal.returns-in_ok-hold-in-One-clause-places
returns-in_ok-hold-in-One-clause-places c =
    let u = c.in-One.found in
    let s = c.args.self.now.state in
    let planned = sym c.in-One.is ∙ c.requires.plan in
    let within : u.account < length c.self.inside.accounts.items = subst (λ (g : BookState). u.account < length g.state.accounts) (sym c.self.view_is) (release-plan-finds c.args.set.now s c.args.account c.args.order u planned).1.owner in
    let own : c.index.result.now ≡ account_at s.accounts u.account =
    c.index.ensures ∙ get_or_default c.self.inside.accounts.items u.account c.index.result.now no_account within ∙ ap (λ (g : BookState). account_at g.state.accounts u.account) c.self.view_is
    in
    let found = release-place c.args.set.now s c.args.account c.args.order u c.index.result.now c.in_ok-hold-in-One.hold planned own c.in_ok-hold-in-One.ensures.place in
    sym found.places

pub returns-in_ok-hold-in-One-clause-account : goal.returns-in_ok-hold-in-One-clause-account
returns-in_ok-hold-in-One-clause-account c =
    let u = c.in-One.found in
    let s = c.args.self.now.state in
    let planned = sym c.in-One.is ∙ c.requires.plan in
    let within : u.account < length c.self.inside.accounts.items = subst (λ (g : BookState). u.account < length g.state.accounts) (sym c.self.view_is) (release-plan-finds c.args.set.now s c.args.account c.args.order u planned).1.owner in
    let own : c.index.result.now ≡ account_at s.accounts u.account =
    c.index.ensures ∙ get_or_default c.self.inside.accounts.items u.account c.index.result.now no_account within ∙ ap (λ (g : BookState). account_at g.state.accounts u.account) c.self.view_is
    in
    let found = release-place c.args.set.now s c.args.account c.args.order u c.index.result.now c.in_ok-hold-in-One.hold planned own c.in_ok-hold-in-One.ensures.place in
    found.owner

pub returns-in_ok-hold-in-One-clause-stands : goal.returns-in_ok-hold-in-One-clause-stands
returns-in_ok-hold-in-One-clause-stands c =
    let u = c.in-One.found in
    let s = c.args.self.now.state in
    let planned = sym c.in-One.is ∙ c.requires.plan in
    let within : u.account < length c.self.inside.accounts.items = subst (λ (g : BookState). u.account < length g.state.accounts) (sym c.self.view_is) (release-plan-finds c.args.set.now s c.args.account c.args.order u planned).1.owner in
    let own : c.index.result.now ≡ account_at s.accounts u.account =
    c.index.ensures ∙ get_or_default c.self.inside.accounts.items u.account c.index.result.now no_account within ∙ ap (λ (g : BookState). account_at g.state.accounts u.account) c.self.view_is
    in
    let found = release-place c.args.set.now s c.args.account c.args.order u c.index.result.now c.in_ok-hold-in-One.hold planned own c.in_ok-hold-in-One.ensures.place in
    found.stands

pub returns-in_ok-hold-in-One-clause-within : goal.returns-in_ok-hold-in-One-clause-within
returns-in_ok-hold-in-One-clause-within c =
    let u = c.in-One.found in
    let s = c.args.self.now.state in
    let planned = sym c.in-One.is ∙ c.requires.plan in
    let within : u.account < length c.self.inside.accounts.items = subst (λ (g : BookState). u.account < length g.state.accounts) (sym c.self.view_is) (release-plan-finds c.args.set.now s c.args.account c.args.order u planned).1.owner in
    let own : c.index.result.now ≡ account_at s.accounts u.account =
    c.index.ensures ∙ get_or_default c.self.inside.accounts.items u.account c.index.result.now no_account within ∙ ap (λ (g : BookState). account_at g.state.accounts u.account) c.self.view_is
    in
    let found = release-place c.args.set.now s c.args.account c.args.order u c.index.result.now c.in_ok-hold-in-One.hold planned own c.in_ok-hold-in-One.ensures.place in
    found.within

pub returns-in_ok-hold-in-One-clause-hold : goal.returns-in_ok-hold-in-One-clause-hold
returns-in_ok-hold-in-One-clause-hold c =
    let u = c.in-One.found in
    let s = c.args.self.now.state in
    let within : u.account < length c.self.inside.accounts.items = subst (λ (g : BookState). u.account < length g.state.accounts) (sym c.self.view_is) (release-plan-finds c.args.set.now s c.args.account c.args.order u (sym c.in-One.is ∙ c.requires.plan)).1.owner in
    let own : c.index.result.now ≡ account_at s.accounts u.account =
    c.index.ensures ∙ get_or_default c.self.inside.accounts.items u.account c.index.result.now no_account within ∙ ap (λ (g : BookState). account_at g.state.accounts u.account) c.self.view_is
    in
    subst (λ (a : AccountState). c.in_ok-hold-in-One.hold < length a.holds) own c.in_ok-hold-in-One.ensures.within
