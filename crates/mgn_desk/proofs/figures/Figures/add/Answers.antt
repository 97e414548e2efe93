use Rattle.std.proofs.Common.{◌≡◌, ◌≢◌, arith, pos, refl, subst, sym}
use Rattle.std.proofs.lemmas.Int.{ints}
use Rattle.mgn_params.specs.Tables.{contract_at}
use Rattle.mgn_option.proofs.SumsLemmas.{changed_value_small}
use Rattle.mgn_desk.specs.declared.figures.Figures.{Figures}
use Rattle.mgn_desk.specs.WorkedPortfolios.{IsBehind, WorkedPortfolio, worked}
use Rattle.mgn_desk.proofs.AddLemmas.{parts_followed}
use Rattle.mgn_desk.proofs.FollowLemmas.{followed_none}
use Rattle.mgn_desk.proofs.WorkedLemmas.{behind_moved}
use Rattle.mgn_desk.proofs.figures.Figures.add.Goals as goal

pub follow-requires-clause-small : goal.follow-requires-clause-small
follow-requires-clause-small c =
    let (old, behind, followed, net) = c.requires.behind in
    let p = worked c.args.portfolio old c.args.self.now in
    changed_value_small c.args.set.now p.nets p.sums c.args.i c.args.quantity c.limits.ensures behind.parts.sums c.requires.contract net

pub returns-then-size-ne0-clause-behind : goal.returns-then-size-ne0-clause-behind
returns-then-size-ne0-clause-behind c =
    let (old, behind, followed, net) = c.requires.behind in
    let t = c.args.set.now in
    let w = c.args.portfolio in
    let new = c.args.lists.now in
    let f = c.args.self.now in
    let f' : Figures = record f { value = c.follow.new.self } in
    let i = c.args.i in
    let q = c.args.quantity in
    let some : q ≢ pos 0 = omega (arith, ints, c.size.ensures.value) in
    let parts = parts_followed t w old new f f' i q c.limits.ensures c.requires.contract behind.parts net followed some c.follow.ensures in
    behind_moved t (worked w old f) (worked w new f') i q c.limits.ensures c.requires.contract behind followed.nets parts refl refl

pub returns-else-size-ne0-clause-behind : goal.returns-else-size-ne0-clause-behind
returns-else-size-ne0-clause-behind c =
    let (old, behind, followed, net) = c.requires.behind in
    let t = c.args.set.now in
    let none : c.args.quantity ≡ pos 0 = omega (arith, ints, c.size.ensures.value) in
    subst (λ (p : WorkedPortfolio). IsBehind t (contract_at t.contracts c.args.i).commodity p) (sym (followed_none t c.args.portfolio old c.args.lists.now c.args.self.now c.args.i c.args.quantity followed none)) behind
