use Rattle.std.proofs.Common.{◌≡◌, ◌∙◌, ⊎_elim, ap, false, List, true}
use Rattle.std.proofs.lemmas.Bool.{cases_Bool}
use Rattle.mgn_params.specs.declared.tables.CreditSpread.{CreditSpread}
use Rattle.mgn_params.specs.Tables.{credit_spread_at, no_credit_spread}
use Rattle.mgn_inter.proofs.ReworkedLemmas.{told_next, told_out}
use Rattle.mgn_inter.proofs.TurnLemmas.{waiting_next}
use Rattle.mgn_inter.proofs.inter.InterCredits.turn.Goals as goal
use Rattle.mgn_inter.proofs.inter.InterCredits.turn.Goals.{After-tell}

pub returns-clause-turn : goal.returns-clause-turn
returns-clause-turn c = λ was at. c.rework-is_told.ensures.turn c.args.g was at

pub await_moved-requires-clause-commodities : goal.await_moved-requires-clause-commodities
await_moved-requires-clause-commodities c =
    let spread = c.spread_at-spread.ensures ∙ ap (λ (ss : List CreditSpread). credit_spread_at ss c.args.i) c.credits.ensures in
    let limit = c.limits.ensures.credits c.args.i no_credit_spread c.requires.inside in
    rw spread (λ k d low. (limit.legs k d low).commodity)

spread_is : (c : After-tell) → c.spread_at-spread.result.now ≡ credit_spread_at c.args.set.now.credits c.args.i
spread_is c =
    c.spread_at-spread.ensures ∙ ap (λ (ss : List CreditSpread). credit_spread_at ss c.args.i) c.credits.ensures

pub returns-clause-waiting : goal.returns-clause-waiting
returns-clause-waiting c =
    let set' = c.args.set.now in
    let moved = rw (spread_is c) at c.await_moved.ensures.moved in
    waiting_next set'.credits c.args.g c.args.i c.args.moved.now c.rework-is_told.new.moved c.args.waiting.now c.await_moved.new.waiting c.requires.waiting c.await_moved.ensures.kept moved c.rework-is_told.ensures.marks

pub returns-clause-places : goal.returns-clause-places
returns-clause-places c =
    told_next c.rework-is_told.result c.args.reworked.now c.tell.new.self c.args.i c.tell.ensures

pub returns-clause-others : goal.returns-clause-others
returns-clause-others c =
    λ k out.
    ⊎_elim
    (λ (told : c.rework-is_told.result ≡ true).
    c.rework-is_told.ensures.others k (told_out k c.args.set.now.credits c.args.reworked.now c.tell.new.self c.args.i (rw told at c.tell.ensures) out))
    (λ (silent : c.rework-is_told.result ≡ false). c.rework-is_told.ensures.same silent k)
    (cases_Bool c.rework-is_told.result)
