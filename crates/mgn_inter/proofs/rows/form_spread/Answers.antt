use Rattle.std.proofs.Common.{◌≡◌, ◌<◌, ◌≤◌, ◌∙◌, ℕ, ℤ, List, All, ap, arith, false, length, length-take, refl, sym, true}
use Rattle.std.proofs.lemmas.List.{length-map}
use Rattle.mgn_params.specs.declared.tables.Leg.{Leg}
use Rattle.mgn_params.specs.Tables.{legs_of, no_leg}
use Rattle.mgn_span.specs.Credits.{forms, leg_credit, rests_after, spread_amount}
use Rattle.mgn_span.specs.Scan.{value_at}
use Rattle.mgn_span.specs.Words.{IsCreditable, leg_at}
use Rattle.mgn_span.proofs.CreditLemmas.{legs_creditable, length-rests_after}
use Rattle.mgn_inter.specs.declared.commodity_numbers.CommodityNumbers.{CommodityNumbers}
use Rattle.mgn_inter.specs.Columns.{deltas_in, risks_in}
use Rattle.mgn_inter.proofs.GatherLemmas.{own_after, own_all, own_amount, own_credit, own_creditable, own_legs, own_long, own_place, own_ratio}
use Rattle.mgn_inter.proofs.LegLemmas.{legs_apart}
use Rattle.mgn_inter.proofs.SpreadLemmas.{kept_no, kept_yes}
use Rattle.mgn_inter.proofs.rows.form_spread.Goals as goal
use Rattle.mgn_inter.proofs.rows.form_spread.Goals.{After-amount_of_legs-amount}

pub returns-then-not-kept_forms : goal.returns-then-not-kept_forms
returns-then-not-kept_forms c =
    λ all long rests.
    let s = c.args.spread.now in
    let no : forms all (legs_of s) ≡ false = sym (c.kept_forms.ensures all rests) ∙ c.if-not-kept_forms.true in
    kept_no (deltas_in c.args.numbers.now) (risks_in c.args.numbers.now) all s _ no rests.long rests.long rests.are rests.are refl

pub amount_of_legs-amount-requires-clause-ratios :
    goal.amount_of_legs-amount-requires-clause-ratios
amount_of_legs-amount-requires-clause-ratios c =
    let s = c.args.spread.now in
    let rows = c.args.numbers.now in
    let g = c.gather-own.result in
    let are = c.gather-own.ensures in
    own_all (λ (leg : Leg). 0 < leg.ratio) (deltas_in rows) (risks_in rows) s g are (λ j low. omega (arith, own_ratio (deltas_in rows) (risks_in rows) s g j are low, (c.requires.spread.legs j no_leg low).ratio))

-- each leg can be credited: by the rows of all commodities, and so by what is gathered
creditable : (c : After-amount_of_legs-amount) → All (IsCreditable c.gather-own.result.deltas c.gather-own.result.risks c.amount_of_legs-amount.result) (own_legs c.args.spread.now c.gather-own.result)
creditable c =
    let s = c.args.spread.now in
    let rows = c.args.numbers.now in
    let deltas = deltas_in rows in
    let risks = risks_in rows in
    let g = c.gather-own.result in
    let are = c.gather-own.ensures in
    let all = c.requires.near.0 in
    let rests = c.requires.near.1 in
    let yes : forms all (legs_of s) ≡ true = sym (c.kept_forms.ensures all rests) ∙ c.if-not-kept_forms.false in
    let few : length (legs_of s) ≤ 4 = omega (arith, length-take s.count s.legs, c.requires.spread.few) in
    let each = legs_creditable deltas all risks (length rows) s c.requires.numbers c.requires.near.2 (sym (length-map rows (λ (n : CommodityNumbers). n.delta))) c.requires.spread yes in
    let amount : c.amount_of_legs-amount.result ≡ spread_amount all (legs_of s) = c.amount_of_legs-amount.ensures ∙ own_amount deltas risks s g all c.args.rests.now are rests in
    rw amount (own_creditable deltas risks s g (spread_amount all (legs_of s)) are few each)

pub credits_of_legs-credits-requires-clause-legs : goal.credits_of_legs-credits-requires-clause-legs
credits_of_legs-credits-requires-clause-legs c =
    creditable (goal.at.credits_of_legs-credits-requires-clause-legs c).After-amount_of_legs-amount

pub use_rests-requires-clause-legs : goal.use_rests-requires-clause-legs
use_rests-requires-clause-legs c =
    let s = c.args.spread.now in
    let rows = c.args.numbers.now in
    let rests = c.requires.near.1 in
    let few : length (legs_of s) ≤ 4 = omega (arith, length-take s.count s.legs, c.requires.spread.few) in
    own_all (λ (leg : Leg). leg.commodity < length c.args.rests.now) (deltas_in rows) (risks_in rows) s c.gather-own.result c.gather-own.ensures (λ j low. omega (arith, own_place (deltas_in rows) (risks_in rows) s c.gather-own.result j c.gather-own.ensures low, low, few, rests.long))

pub use_rests-requires-clause-products : goal.use_rests-requires-clause-products
use_rests-requires-clause-products c =
    λ k d inside.
    (creditable (goal.at.use_rests-requires-clause-products c).After-amount_of_legs-amount k d inside).product

pub returns : goal.returns
returns c =
    λ all long rests.
    let s = c.args.spread.now in
    let rows = c.args.numbers.now in
    let deltas = deltas_in rows in
    let risks = risks_in rows in
    let g = c.gather-own.result in
    let are = c.gather-own.ensures in
    let own = own_legs s g in
    let legs = legs_of s in
    let row = c.args.rests.now in
    let yes : forms all legs ≡ true = sym (c.kept_forms.ensures all rests) ∙ c.if-not-kept_forms.false in
    let few : length legs ≤ 4 = omega (arith, length-take s.count s.legs, c.requires.spread.few) in
    let deltas_long = length-map rows (λ (n : CommodityNumbers). n.delta) in
    let there : All (λ leg. leg.commodity < length deltas) legs = λ k d inside. omega (arith, (c.requires.spread.legs k d inside).commodity, deltas_long) in
    let all_there : All (λ leg. leg.commodity < length all) legs = λ k d inside. omega (arith, (c.requires.spread.legs k d inside).commodity, long) in
    let amount : c.amount_of_legs-amount.result ≡ spread_amount all legs = c.amount_of_legs-amount.ensures ∙ own_amount deltas risks s g all row are rests in
    let apart = λ (i k : ℕ) (before : i < k) (inside : k < length legs). legs_apart legs i k c.requires.spread.apart before inside in
    let used = c.use_rests.ensures ∙ ap (λ (n : ℕ). rests_after row n own) amount in
    let after_long = ap (λ (r : List ℤ). length r) used ∙ length-rests_after row (spread_amount all legs) own ∙ rests.long in
    kept_yes deltas risks all s _ there few yes rests.long after_long c.credits_of_legs-credits.ensures.long rests.are (λ j low. ap (λ (r : List ℤ). value_at r j) used ∙ own_after deltas risks s g all row (spread_amount all legs) j are rests few apart all_there low) (λ j low.
    c.credits_of_legs-credits.ensures.credits j (omega (arith, low, own_long deltas risks s g are))
    ∙ ap (λ (n : ℕ). leg_credit g.deltas g.risks s.rate n (leg_at own j)) amount
    ∙ own_credit deltas risks s g s.rate (spread_amount all legs) j are low)
