use Rattle.std.proofs.Common.{◌≡◌, ◌∙◌, length, refl, sym, true}
use Rattle.mgn_params.specs.Tables.{legs_of}
use Rattle.mgn_span.specs.Credits.{forms}
use Rattle.mgn_span.proofs.CreditLemmas.{legs_creditable}
use Rattle.mgn_plain.proofs.CreditLemmas.{near_legs, rests_used}
use Rattle.mgn_plain.proofs.credits.form_spread.Goals as goal

pub credit_legs-requires-clause-legs : goal.credit_legs-requires-clause-legs
credit_legs-requires-clause-legs c =
    let yes : forms c.args.rests.now (legs_of c.args.spread.now) ≡ true = sym c.spread_forms.ensures ∙ c.if-spread_forms.true in
    rw c.amount_of_legs-amount.ensures (legs_creditable c.args.deltas.now c.args.rests.now c.args.risks.now (length c.args.deltas.now) c.args.spread.now c.requires.numbers (near_legs c.args.deltas.now c.args.rests.now (legs_of c.args.spread.now) c.requires.rests) refl c.requires.spread yes)

pub use_rests-requires-clause-products : goal.use_rests-requires-clause-products
use_rests-requires-clause-products c =
    λ k d inside.
    let yes : forms c.args.rests.now (legs_of c.args.spread.now) ≡ true = sym c.spread_forms.ensures ∙ c.if-spread_forms.true in
    let own = legs_creditable c.args.deltas.now c.args.rests.now c.args.risks.now (length c.args.deltas.now) c.args.spread.now c.requires.numbers (near_legs c.args.deltas.now c.args.rests.now (legs_of c.args.spread.now) c.requires.rests) refl c.requires.spread yes k d inside in
    rw c.amount_of_legs-amount.ensures own.product

pub returns-then-spread_forms-clause-rests : goal.returns-then-spread_forms-clause-rests
returns-then-spread_forms-clause-rests c =
    rw c.use_rests.ensures (rests_used c.args.deltas.now c.args.rests.now c.amount_of_legs-amount.result (legs_of c.args.spread.now) c.requires.rests)
