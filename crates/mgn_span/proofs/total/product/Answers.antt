use Rattle.std.proofs.Common.{◌∙◌, ◌≡◌, ◌≤◌, ◌*◌, ◌^◌, ℤ, ap, arith, unsigned_abs, FitsSigned, w32, w64}
use Rattle.std.specs.Prelude.{◌*ℤ◌}
use Rattle.std.proofs.lemmas.Int.{fits_signed_from_abs, ints, to_z-of_z}
use Rattle.mgn_span.proofs.ProductLemmas.{product_small}
use Rattle.mgn_span.proofs.total.product.Goals as goal
use Rattle.mgn_span.proofs.total.product.Goals.{After-contracts, After-from}

small_quantity : (c : After-contracts) → unsigned_abs c.contracts.result ≤ 2 * 10 ^ 7
small_quantity c = rw c.contracts.ensures.value c.requires.quantity

value_is : (c : After-from) → c.from.result ≡ c.args.value.now
value_is c = c.from.ensures ∙ to_z-of_z w32 c.args.value.now (fits_signed_from_abs w32 c.args.value.now (omega (arith, c.requires.value)))

small_value : (c : After-from) → unsigned_abs c.from.result ≤ 10 ^ 8
small_value c = rw (value_is c) c.requires.value

pub returns-clause-product : goal.returns-clause-product
returns-clause-product c =
    let at = (goal.at.returns-clause-product c).After-contracts in
    let after = (goal.at.returns-clause-product c).After-from in
    let small = product_small c.contracts.result c.from.result (small_quantity at) (small_value after) in
    let quantity : FitsSigned w64 c.contracts.result = omega (arith, ints, small_quantity at) in
    let value : FitsSigned w64 c.from.result = omega (arith, ints, small_value after) in
    let product : FitsSigned w64 (c.contracts.result *ℤ c.from.result) = omega (arith, ints, small) in
    simp to_z-of_z (ap (λ (q : ℤ). q *ℤ c.from.result) c.contracts.ensures.value ∙ ap (λ (v : ℤ). c.args.quantity *ℤ v) (value_is after))

pub returns-clause-small : goal.returns-clause-small
returns-clause-small c =
    let at = (goal.at.returns-clause-small c).After-contracts in
    let after = (goal.at.returns-clause-small c).After-from in
    let small = product_small c.contracts.result c.from.result (small_quantity at) (small_value after) in
    let quantity : FitsSigned w64 c.contracts.result = omega (arith, ints, small_quantity at) in
    let value : FitsSigned w64 c.from.result = omega (arith, ints, small_value after) in
    let product : FitsSigned w64 (c.contracts.result *ℤ c.from.result) = omega (arith, ints, small) in
    simp to_z-of_z small
