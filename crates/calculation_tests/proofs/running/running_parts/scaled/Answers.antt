use Rattle.std.proofs.Common.{rules, ◌≡◌, ◌≤◌, ◌^◌, ◌*◌, unsigned_abs}
use Rattle.std.specs.Prelude.{◌*ℤ◌}
use Rattle.mgn_num.proofs.SignedLemmas.{size-*ℤ-le}
use Rattle.calculation_tests.proofs.running.running_parts.scaled.Goals as goal

pub returns : goal.returns
returns c =
    let product : unsigned_abs (c.args.quantity *ℤ c.args.delta.now) ≤ (2 * 10 ^ 7) * 10 ^ 5 = size-*ℤ-le c.args.quantity c.args.delta.now (2 * 10 ^ 7) (10 ^ 5) c.requires.quantity c.requires.delta in
    let is : c.product.result ≡ c.args.quantity *ℤ c.args.delta.now = search rules in
    rw is product
