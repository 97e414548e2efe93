use Rattle.std.proofs.Common.{◌≡◌, ◌∙◌, ap, arith, pos, set, sym, ℤ}
use Rattle.std.proofs.lemmas.Int.{ints}
use Rattle.std.proofs.lemmas.List.{set-get_or}
use Rattle.std.specs.Prelude.{◌+ℤ◌}
use Rattle.mgn_span.specs.Scan.{value_at}
use Rattle.mgn_nets.proofs.nets.Nets.fill.Goals as goal

pub returns-then-size-ne0 : goal.returns-then-size-ne0
returns-then-size-ne0 c =
    let sum : value_at c.args.self.now c.args.contract +ℤ c.args.quantity ≡ c.args.quantity = omega (arith, ints, c.requires.empty) in
    c.add.ensures ∙ ap (λ (n : ℤ). set c.args.self.now c.args.contract n) sum

pub returns-else-size-ne0 : goal.returns-else-size-ne0
returns-else-size-ne0 c =
    let none : c.args.quantity ≡ value_at c.args.self.now c.args.contract = omega (arith, ints, c.size.ensures.value, c.requires.empty) in
    sym (ap (λ (n : ℤ). set c.args.self.now c.args.contract n) none ∙ set-get_or c.args.self.now c.args.contract (pos 0))
