use Rattle.std.proofs.Common.{◌≡◌, ◌<◌, ◌≤◌, ◌∙◌, ap, arith, rules, sym, ⊎_elim}
use Rattle.std.proofs.lemmas.Bool.{cases_lt}
use Rattle.mgn_unit.specs.NewSets.{is_covered_at}
use Rattle.mgn_unit.proofs.Covered.{all-covered, flat-covered, one-lacks}
use Rattle.mgn_unit.proofs.new_set.are_covered.Goals as goal

pub returns-then-not-is_contract_covered : goal.returns-then-not-is_contract_covered
returns-then-not-is_contract_covered c =
    sym (one-lacks c.args.old.now c.args.new.now c.args.nets.now c.in-Some.contract (omega (arith, c.in-Some.ensures.found.1, c.requires.one_each)) (sym c.is_contract_covered.ensures ∙ c.if-not-is_contract_covered.true))

pub overflow_add-from : goal.overflow_add-from
overflow_add-from c = omega (arith, c.in-Some.ensures.found.1, c.requires.one_each, c.limits.ensures.few_contracts)

pub loop-contract-preserved : goal.loop-contract-preserved
loop-contract-preserved c = λ k before.
    ⊎_elim
    (λ (passed : k < c.in-Some.contract).
    ⊎_elim
    (λ (earlier : k < c.loop-contract.from). c.loop-contract.invariant k earlier)
    (λ (later : c.loop-contract.from ≤ k).
    flat-covered c.args.old.now c.args.new.now c.args.nets.now k (c.in-Some.ensures.before k later passed))
    (cases_lt k c.loop-contract.from))
    (λ (at : c.in-Some.contract ≤ k).
    let here : k ≡ c.in-Some.contract = omega (arith, at, before) in
    ap (is_covered_at c.args.old.now c.args.new.now c.args.nets.now) here ∙ sym c.is_contract_covered.ensures ∙ c.if-not-is_contract_covered.false)
    (cases_lt k c.in-Some.contract)

pub returns : goal.returns
returns c =
    sym (all-covered c.args.old.now c.args.new.now c.args.nets.now (λ k inside.
    ⊎_elim
    (λ (earlier : k < c.loop-contract.from). c.loop-contract.invariant k earlier)
    (λ (later : c.loop-contract.from ≤ k).
    flat-covered c.args.old.now c.args.new.now c.args.nets.now k (c.next_held.ensures.none (search rules) k later))
    (cases_lt k c.loop-contract.from)))
