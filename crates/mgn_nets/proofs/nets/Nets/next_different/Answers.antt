use Rattle.std.proofs.Common.{◌+◌, ◌-◌, ◌*◌, ◌/◌, ◌<◌, ◌≤◌, arith, refl, ⊎_elim}
use Rattle.std.proofs.lemmas.Bool.{cases_lt}
use Rattle.std.proofs.lemmas.Nat.{div-add-mod'}
use Rattle.mgn_nets.proofs.Paged.{same-in-page}
use Rattle.mgn_nets.proofs.nets.Nets.next_different.Goals as goal

pub returns-in-Some-clause-before : goal.returns-in-Some-clause-before
returns-in-Some-clause-before c = λ k from less.
    let at = c.loop-contract.contract in
    ⊎_elim
    (λ (before : k < at). c.loop-contract.invariant.passed k from before)
    (λ (after : at ≤ k).
    same-in-page c.args.self.now c.args.other.now at k after
    (c.in-Some.ensures.before (k - (at / 16) * 16) (omega (arith, after, div-add-mod' at 16)) (omega (arith, after, less, div-add-mod' at 16))))
    (cases_lt k at)

pub overflow_mul-contract : goal.overflow_mul-contract
overflow_mul-contract c = omega (arith, c.kept_in_one_from-contract.ensures.few)

pub loop-contract-preserved : goal.loop-contract-preserved
loop-contract-preserved c =
    let at = c.loop-contract.contract in
    record {
      from = omega (arith, c.loop-contract.invariant.from, div-add-mod' at 16, c.kept_in_one_from-contract.ensures.from);
      passed = λ k from less.
          ⊎_elim
          (λ (before : k < at). c.loop-contract.invariant.passed k from before)
          (λ (after : at ≤ k).
          ⊎_elim
          (λ (here : k < (at / 16 + 1) * 16).
          same-in-page c.args.self.now c.args.other.now at k after
          (c.in_default.ensures.none refl (k - (at / 16) * 16) (omega (arith, after, div-add-mod' at 16)) (omega (arith, after, here, div-add-mod' at 16))))
          (λ (past : (at / 16 + 1) * 16 ≤ k). c.kept_in_one_from-contract.ensures.passed k past less)
          (cases_lt k ((at / 16 + 1) * 16)))
          (cases_lt k at);
    }
