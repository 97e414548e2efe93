use Rattle.std.proofs.Common.{arith, length, rules}
use Rattle.mgn_plain.proofs.PassLemmas.{sums_run}
use Rattle.mgn_plain.proofs.sums.add_positions.Goals as goal

pub add_position-requires-clause-sums : goal.add_position-requires-clause-sums
add_position-requires-clause-sums c =
    let one_each = c.requires.sums.of_nets.one_each in
    sums_run c.args.set.now c.args.nets.now c.loop-i.from c.in-Some.i c.loop-i.sums c.in-Some.ensures.found.0 (omega (arith, c.in-Some.ensures.found.1, one_each)) c.in-Some.ensures.before c.loop-i.invariant.so_far

pub overflow_add-from : goal.overflow_add-from
overflow_add-from c =
    omega (arith, c.in-Some.ensures.found.1, c.requires.sums.of_nets.one_each, c.limits.ensures.few_contracts)

pub returns : goal.returns
returns c =
    let one_each = c.requires.sums.of_nets.one_each in
    sums_run c.args.set.now c.args.nets.now c.loop-i.from (length c.args.set.now.contracts) c.loop-i.sums (omega (arith, c.loop-i.invariant.within, one_each)) (omega arith) (λ k low high. c.next_held.ensures.none (search rules) k low) c.loop-i.invariant.so_far
