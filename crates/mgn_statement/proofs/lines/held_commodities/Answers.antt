use Rattle.std.proofs.Common.{◌≡◌, ◌≢◌, ◌∙◌, ◌<◌, ℤ, true, arith, length, pos, refl, rules, unsigned_abs}
use Rattle.std.proofs.lemmas.Bool.{lt-ltb}
use Rattle.std.proofs.lemmas.Int.{ints}
use Rattle.std.proofs.lemmas.List.{length-set}
use Rattle.std.proofs.lemmas.List.Elements.{All-get_or}
use Rattle.mgn_params.specs.Limits.{IsContract}
use Rattle.mgn_params.specs.Tables.{contract_at, no_contract}
use Rattle.mgn_span.specs.Scan.{value_at}
use Rattle.mgn_statement.proofs.Lists.{all_marked, marked_more, none_marked, unmarked_to}
use Rattle.mgn_statement.proofs.lines.held_commodities.Goals as goal

some_size : (z : ℤ) → z ≢ pos 0 → 0 < unsigned_abs z
some_size z other = omega (arith, ints, other)

pub loop-i-init : goal.loop-i-init
loop-i-init c = record { within = omega arith; long = refl; marked = λ g. none_marked 256 g }

pub overflow_add-from : goal.overflow_add-from
overflow_add-from c = omega (arith, c.in-Some.ensures.found.1, c.requires.one_each, c.limits.ensures.few_contracts)

pub loop-i-preserved : goal.loop-i-preserved
loop-i-preserved c =
    let contracts = c.args.set.now.contracts in
    let nets = c.args.nets.now in
    let i = c.in-Some.i in
    let inside : i < length contracts = omega (arith, c.in-Some.ensures.found.1, c.requires.one_each) in
    let own : (contract_at contracts i).commodity < length c.args.set.now.commodities = (All-get_or (IsContract (length c.args.set.now.commodities) c.args.set.now.months) contracts i no_contract inside c.limits.ensures.contracts).commodity in
    let marks : length c.loop-i.held ≡ 256 = c.loop-i.invariant.long in
    let some = lt-ltb 0 (unsigned_abs (value_at nets i)) (some_size (value_at nets i) c.in-Some.ensures.held) in
    let before = unmarked_to c.loop-i.held contracts nets c.loop-i.from i c.in-Some.ensures.found.0 (omega (arith, inside)) c.requires.one_each c.in-Some.ensures.before c.loop-i.invariant.marked in
    record {
      within = omega (arith, c.in-Some.ensures.found.1);
      long = rw c.contract_at.ensures (length-set c.loop-i.held (contract_at contracts i).commodity true ∙ marks);
      marked = rw c.contract_at.ensures (marked_more c.loop-i.held contracts nets i inside c.requires.one_each (omega (arith, own, marks, c.limits.ensures.few_commodities)) some before);
    }

pub returns-clause-held : goal.returns-clause-held
returns-clause-held c =
    let contracts = c.args.set.now.contracts in
    all_marked c.loop-i.held contracts c.args.nets.now (length contracts) (omega arith) c.requires.one_each (unmarked_to c.loop-i.held contracts c.args.nets.now c.loop-i.from (length contracts) (omega (arith, c.loop-i.invariant.within, c.requires.one_each)) (omega arith) c.requires.one_each (λ k low high. c.next_held.ensures.none (search rules) k low) c.loop-i.invariant.marked)
