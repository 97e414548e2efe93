use Rattle.std.proofs.Common.{◌≡◌, ◌≢◌, ◌∙◌, ap, arith, length, length-set, pos, sym, ⊎_elim}
use Rattle.std.proofs.lemmas.Bool.{cases_eq}
use Rattle.std.proofs.lemmas.List.{ext_get_or, get_or_default}
use Rattle.mgn_span.specs.Scan.{value_at}
use Rattle.mgn_nets.proofs.Filling.{filled-here, filled-other}
use Rattle.mgn_nets.proofs.nets.Nets.of.Goals as goal

pub fill-requires-clause-empty : goal.fill-requires-clause-empty
fill-requires-clause-empty c = c.loop-i.invariant.rest c.loop-i.i (omega arith)

pub loop-i-preserved : goal.loop-i-preserved
loop-i-preserved c =
    let nets = c.loop-i.nets in
    let new = c.fill.new.self in
    let i = c.loop-i.i in
    let q = c.index-list-i.result in
    let read = c.index-list-i.is ∙ get_or_default c.args.list.now i q (pos 0) c.loop-i-test.true in
    let here = filled-here nets new i q c.fill.ensures (omega (arith, c.loop-i.invariant.long, c.loop-i-test.true)) in
    record {
      long = ap length c.fill.ensures ∙ length-set nets i q ∙ c.loop-i.invariant.long;
      done = λ k less.
          ⊎_elim
          (λ (own : k ≡ i). ap (value_at new) own ∙ here ∙ read ∙ ap (value_at c.args.list.now) (sym own))
          (λ (other : k ≢ i). filled-other nets new i k q c.fill.ensures other ∙ c.loop-i.invariant.done k (omega (arith, less, other)))
          (cases_eq k i);
      rest = λ k low. filled-other nets new i k q c.fill.ensures (λ own. absurd (omega (arith, own, low))) ∙ c.loop-i.invariant.rest k (omega (arith, low));
    }

pub returns : goal.returns
returns c =
    ext_get_or (pos 0) c.loop-i.nets c.args.list.now c.loop-i.invariant.long (λ k less. c.loop-i.invariant.done k (omega (arith, less, c.loop-i.invariant.long, c.loop-i-test.false)))
