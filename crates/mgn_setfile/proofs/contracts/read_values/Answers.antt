use Rattle.std.proofs.Common.{◌≡◌, ◌∙◌, ◌+◌, ◌<◌, ◌≤◌, arith, rules, sym, length, map, Bor, List, ℕ, Err, length-set, w32}
use Rattle.std.specs.Prelude.{◌^◌, unsigned_abs, ℤ}
use Rattle.std.proofs.lemmas.Int.{fits_signed_from_abs, to_z-of_z}
use Rattle.std.proofs.lemmas.List.{length-map}
use Rattle.std.proofs.lemmas.List.Elements.{All-set}
use Rattle.mgn_setfile.proofs.RecordLemmas.{values_fail, values_more, values_end, now_at}
use Rattle.mgn_setfile.proofs.contracts.read_values.Goals as goal

pub returns-in_err-values-clause-value : goal.returns-in_err-values-clause-value
returns-in_err-values-clause-value c =
    let inside : c.loop-i.i < length c.args.words.now = omega arith in
    let word = rw now_at at c.read_value.ensures.value in
    let err : c.from_residual.result ≡ Err c.in_err-values.field-0.0 = search rules in
    let within : c.loop-i.i < length (map (λ (s : Bor (List ℕ)). s.now) c.args.words.now) = omega (arith, length-map c.args.words.now (λ (s : Bor (List ℕ)). s.now)) in
    err ∙ sym (c.loop-i.invariant.so_far ∙ values_fail _ c.loop-i.i (9 + c.loop-i.i) c.in_err-values.field-0.0 c.loop-i.values within (sym word ∙ c.in_err-values.was))

pub loop-i-preserved : goal.loop-i-preserved
loop-i-preserved c =
    let inside : c.loop-i.i < length c.args.words.now = omega arith in
    let word = rw now_at at c.read_value.ensures.value in
    let within : c.loop-i.i < length (map (λ (s : Bor (List ℕ)). s.now) c.args.words.now) = omega (arith, length-map c.args.words.now (λ (s : Bor (List ℕ)). s.now)) in
    let room : c.loop-i.i < length c.loop-i.values = omega (arith, c.loop-i.invariant.all) in
    let small = c.in_ok-values.ensures.bound in
    let kept = to_z-of_z w32 c.in_ok-values.field-0 (fits_signed_from_abs w32 c.in_ok-values.field-0 (omega arith)) in
    rw kept (record {
      so_far = c.loop-i.invariant.so_far ∙ values_more _ c.loop-i.i (9 + c.loop-i.i) (9 + (c.loop-i.i + 1)) c.in_ok-values.field-0 c.loop-i.values (omega arith) within room (sym word ∙ c.in_ok-values.was);
      all = length-set c.loop-i.values c.loop-i.i c.in_ok-values.field-0 ∙ c.loop-i.invariant.all;
      small = All-set (λ (v : ℤ). unsigned_abs v ≤ 10 ^ 8) c.loop-i.values c.loop-i.i c.in_ok-values.field-0 small c.loop-i.invariant.small;
    })

pub returns-clause-value : goal.returns-clause-value
returns-clause-value c =
    sym (c.loop-i.invariant.so_far ∙ values_end (map (λ (s : Bor (List ℕ)). s.now) c.args.words.now) c.loop-i.i (9 + c.loop-i.i) c.loop-i.values (omega (arith, length-map c.args.words.now (λ (s : Bor (List ℕ)). s.now))) (omega arith))
