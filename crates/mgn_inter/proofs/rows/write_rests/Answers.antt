use Rattle.std.proofs.Common.{rules, ◌≡◌, ◌∙◌, ◌<◌, ◌≤◌, ⊎_elim, ℕ, ℤ, List, ap, arith, get_or, length, length-set, pos, slice_set, sym, true}
use Rattle.std.proofs.lemmas.Bool.{cases_lt, true≢false}
use Rattle.std.proofs.lemmas.List.{get_or_read, length-map}
use Rattle.mgn_span.specs.Scan.{value_at}
use Rattle.mgn_span.specs.Words.{leg_at}
use Rattle.mgn_inter.specs.declared.commodity_numbers.CommodityNumbers.{CommodityNumbers}
use Rattle.mgn_inter.specs.Columns.{rests_in}
use Rattle.mgn_inter.specs.Rows.{moved_at}
use Rattle.mgn_inter.proofs.LegLemmas.{each_so_far, out_so_far}
use Rattle.mgn_inter.proofs.rows.write_rests.Goals as goal
use Rattle.mgn_inter.proofs.rows.write_rests.Goals.{then-moved-commodity, else-moved-commodity}

rests_long : (rows : List CommodityNumbers) → length (rests_in rows) ≡ length rows
rests_long rows = length-map rows (λ (n : CommodityNumbers). n.rest)

pub loop-k-preserved : goal.loop-k-preserved
loop-k-preserved c =
    let legs = c.args.legs.now in
    let moved = c.args.moved.now in
    let rests = c.args.rests.now in
    let k = c.loop-k.k in
    let now = c.loop-k.invariant in
    let row = rests_in c.loop-k.numbers in
    let leg = leg_at legs k in
    let inside = c.loop-k-test.true in
    let there : leg.commodity < length row = omega (arith, c.requires.legs k leg inside, now.long, rests_long c.loop-k.numbers) in
    let long : length rests ≡ 4 = search rules in
    elim c.if-moved-commodity.branch [
      | then-moved-commodity w ↦
          let x = get_or rests k w.index-rests-k.result in
          let is : rests_in w.write_rest.new.numbers ≡ slice_set row leg.commodity x = w.write_rest.ensures.rests in
          let read : x ≡ value_at rests k = sym w.index-rests-k.is ∙ get_or_read rests k w.index-rests-k.result (omega (arith, long, c.requires.few, inside)) w.index-rests-k.is (pos 0) in
          let so_far = each_so_far (λ (j : ℕ) (z : ℤ). moved_at moved (leg_at legs j).commodity ≡ true → z ≡ value_at rests j) row legs k x (pos 0) c.requires.apart inside there now.so_far (λ yes. read) in
          rw w.numbers-is (record {
            long = sym (rests_long w.write_rest.new.numbers) ∙ ap (λ (r : List ℤ). length r) is ∙ length-set row leg.commodity x ∙ rests_long c.loop-k.numbers ∙ now.long;
            numbers = (w.write_rest.ensures.numbers.0 ∙ now.numbers.0, w.write_rest.ensures.numbers.1 ∙ now.numbers.1);
            credits = w.write_rest.ensures.credits ∙ now.credits;
            out = λ g out.
                ap (λ (r : List ℤ). value_at r g) is ∙ out_so_far row legs k g x (pos 0) inside out ∙ now.out g out;
            so_far = λ j below yes.
                ap (λ (r : List ℤ). value_at r (leg_at legs j).commodity) is ∙ so_far j below yes;
          })
      | else-moved-commodity w ↦
          rw w.numbers-is (record {
            long = now.long;
            numbers = now.numbers;
            credits = now.credits;
            out = now.out;
            so_far = λ j below.
                ⊎_elim
                (λ (earlier : j < k). now.so_far j earlier)
                (λ (last : k ≤ j).
                let same : j ≡ k = omega (arith, last, below) in
                rw same (λ yes. absurd (true≢false (sym yes ∙ w.if-moved-commodity.false))))
                (cases_lt j k);
          })
    ]
