use Rattle.std.proofs.Common.{rules, ◌≡◌, ◌∙◌, ◌<◌, ◌≤◌, ◌+◌, ℕ, List, ap, arith, length, length-set, slice_index, sym, take, take_all}
use Rattle.std.specs.List.{sum_by, zip}
use Rattle.std.proofs.lemmas.List.{length-map}
use Rattle.std.proofs.lemmas.Slice.Zip.{length-zip}
use Rattle.mgn_span.specs.Words.{leg_at}
use Rattle.mgn_inter.specs.declared.commodity_numbers.CommodityNumbers.{CommodityNumbers}
use Rattle.mgn_inter.specs.Columns.{credits_in}
use Rattle.mgn_inter.specs.Rows.{leg_share}
use Rattle.mgn_inter.proofs.LegLemmas.{credit_moved, share_within}
use Rattle.mgn_inter.proofs.rows.move_credits.Goals as goal

credits_long : (rows : List CommodityNumbers) → length (credits_in rows) ≡ length rows
credits_long rows = length-map rows (λ (n : CommodityNumbers). n.credit)

pub move_credit-requires-clause-covered : goal.move_credit-requires-clause-covered
move_credit-requires-clause-covered c =
    let legs = c.args.legs.now in
    let k = c.loop-k.k in
    let g = (leg_at legs k).commodity in
    let long : length c.args.old.now ≡ 4 = search rules in
    let within = share_within legs c.args.old.now k c.loop-k-test.true (omega (arith, long, c.requires.few, c.loop-k-test.true)) in
    omega (arith, within, c.requires.old g, c.loop-k.invariant.moved g)

pub move_credit-requires-clause-room : goal.move_credit-requires-clause-room
move_credit-requires-clause-room c =
    let legs = c.args.legs.now in
    let k = c.loop-k.k in
    let g = (leg_at legs k).commodity in
    let long : length c.args.new.now ≡ 4 = search rules in
    let within = share_within legs c.args.new.now k c.loop-k-test.true (omega (arith, long, c.requires.few, c.loop-k-test.true)) in
    omega (arith, within, c.requires.new g, c.requires.room g, c.loop-k.invariant.moved g)

pub loop-k-preserved : goal.loop-k-preserved
loop-k-preserved c =
    let legs = c.args.legs.now in
    let old = c.args.old.now in
    let k = c.loop-k.k in
    let inside = c.loop-k-test.true in
    let leg = leg_at legs k in
    let was = credits_in c.args.numbers.now in
    let now = credits_in c.loop-k.numbers in
    let old_long : length old ≡ 4 = search rules in
    let new_long : length c.args.new.now ≡ 4 = search rules in
    let there : leg.commodity < length now = omega (arith, c.requires.legs k leg inside, c.loop-k.invariant.long, credits_long c.loop-k.numbers) in
    let within = share_within legs old k inside (omega (arith, old_long, c.requires.few, inside)) in
    let covered : slice_index old k ≤ slice_index now leg.commodity = omega (arith, within, c.requires.old leg.commodity, c.loop-k.invariant.moved leg.commodity) in
    let is = c.move_credit.ensures.credits in
    let next_long : length (credits_in c.move_credit.new.numbers) ≡ length now = ap (λ (row : List ℕ). length row) is ∙ length-set now leg.commodity _ in
    record {
      long = sym (credits_long c.move_credit.new.numbers) ∙ next_long ∙ credits_long c.loop-k.numbers ∙ c.loop-k.invariant.long;
      numbers = (c.move_credit.ensures.numbers.0 ∙ c.loop-k.invariant.numbers.0, c.move_credit.ensures.numbers.1 ∙ c.loop-k.invariant.numbers.1);
      rests = c.move_credit.ensures.rests ∙ c.loop-k.invariant.rests;
      moved = λ g.
          ap (λ (row : List ℕ). slice_index row g + sum_by (leg_share g) (take (k + 1) (zip legs old))) is
          ∙ credit_moved was now legs old c.args.new.now k g inside (omega (arith, old_long, c.requires.few, inside)) (omega (arith, new_long, c.requires.few, inside)) there covered (c.loop-k.invariant.moved g);
    }

pub returns-clause-moved : goal.returns-clause-moved
returns-clause-moved c =
    λ g.
    let legs = c.args.legs.now in
    let k = c.loop-k.k in
    let old = take_all k (zip legs c.args.old.now) (omega (arith, length-zip legs c.args.old.now)) in
    let new = take_all k (zip legs c.args.new.now) (omega (arith, length-zip legs c.args.new.now)) in
    rw (old, new) at (c.loop-k.invariant.moved g)
