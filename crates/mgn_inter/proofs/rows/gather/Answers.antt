use Rattle.std.proofs.Common.{rules, ◌≡◌, ◌<◌, arith, length, length-take}
use Rattle.std.proofs.lemmas.List.{get_or-take}
use Rattle.mgn_params.specs.Tables.{legs_of, no_leg}
use Rattle.mgn_inter.proofs.rows.gather.Goals as goal

pub numbers_at-row-requires : goal.numbers_at-row-requires
numbers_at-row-requires c =
    let s = c.args.spread.now in
    let k = c.loop-k.k in
    let long : length s.legs ≡ 4 = search rules in
    let low : k < length (legs_of s) = omega (arith, c.loop-k-test.true, length-take s.count s.legs, long, c.requires.few) in
    rw (get_or-take s.count s.legs k no_leg c.loop-k-test.true) at (c.requires.legs k no_leg low)
