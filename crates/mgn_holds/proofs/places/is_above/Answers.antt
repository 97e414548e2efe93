use Rattle.std.proofs.Common.{rules, ◌<◌, ◌-◌, ◌↔◌, arith, length, IsTrue}
use Rattle.mgn_holds.specs.Holds.{orders_of}
use Rattle.mgn_holds.proofs.Rising.{above-last, last-order}
use Rattle.mgn_holds.proofs.places.is_above.Goals as goal

pub returns-in-Some : goal.returns-in-Some
returns-in-Some c =
    let orders = orders_of c.args.holds.now in
    let found = last-order c.args.holds.now c.in-Some.last.now (search rules) in
    let told : IsTrue c.lt.result ↔ (c.in-Some.last.now.order < c.args.order) = search rules in (
      λ yes. above-last orders c.requires c.args.order (λ _. let low = told.0 yes in omega (arith, low, found.last)),
      λ all. told.1 (let low = all (length orders - 1) 0 (omega (arith, found.some)) in omega (arith, low, found.last)),
    )
