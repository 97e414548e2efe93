use Rattle.std.proofs.Common.{rules, ◌<◌, ◌-◌, ◌↔◌, arith, length, IsTrue}
use Rattle.mgn_lots.specs.Lots.{numbers_of}
use Rattle.mgn_lots.proofs.Rising.{above-last, last-number}
use Rattle.mgn_lots.proofs.numbers.is_above.Goals as goal

pub returns-in-Some : goal.returns-in-Some
returns-in-Some c =
    let numbers = numbers_of c.args.lots.now in
    let found = last-number c.args.lots.now c.in-Some.last.now (search rules) in
    let told : IsTrue c.lt.result ↔ (c.in-Some.last.now.number < c.args.number) = search rules in (
      λ yes. above-last numbers c.requires c.args.number (λ _. let low = told.0 yes in omega (arith, low, found.last)),
      λ all. told.1 (let low = all (length numbers - 1) 0 (omega (arith, found.some)) in omega (arith, low, found.last)),
    )
