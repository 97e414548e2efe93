use Rattle.std.proofs.Common.{arith, rules, map, ◌∙◌, ◌≡◌, true, sym, length, Ok, Bor, List, ℕ}
use Rattle.mgn_setfile.specs.Fields.{field_number, in_field}
use Rattle.mgn_setfile.specs.declared.place.Field.TheVariants as field
use Rattle.mgn_setfile.specs.Records.{has_side_a, has_side_b, kept_legs}
use Rattle.mgn_setfile.proofs.LegLemmas.{credit_is, ok_along, err_along, sided_is}
use Rattle.mgn_setfile.proofs.credits.credit_from.Goals as goal

pub credit_row-requires : goal.credit_row-requires
credit_row-requires c =
    let found = c.in_ok-found.found.items in
    let kept : kept_legs found ≡ Ok c.in_ok-legs.legs = search rules in
    let a : has_side_a found ≡ true = search rules in
    let b : has_side_b found ≡ true = search rules in
    let count = c.in_ok-found.ensures.count in
    let len : c.len.result ≡ length found = search rules in
    rw len (sided_is (length c.args.set.now.commodities) c.in_ok-rate.rate found c.in_ok-legs.legs kept c.in_ok-found.ensures.bound a b (omega (arith, count.1, c.requires.low)) (omega (arith, count.0, c.requires.high)) c.in_ok-rate.ensures.bound.1)

pub returns-clause-ok : goal.returns-clause-ok
returns-clause-ok c =
    let found = c.in_ok-found.found.items in
    let kept : kept_legs found ≡ Ok c.in_ok-legs.legs = search rules in
    let a : has_side_a found ≡ true = search rules in
    let b : has_side_b found ≡ true = search rules in
    let len : c.len.result ≡ length found = search rules in
    let number : in_field (field.CreditSpread 2) (field_number 0 10000 c.args.rate.now) ≡ Ok c.in_ok-rate.rate = search rules in
    let is = credit_is c.args.set.now c.in_ok-rate.rate c.args.rate.now (map (λ (s : Bor (List ℕ)). s.now) c.args.words.now) found c.in_ok-legs.legs number c.in_ok-found.ensures.ok a b kept in
    ok_along _ _ (is ∙ sym (rw len at c.credit_row.ensures.value))

pub returns-clause-err : goal.returns-clause-err
returns-clause-err c =
    let found = c.in_ok-found.found.items in
    let kept : kept_legs found ≡ Ok c.in_ok-legs.legs = search rules in
    let a : has_side_a found ≡ true = search rules in
    let b : has_side_b found ≡ true = search rules in
    let len : c.len.result ≡ length found = search rules in
    let number : in_field (field.CreditSpread 2) (field_number 0 10000 c.args.rate.now) ≡ Ok c.in_ok-rate.rate = search rules in
    let is = credit_is c.args.set.now c.in_ok-rate.rate c.args.rate.now (map (λ (s : Bor (List ℕ)). s.now) c.args.words.now) found c.in_ok-legs.legs number c.in_ok-found.ensures.ok a b kept in
    err_along _ _ (is ∙ sym (rw len at c.credit_row.ensures.value))
