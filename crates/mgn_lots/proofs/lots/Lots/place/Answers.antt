use Rattle.std.proofs.Common.{◌≡◌, List, Some, None, Option, ℕ, rules, sym, ap, take, nat_eq, ◌∙◌}
use Rattle.std.specs.List.{position}
use Rattle.mgn_lots.specs.declared.lot.Lot.{Lot}
use Rattle.mgn_lots.specs.Lots.{place_of_lot}
use Rattle.mgn_lots.proofs.Rising.{first-rise, place-first, place-behind, place-neither}
use Rattle.mgn_lots.proofs.lots.Lots.place.Goals as goal

pub place_in_rising-requires : goal.place_in_rising-requires
place_in_rising-requires c = rw c.deref.ensures.value (first-rise c.self.inside.lots.items c.self.inside.rising c.self.inside.numbers.keys c.self.invariant.numbers)

-- what the search among the first lots answered, where `seen` is the slice that it looked at
looked : (lots seen : List Lot) (rising n : ℕ) (r s : Option ℕ) → seen ≡ lots → r ≡ place_of_lot (take rising seen) n → r ≡ s → place_of_lot (take rising lots) n ≡ s
looked lots seen rising n r s same looks is = ap (λ (xs : List Lot). place_of_lot (take rising xs) n) (sym same) ∙ sym looks ∙ is

pub returns-in-Some-clause-place : goal.returns-in-Some-clause-place
returns-in-Some-clause-place c =
    let lots : List Lot = c.self.inside.lots.items in
    let found = looked lots _ c.self.inside.rising c.args.number _ (Some c.in-Some.place) c.deref.ensures.value c.place_in_rising.ensures c.in-Some.is in
    rw (← c.self.view_is) (sym (place-first lots c.self.inside.rising c.self.inside.numbers.keys c.self.invariant.numbers c.args.number c.in-Some.place found))

pub returns-in_err-behind-clause-place : goal.returns-in_err-behind-clause-place
returns-in_err-behind-clause-place c =
    let lots : List Lot = c.self.inside.lots.items in
    let missed = looked lots _ c.self.inside.rising c.args.number _ None c.deref.ensures.value c.place_in_rising.ensures (search rules) in
    let absent : position (nat_eq c.args.number) c.self.inside.numbers.keys ≡ None = search rules in
    rw (← c.self.view_is) (c.from_residual.ensures ∙ sym (place-neither lots c.self.inside.rising c.self.inside.numbers.keys c.self.invariant.numbers c.args.number missed absent))

pub returns-clause-place : goal.returns-clause-place
returns-clause-place c =
    let lots : List Lot = c.self.inside.lots.items in
    let missed = looked lots _ c.self.inside.rising c.args.number _ None c.deref.ensures.value c.place_in_rising.ensures (search rules) in
    let found : position (nat_eq c.args.number) c.self.inside.numbers.keys ≡ Some c.in_ok-behind.behind = search rules in
    rw (← c.self.view_is) (sym (place-behind lots c.self.inside.rising c.self.inside.numbers.keys c.self.invariant.numbers c.args.number c.in_ok-behind.behind missed found))
