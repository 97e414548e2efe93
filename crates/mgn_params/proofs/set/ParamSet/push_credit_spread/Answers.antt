use Rattle.std.proofs.Common.{rules, ◌≡◌, ◌∙◌, ℕ, List, ap, length, sym}
use Rattle.std.proofs.lemmas.List.{with_items_is}
use Rattle.mgn_params.proofs.LimitsLemmas.{IsWithinLimits-credit}
use Rattle.mgn_params.proofs.NamingLemmas.{naming_spread}
use Rattle.mgn_params.proofs.set.ParamSet.push_credit_spread.Goals as goal

pub invariant_of-self-2 : goal.invariant_of-self-2
invariant_of-self-2 c =
    let next = rw (← c.self.view_is) at c.requires in
    let limits = IsWithinLimits-credit _ c.args.spread c.self.invariant.limits next in
    let grown = c.in_ok-push.ensures.items in
    let long : length c.name_legs.new.naming ≡ c.self.inside.naming.len = search rules in
    let same : length c.name_legs.new.naming ≡ length c.self.inside.naming.items = long ∙ sym c.deref_mut.ensures.len ∙ ap (λ (row : List ℕ). length row) c.deref_mut.ensures.value in
    let place : c.len-place.result ≡ length c.self.inside.credits.items = search rules in
    record {
      limits = rw grown limits;
      commodity_places = c.self.invariant.commodity_places;
      contract_places = c.self.invariant.contract_places;
      class_places = c.self.invariant.class_places;
      rows = c.self.invariant.rows;
      naming = rw (grown, with_items_is c.self.inside.naming c.name_legs.new.naming long) (naming_spread _ c.self.inside.credits.items c.self.inside.naming.items c.name_legs.new.naming c.args.spread c.self.invariant.naming same (rw (c.deref_mut.ensures.value, place) at c.name_legs.ensures.others) (rw place at c.name_legs.ensures.named) (rw c.deref_mut.ensures.value at c.name_legs.ensures.unnamed));
    }
