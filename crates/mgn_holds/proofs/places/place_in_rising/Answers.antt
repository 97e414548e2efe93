use Rattle.std.proofs.Common.{rules, sym, ◌∙◌}
use Rattle.std.proofs.lemmas.List.Sorted.{answers_always}
use Rattle.mgn_holds.specs.declared.held.Held.{Held}
use Rattle.mgn_holds.proofs.Rising.{place-above, search-ends}
use Rattle.mgn_holds.proofs.places.place_in_rising.Goals as goal

pub returns-then-is_above : goal.returns-then-is_above
returns-then-is_above c = sym (place-above c.args.holds.now c.args.order (c.is_above.ensures.0 (search rules)))

-- the closure gives a hold's order
pub returns : goal.returns
returns c =
    let facts = c.binary_search_by_key.ensures in
    let by_order = facts.position (λ (x : Held). x.order) (answers_always _ _ _ (λ f a r g called. search rules)) in
    c.ok.ensures.value ∙ search-ends c.args.holds.now c.requires c.args.order c.binary_search_by_key.result facts.bound by_order
