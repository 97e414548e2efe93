use Rattle.std.proofs.Common.{rules, sym, ◌∙◌}
use Rattle.std.proofs.lemmas.List.Sorted.{answers_always}
use Rattle.mgn_lots.specs.declared.lot.Lot.{Lot}
use Rattle.mgn_lots.specs.Lots.{numbers_of}
use Rattle.mgn_lots.proofs.Rising.{position-above, search-ends}
use Rattle.mgn_lots.proofs.numbers.place_in_rising.Goals as goal

pub returns-then-is_above : goal.returns-then-is_above
returns-then-is_above c = sym (position-above (numbers_of c.args.lots.now) c.requires c.args.number (c.is_above.ensures.0 (search rules)))

-- the closure gives a lot's number
pub returns : goal.returns
returns c =
    let facts = c.binary_search_by_key.ensures in
    let by_number = facts.position (λ (x : Lot). x.number) (answers_always _ _ _ (λ f a r g called. search rules)) in
    c.ok.ensures.value ∙ search-ends c.args.lots.now c.requires c.args.number c.binary_search_by_key.result facts.bound by_number
