use Rattle.std.proofs.Common.{◌≡◌, ◌<◌, ◌∙◌, ℕ, None, ap, get_or, length, rules, subst}
use Rattle.std.specs.Prelude.{IfSome}
use Rattle.std.proofs.lemmas.List.{get_or_default, length-set}
use Rattle.mgn_desk.specs.Desks.{DeskRows}
use Rattle.mgn_unit.specs.declared.row.Row.{Row as UnitRow}
use Rattle.mgn_unit.specs.Amounts.{AreRequired}
use Rattle.mgn_unit.specs.Rows.{nets_in}
use Rattle.mgn_plan.specs.Plans.{row_at}
use Rattle.mgn_pricing.specs.Desks.{Rests}
use Rattle.mgn_pricing.proofs.Marked.{ToldTo, empty-next, known-pushed, numbered-set, rest-next, told-all, told-next}
use Rattle.mgn_pricing.proofs.desks.Desks.mark_all.Goals as goal

pub loop-unit-preserved : goal.loop-unit-preserved
loop-unit-preserved c =
    let set' = c.args.set.now in
    let rows = c.args.rows.now in
    let desks = c.loop-unit.self-inside.desks.items in
    let u = c.loop-unit.unit in
    let x = c.mark_again-priced.new.desk in
    let row = c.index-rows-unit.result in
    let held = c.loop-unit.invariant in
    let inside : u < length desks = search rules in
    let within : u < length rows = search rules in
    let is : (d : UnitRow) → row ≡ get_or rows u d = λ d. c.index-rows-unit.is ∙ get_or_default rows u row d within in
    let before : DeskRows = record { unit = u; marked = None } in
    let held-desk = c.index_mut.ensures.value ∙ get_or_default desks u c.index_mut.result.now before inside in
    let own : x.unit ≡ (get_or desks u before).unit = c.mark_again-priced.ensures.number ∙ ap (λ (d : DeskRows). d.unit) held-desk in
    let here : row ≡ row_at set' rows u = is _ in
    let last = subst (λ (r : UnitRow). Rests set' c.args.version (nets_in r) x.marked) here c.mark_again-priced.ensures.rests in
    record {
      long = length-set desks u x ∙ held.long;
      numbered = numbered-set desks u x held.numbered inside (own ∙ held.numbered u);
      len = search rules;
      room = search rules;
      known = rw c.push_reserved.ensures.items (known-pushed set' rows c.loop-unit.known.items c.mark_again-priced.result u (search rules) held.known
          (λ d. subst (λ (r : UnitRow). IfSome c.mark_again-priced.result (AreRequired set' r)) (is d) c.mark_again-priced.ensures.known));
      rest = rest-next set' c.args.version rows desks u x inside held.rest last;
      told = rw c.push_reserved.ensures.items (told-next c.args.version desks c.loop-unit.known.items u x c.mark_again-priced.result inside (search rules) held.told c.mark_again-priced.ensures.told);
      empty = empty-next c.args.self.now desks u x inside held.empty
          (λ none. c.mark_again-priced.ensures.empty (ap (λ (d : DeskRows). d.marked) held-desk ∙ none));
    }

pub returns-clause-told : goal.returns-clause-told
returns-clause-told c =
    let desks = c.loop-unit.self-inside.desks.items in
    let all : c.loop-unit.unit ≡ length desks = search rules in
    let long : length c.loop-unit.known.items ≡ length desks = search rules in
    told-all c.args.version desks c.loop-unit.known.items long
    (subst (λ (n : ℕ). ToldTo c.args.version desks c.loop-unit.known.items n) all c.loop-unit.invariant.told)
