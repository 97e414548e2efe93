use Rattle.std.proofs.Common.{◌≡◌, ◌<◌, ◌∙◌, get_or, length, rules, subst, sym}
use Rattle.mgn_unit.specs.Amounts.{AreRequired, row_with_amounts}
use Rattle.mgn_unit.specs.declared.row.Row.{Row as UnitRow}
use Rattle.mgn_register.specs.BookStates.{BookState, IsUnitRow}
use Rattle.mgn_register.proofs.Switches.{amounts-pushed, row-kept, worths-kept}
use Rattle.mgn_register.proofs.register.Register.amounts_known.Goals as goal

pub amounts_where-requires-clause-worths : goal.amounts_where-requires-clause-worths
amounts_where-requires-clause-worths c =
    let f : BookState = c.args.self.now in
    let u = c.loop-unit.unit in
    let inside : u < length f.rows = search rules in
    let is : c.index.result.now ≡ get_or f.rows u c.index.result.now = search rules in
    worths-kept c.args.switch.now.old c.args.switch.now.new f u c.gain_of-gain.result c.index.result.now c.requires.kept c.requires.limits inside is (c.gain_of-gain.ensures ∙ c.requires.gains.are u inside)

pub amounts_where-requires-clause-known : goal.amounts_where-requires-clause-known
amounts_where-requires-clause-known c = λ priced found.
    let f : BookState = c.args.self.now in
    let u = c.loop-unit.unit in
    let row = c.index.result.now in
    let inside : u < length f.rows = search rules in
    let is : row ≡ get_or f.rows u row = search rules in
    subst (λ (x : UnitRow). AreRequired c.args.switch.now.new x priced) (sym is) (c.requires.known u row priced inside (sym c.known_of-known.ensures ∙ found))

pub loop-unit-preserved : goal.loop-unit-preserved
loop-unit-preserved c =
    let f : BookState = c.args.self.now in
    let u = c.loop-unit.unit in
    let old = c.args.switch.now.old in
    let new = c.args.switch.now.new in
    let row = c.index.result.now in
    let it = c.in_ok-amounts.amounts in
    let inside : u < length f.rows = search rules in
    let is : (d : UnitRow) → row ≡ get_or f.rows u d = λ d. search rules in
    let long : length c.loop-unit.all.items ≡ u = search rules in
    let gained = c.gain_of-gain.ensures ∙ c.requires.gains.are u inside in
    let kept = row-kept old new f u c.gain_of-gain.result row (row_with_amounts it row) c.requires.kept inside (is row) gained c.in_ok-amounts.ensures.row c.in_ok-amounts.ensures.limits in
    let last : (d : UnitRow) → IsUnitRow new f.state.accounts u (row_with_amounts it (get_or f.rows u d)) =
    λ d. subst (λ (x : UnitRow). IsUnitRow new f.state.accounts u (row_with_amounts it x)) (is d) kept
    in
    record {
      len = search rules;
      room = search rules;
      so_far = λ k h d. rw c.push_reserved.ensures.items (amounts-pushed new f.state.accounts f.rows c.loop-unit.all.items it u long c.loop-unit.invariant.so_far last k h d);
      idle = λ ready. search rules;
    }
