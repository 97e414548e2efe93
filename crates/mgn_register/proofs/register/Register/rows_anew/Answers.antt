use Rattle.std.proofs.Common.{◌≡◌, ◌<◌, ◌∙◌, get_or, length, arith, refl, rules}
use Rattle.mgn_unit.specs.NewSets.{row_under, unit_gain}
use Rattle.mgn_register.specs.BookStates.{BookState}
use Rattle.mgn_register.proofs.Switches.{found-carried, found-current, found-prepared, row-kept, rows-pushed, worths-kept}
use Rattle.mgn_register.proofs.register.Register.rows_anew.Goals as goal

pub row_by-requires-clause-worths : goal.row_by-requires-clause-worths
row_by-requires-clause-worths c =
    let f : BookState = c.args.self.now in
    let u = c.loop-unit.unit in
    let inside : u < length f.rows = search rules in
    let is : c.index.result.now ≡ get_or f.rows u c.index.result.now = search rules in
    worths-kept c.args.switch.now.old c.args.switch.now.new f u c.gain_of-gain.result c.index.result.now c.requires.kept c.requires.limits inside is (c.gain_of-gain.ensures ∙ c.requires.gains.are u inside)

pub row_by-requires-clause-prepared : goal.row_by-requires-clause-prepared
row_by-requires-clause-prepared c =
    let found = c.take_prepared-ready.ensures.taken ∙ c.loop-unit.invariant.rest c.loop-unit.unit (omega arith) in
    found-prepared c.args.switch.now.new c.args.prepared.now c.loop-unit.unit c.take_prepared-ready.result found c.requires.prepared

pub row_by-requires-clause-current : goal.row_by-requires-clause-current
row_by-requires-clause-current c = λ current_is.
    let f : BookState = c.args.self.now in
    let u = c.loop-unit.unit in
    let inside : u < length f.rows = search rules in
    let is : c.index.result.now ≡ get_or f.rows u c.index.result.now = search rules in
    let old = c.args.switch.now.old in
    let new = c.args.switch.now.new in
    found-current old new old new f.rows c.args.prepared.now c.args.current.now u c.index.result.now c.take_prepared-ready.result c.is_current-is_current.result refl refl inside is
    (c.take_prepared-ready.ensures.taken ∙ c.loop-unit.invariant.rest u (omega arith)) c.is_current-is_current.ensures c.requires.current current_is

pub loop-unit-preserved : goal.loop-unit-preserved
loop-unit-preserved c =
    let f : BookState = c.args.self.now in
    let u = c.loop-unit.unit in
    let old = c.args.switch.now.old in
    let new = c.args.switch.now.new in
    let inside : u < length f.rows = search rules in
    let gained : c.gain_of-gain.result ≡ unit_gain old new f.state.accounts u = c.gain_of-gain.ensures ∙ c.requires.gains.are u inside in
    let is : c.index.result.now ≡ get_or f.rows u c.index.result.now = search rules in
    let under : c.in_ok-row.row ≡ row_under old new c.gain_of-gain.result c.index.result.now = search rules in
    let long : length c.loop-unit.rows.items ≡ u = search rules in
    let last = row-kept old new f u c.gain_of-gain.result c.index.result.now c.in_ok-row.row c.requires.kept inside is gained under (search rules) in
    record {
      len = search rules;
      room = search rules;
      so_far = λ k h d. rw c.push_reserved.ensures.items (rows-pushed new f.state.accounts c.loop-unit.rows.items c.in_ok-row.row u long c.loop-unit.invariant.so_far last k h d);
      rest = λ k h. c.take_prepared-ready.ensures.others k (λ same. absurd (omega (arith, h, same))) ∙ c.loop-unit.invariant.rest k (omega (arith, h));
      idle = λ ready. c.row_by.ensures.idle (found-carried old new old new f.rows c.args.prepared.now u c.index.result.now c.take_prepared-ready.result refl refl inside is (c.take_prepared-ready.ensures.taken ∙ c.loop-unit.invariant.rest u (omega arith)) ready) ∙ c.loop-unit.invariant.idle ready;
    }

pub returns-in_err-row-clause-idle : goal.returns-in_err-row-clause-idle
returns-in_err-row-clause-idle c = λ ready.
    let f : BookState = c.args.self.now in
    let u = c.loop-unit.unit in
    let old = c.args.switch.now.old in
    let new = c.args.switch.now.new in
    let inside : u < length f.rows = search rules in
    let is : c.index.result.now ≡ get_or f.rows u c.index.result.now = search rules in
    c.row_by.ensures.idle (found-carried old new old new f.rows c.args.prepared.now u c.index.result.now c.take_prepared-ready.result refl refl inside is (c.take_prepared-ready.ensures.taken ∙ c.loop-unit.invariant.rest u (omega arith)) ready) ∙ c.loop-unit.invariant.idle ready
