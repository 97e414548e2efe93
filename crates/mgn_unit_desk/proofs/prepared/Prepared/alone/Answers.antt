use Rattle.std.proofs.Common.{◌∙◌, List, ℕ, ap, map, sym, subst}
use Rattle.std.specs.Prelude.{Option}
use Rattle.std.proofs.lemmas.Result.{IfOk-weaker}
use Rattle.mgn_unit.specs.NewSets.{ArePrepared, PreparedUnit}
use Rattle.mgn_prepare.specs.Marks.{mark_of}
use Rattle.mgn_day.specs.Gathering.{AreReady}
use Rattle.mgn_unit_desk.proofs.Prepares.{ready-marked}
use Rattle.mgn_unit_desk.proofs.prepared.Prepared.alone.Goals as goal

pub returns-clause-prepared : goal.returns-clause-prepared
returns-clause-prepared g c =
    IfOk-weaker c.new.result _ _
    (λ prepared are. subst (λ (units : List (Option PreparedUnit)). ArePrepared c.args.set.now units) (sym are.0) c.in_ok-units.ensures.prepared)
    c.new.ensures

pub returns-clause-ready : goal.returns-clause-ready
returns-clause-ready g c =
    let gathered = c.args.gathered in
    let units = c.in_ok-units.units.items in
    let new = c.args.set.now in
    let ready = ready-marked g.T.Shows.shown gathered.set.now new gathered.nets.items gathered.since.items units c.requires.seen
    (c.in_ok-units.ensures.marks ∙ ap (map (mark_of gathered.set.now new)) (c.as_slice.ensures.value ∙ c.in_ok-nets.ensures))
    in
    IfOk-weaker c.new.result _ _
    (λ prepared are. subst (λ (list : List (Option PreparedUnit)). AreReady g.T.Shows.shown new list prepared.since.items) (sym are.0)
    (subst (λ (since : List (ℕ × g.row.T.Denot)). AreReady g.T.Shows.shown new units since) (sym are.1) ready))
    c.new.ensures
