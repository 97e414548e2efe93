use Rattle.std.proofs.Common.{subst}
use Rattle.mgn_unit_desk.proofs.workers.Workers.mark.Goals as goal

pub returns-clause-marks : goal.returns-clause-marks
returns-clause-marks g c =
    let P : _ → Type 0 = λ m. (g.dyn-1.0.entry m.0).1.post m.1 (c.args.session, (c.args.old, (c.args.new, (c.args.nets, tt {0})))) c.call.result in
    c.args.self.now.marks c.args.session c.args.old c.args.new c.args.nets c.call.result (subst P c.deref_box-1.ensures.1 c.call.ensures.0)

pub returns-clause-prepared : goal.returns-clause-prepared
returns-clause-prepared g c =
    let P : _ → Type 0 = λ m. (g.dyn-1.0.entry m.0).1.post m.1 (c.args.session, (c.args.old, (c.args.new, (c.args.nets, tt {0})))) c.call.result in
    c.args.self.now.gives c.args.session c.args.old c.args.new c.args.nets c.call.result (subst P c.deref_box-1.ensures.1 c.call.ensures.0)
