use Rattle.std.proofs.Common.{subst}
use Rattle.mgn_machine.specs.declared.request.Request.TheVariants.{Switch}
use Rattle.mgn_ledger.specs.Ledgers.{PassAnswers}
use Rattle.mgn_ledger.specs.Passes.{PassView}
use Rattle.mgn_seat.proofs.Answered.{adds}
use Rattle.mgn_seat.proofs.seat.SeatExec.switch.Goals as goal

pub returns : goal.returns
returns g c =
    let answered : PassAnswers c.args.self.now (Switch c.args.set) c.switch.result c.switch.new.pass = subst (λ (p : PassView). PassAnswers p (Switch c.args.set) c.switch.result c.switch.new.pass) c.self.view_is c.switch.ensures in
    (adds c.args.self.now (Switch c.args.set) c.switch.result.place c.switch.result.reply c.switch.new.pass answered, answered)
