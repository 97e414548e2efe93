use Rattle.std.proofs.Common.{subst}
use Rattle.mgn_machine.specs.declared.request.Request.TheVariants.{Do}
use Rattle.mgn_ledger.specs.Ledgers.{PassAnswers}
use Rattle.mgn_ledger.specs.Passes.{PassView}
use Rattle.mgn_seat.proofs.Answered.{adds}
use Rattle.mgn_seat.proofs.seat.SeatExec.exec.Goals as goal

pub returns : goal.returns
returns g c =
    let answered : PassAnswers c.args.self.now (Do c.args.command.now) c.exec.result c.exec.new.pass = subst (λ (p : PassView). PassAnswers p (Do c.args.command.now) c.exec.result c.exec.new.pass) c.self.view_is c.exec.ensures in
    (adds c.args.self.now (Do c.args.command.now) c.exec.result.place c.exec.result.reply c.exec.new.pass answered, answered)
