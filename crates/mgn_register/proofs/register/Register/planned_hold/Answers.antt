use Rattle.std.proofs.Common.{◌∙◌, sym}
use Rattle.mgn_register.proofs.Found.{hold-plan-finds}
use Rattle.mgn_register.proofs.register.Register.planned_hold.Goals as goal

pub returns-in-One-clause-account : goal.returns-in-One-clause-account
returns-in-One-clause-account c = (hold-plan-finds c.args.set.now c.args.self.now.state c.args.hold.now c.in-One.found (sym c.in-One.is ∙ c.requires.plan)).account

pub returns-in-One-clause-contract : goal.returns-in-One-clause-contract
returns-in-One-clause-contract c = (hold-plan-finds c.args.set.now c.args.self.now.state c.args.hold.now c.in-One.found (sym c.in-One.is ∙ c.requires.plan)).contract

pub returns-in-One-clause-stands : goal.returns-in-One-clause-stands
returns-in-One-clause-stands c = (hold-plan-finds c.args.set.now c.args.self.now.state c.args.hold.now c.in-One.found (sym c.in-One.is ∙ c.requires.plan)).stands

pub returns-in-One-clause-fresh : goal.returns-in-One-clause-fresh
returns-in-One-clause-fresh c = (hold-plan-finds c.args.set.now c.args.self.now.state c.args.hold.now c.in-One.found (sym c.in-One.is ∙ c.requires.plan)).fresh

pub returns-in-One-clause-few : goal.returns-in-One-clause-few
returns-in-One-clause-few c = (hold-plan-finds c.args.set.now c.args.self.now.state c.args.hold.now c.in-One.found (sym c.in-One.is ∙ c.requires.plan)).few

pub returns-in-One-clause-room : goal.returns-in-One-clause-room
returns-in-One-clause-room c = (hold-plan-finds c.args.set.now c.args.self.now.state c.args.hold.now c.in-One.found (sym c.in-One.is ∙ c.requires.plan)).room
