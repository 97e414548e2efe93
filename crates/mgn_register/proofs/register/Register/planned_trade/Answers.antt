use Rattle.std.proofs.Common.{◌∙◌, sym}
use Rattle.mgn_register.proofs.Found.{trade-plan-finds}
use Rattle.mgn_register.proofs.register.Register.planned_trade.Goals as goal

pub returns-in-One-clause-account : goal.returns-in-One-clause-account
returns-in-One-clause-account c = (trade-plan-finds c.args.set.now c.args.self.now.state c.args.trade.now c.in-One.found (sym c.in-One.is ∙ c.requires.plan)).account

pub returns-in-One-clause-contract : goal.returns-in-One-clause-contract
returns-in-One-clause-contract c = (trade-plan-finds c.args.set.now c.args.self.now.state c.args.trade.now c.in-One.found (sym c.in-One.is ∙ c.requires.plan)).contract

pub returns-in-One-clause-stands : goal.returns-in-One-clause-stands
returns-in-One-clause-stands c = (trade-plan-finds c.args.set.now c.args.self.now.state c.args.trade.now c.in-One.found (sym c.in-One.is ∙ c.requires.plan)).stands

pub returns-in-One-clause-fresh : goal.returns-in-One-clause-fresh
returns-in-One-clause-fresh c = (trade-plan-finds c.args.set.now c.args.self.now.state c.args.trade.now c.in-One.found (sym c.in-One.is ∙ c.requires.plan)).fresh

pub returns-in-One-clause-few : goal.returns-in-One-clause-few
returns-in-One-clause-few c = (trade-plan-finds c.args.set.now c.args.self.now.state c.args.trade.now c.in-One.found (sym c.in-One.is ∙ c.requires.plan)).few

pub returns-in-One-clause-room : goal.returns-in-One-clause-room
returns-in-One-clause-room c = (trade-plan-finds c.args.set.now c.args.self.now.state c.args.trade.now c.in-One.found (sym c.in-One.is ∙ c.requires.plan)).room
