use Rattle.std.proofs.Common.{◌∙◌, sym}
use Rattle.mgn_register.proofs.Found.{move-plan-finds}
use Rattle.mgn_register.proofs.register.Register.planned_move.Goals as goal

pub returns-in-Two-clause-places : goal.returns-in-Two-clause-places
returns-in-Two-clause-places c = sym (move-plan-finds c.args.set.now c.args.self.now.state c.args.transfer.now c.in-Two.given c.in-Two.taken (sym c.in-Two.is ∙ c.requires.plan)).places

pub returns-in-Two-clause-giver : goal.returns-in-Two-clause-giver
returns-in-Two-clause-giver c = (move-plan-finds c.args.set.now c.args.self.now.state c.args.transfer.now c.in-Two.given c.in-Two.taken (sym c.in-Two.is ∙ c.requires.plan)).giver

pub returns-in-Two-clause-taker : goal.returns-in-Two-clause-taker
returns-in-Two-clause-taker c = (move-plan-finds c.args.set.now c.args.self.now.state c.args.transfer.now c.in-Two.given c.in-Two.taken (sym c.in-Two.is ∙ c.requires.plan)).taker

pub returns-in-Two-clause-apart : goal.returns-in-Two-clause-apart
returns-in-Two-clause-apart c = (move-plan-finds c.args.set.now c.args.self.now.state c.args.transfer.now c.in-Two.given c.in-Two.taken (sym c.in-Two.is ∙ c.requires.plan)).apart

pub returns-in-Two-clause-stands : goal.returns-in-Two-clause-stands
returns-in-Two-clause-stands c = (move-plan-finds c.args.set.now c.args.self.now.state c.args.transfer.now c.in-Two.given c.in-Two.taken (sym c.in-Two.is ∙ c.requires.plan)).stands

pub returns-in-Two-clause-giver_fresh : goal.returns-in-Two-clause-giver_fresh
returns-in-Two-clause-giver_fresh c = (move-plan-finds c.args.set.now c.args.self.now.state c.args.transfer.now c.in-Two.given c.in-Two.taken (sym c.in-Two.is ∙ c.requires.plan)).giver_fresh

pub returns-in-Two-clause-taker_fresh : goal.returns-in-Two-clause-taker_fresh
returns-in-Two-clause-taker_fresh c = (move-plan-finds c.args.set.now c.args.self.now.state c.args.transfer.now c.in-Two.given c.in-Two.taken (sym c.in-Two.is ∙ c.requires.plan)).taker_fresh

pub returns-in-Two-clause-giver_few : goal.returns-in-Two-clause-giver_few
returns-in-Two-clause-giver_few c = (move-plan-finds c.args.set.now c.args.self.now.state c.args.transfer.now c.in-Two.given c.in-Two.taken (sym c.in-Two.is ∙ c.requires.plan)).giver_few

pub returns-in-Two-clause-taker_few : goal.returns-in-Two-clause-taker_few
returns-in-Two-clause-taker_few c = (move-plan-finds c.args.set.now c.args.self.now.state c.args.transfer.now c.in-Two.given c.in-Two.taken (sym c.in-Two.is ∙ c.requires.plan)).taker_few

pub returns-in-Two-clause-giver_room : goal.returns-in-Two-clause-giver_room
returns-in-Two-clause-giver_room c = (move-plan-finds c.args.set.now c.args.self.now.state c.args.transfer.now c.in-Two.given c.in-Two.taken (sym c.in-Two.is ∙ c.requires.plan)).giver_room

pub returns-in-Two-clause-taker_room : goal.returns-in-Two-clause-taker_room
returns-in-Two-clause-taker_room c = (move-plan-finds c.args.set.now c.args.self.now.state c.args.transfer.now c.in-Two.given c.in-Two.taken (sym c.in-Two.is ∙ c.requires.plan)).taker_room
