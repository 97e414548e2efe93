use Rattle.std.proofs.Common.{sym, ◌∙◌}
use Rattle.mgn_coll.proofs.Written.{IsPosted-written}
use Rattle.mgn_coll.proofs.collateral.Collateral.write.Goals as goal

pub invariant_of-self-2 : goal.invariant_of-self-2
invariant_of-self-2 c =
    IsPosted-written c.self.inside.cash c.self.inside.units.entries c.insert.new.self.entries c.args.class.now c.args.amount
    (sym c.is_cash.ensures ∙ c.if-is_cash.false) c.requires (λ name. c.in_ok-insert.ensures.updates.0 name) c.self.invariant

pub returns-clause-limits : goal.returns-clause-limits
returns-clause-limits c =
    IsPosted-written c.self.inside.cash c.self.inside.units.entries c.insert.new.self.entries c.args.class.now c.args.amount
    (sym c.is_cash.ensures ∙ c.if-is_cash.false) c.requires (λ name. c.in_ok-insert.ensures.updates.0 name) c.self.invariant
