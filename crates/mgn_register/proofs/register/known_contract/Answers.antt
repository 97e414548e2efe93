use Rattle.std.proofs.Common.{sym, ◌∙◌}
use Rattle.mgn_register.proofs.Kept.{known-stands}
use Rattle.mgn_register.proofs.register.known_contract.Goals as goal

pub unreachable-requires : goal.unreachable-requires
unreachable-requires c = known-stands c.args.set.now c.args.contract c.in-Err.field-0 c.requires (sym c.contract_of.ensures.place ∙ c.in-Err.is)
