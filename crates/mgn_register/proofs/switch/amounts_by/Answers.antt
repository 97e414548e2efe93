use Rattle.mgn_register.proofs.switch.amounts_by.Goals as goal

pub amounts_by-requires-clause-prepared : goal.amounts_by-requires-clause-prepared
amounts_by-requires-clause-prepared c = c.requires.prepared c.args.unit c.in-Some.one.now c.in-Some.ensures.found
