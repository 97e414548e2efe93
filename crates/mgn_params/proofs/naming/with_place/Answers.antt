use Rattle.std.specs.Int.{w64}
use Rattle.std.proofs.lemmas.Nat.Bits.{bit_at_set_other, bit_at_set_same}
use Rattle.mgn_params.proofs.naming.with_place.Goals as goal

pub returns-clause-own : goal.returns-clause-own
returns-clause-own c = bit_at_set_same w64 c.args.places c.args.place c.requires

pub returns-clause-others : goal.returns-clause-others
returns-clause-others c = λ i other. bit_at_set_other w64 c.args.places c.args.place c.requires i other
