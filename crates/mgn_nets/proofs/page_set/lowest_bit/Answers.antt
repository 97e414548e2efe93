use Rattle.std.proofs.Common.{arith}
use Rattle.std.specs.Int.{w64}
use Rattle.std.proofs.lemmas.Nat.Bits.{bit_at-trailing_zeros}
use Rattle.mgn_nets.proofs.page_set.lowest_bit.Goals as goal

pub returns-clause-few : goal.returns-clause-few
returns-clause-few c = (bit_at-trailing_zeros w64 c.args.word (omega (arith, c.requires)) (omega (arith, c.ranges.word.fits))).0

pub returns-clause-own : goal.returns-clause-own
returns-clause-own c = (bit_at-trailing_zeros w64 c.args.word (omega (arith, c.requires)) (omega (arith, c.ranges.word.fits))).1

pub returns-clause-lower : goal.returns-clause-lower
returns-clause-lower c = (bit_at-trailing_zeros w64 c.args.word (omega (arith, c.requires)) (omega (arith, c.ranges.word.fits))).2
