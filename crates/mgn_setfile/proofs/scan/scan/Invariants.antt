use Rattle.std.proofs.Common.{◌≡◌, drop}
use Rattle.csv.specs.declared.parser.State.TheVariants as st
use Rattle.mgn_setfile.specs.Plain.{shape, shape_from}
use Rattle.mgn_setfile.proofs.scan.scan.Given as goal

abbrev pub invariant-loop-byte : goal.invariant-loop-byte
invariant-loop-byte l = shape_from l.place (drop l.byte-index l.line) ≡ shape st.StartRecord l.line
