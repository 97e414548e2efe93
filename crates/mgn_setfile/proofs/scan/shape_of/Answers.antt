use Rattle.std.proofs.Common.{sym}
use Rattle.mgn_setfile.proofs.ScanLemmas.{bare_shape}
use Rattle.mgn_setfile.proofs.scan.shape_of.Goals as goal

pub returns-then-is_bare : goal.returns-then-is_bare
returns-then-is_bare c = sym (bare_shape c.args.line.now (sym c.if-is_bare.ensures))
