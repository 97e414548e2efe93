use Rattle.std.proofs.Common.{◌∙◌, [], sym}
use Rattle.mgn_setfile.proofs.PlainLemmas.{plain_records}
use Rattle.mgn_setfile.proofs.file.read_file.Goals as goal

pub read_body-requires : goal.read_body-requires
read_body-requires c = ([], plain_records c.args.text.now (sym c.is_plain.ensures ∙ c.if-is_plain.true))
