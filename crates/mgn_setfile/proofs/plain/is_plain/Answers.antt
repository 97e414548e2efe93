use Rattle.std.proofs.Common.{sym, ◌∙◌}
use Rattle.mgn_setfile.proofs.BareLemmas.{bare_is_plain}
use Rattle.mgn_setfile.proofs.plain.is_plain.Goals as goal

pub returns-then-is_bare_text : goal.returns-then-is_bare_text
returns-then-is_bare_text c = c.is_bare_text.ensures ∙ sym c.if-is_bare_text.ensures ∙ sym (bare_is_plain c.args.text.now (sym c.if-is_bare_text.ensures))
