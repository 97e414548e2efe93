use Rattle.std.proofs.Common.{◌==◌, rules, tests}
use Rattle.std.proofs.lemmas.Iterator.Search.{all_from_yields_List}
use Rattle.std.proofs.lemmas.Iterator.Splits.{YieldsList-from_slice_split}
use Rattle.mgn_setfile.specs.Plain.{is_plain_line}
use Rattle.mgn_setfile.proofs.plain.has_plain_lines.Goals as goal

pub returns : goal.returns
returns c =
    all_from_yields_List is_plain_line _ _ c.all.result c.all.ensures.ran
    (YieldsList-from_slice_split _ (λ b. b == 10) c.args.text.now c.split.ensures.rest c.split.ensures.done c.split.ensures.closure (λ x r q k. search (rules, tests)))
    (λ x r q k. search (rules, tests))
