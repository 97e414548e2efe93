use Rattle.std.proofs.Common.{◌≡◌, ◌∙◌, get_or, length, rules, set}
use Rattle.mgn_rows.specs.Rows.{listed}
use Rattle.mgn_rows.proofs.Kept.{kept-same}
use Rattle.mgn_rows.proofs.places.keep.Goals as goal

pub returns-then-index-eq0-clause-same : goal.returns-then-index-eq0-clause-same
returns-then-index-eq0-clause-same g c =
    let unkept : get_or c.args.places.now.items c.args.i 0 ≡ 0 = search rules in
    let value = c.index-value.result.now in
    let first : value ≡ get_or c.args.kept.now.items 0 value = search rules in
    let long : c.len.result ≡ length c.args.kept.now.items = search rules in
    (λ i. listed (set c.args.places.now.items c.args.i (long i)) (c.push_reserved.ensures.items i))
    ∙ kept-same c.args.places.now.items c.args.kept.now.items _ c.args.i value c.requires.places c.requires.row unkept first
