use Rattle.std.proofs.Common.{◌≡◌, ◌∙◌, replicate, rules, zero}
use Rattle.mgn_rows.specs.Pages.{paged}
use Rattle.mgn_rows.proofs.Paged.{flat-paged}
use Rattle.mgn_rows.proofs.list.SparseList.of_pages.Goals as goal

pub returns : goal.returns
returns g c =
    let places : c.in_ok-places.places.items ≡ replicate c.args.pages zero = search rules in
    let cells : c.in_ok-cells.cells.items ≡ replicate 16 c.args.value = search rules in
    (λ i. paged c.args.count (places i) (cells i)) ∙ flat-paged c.args.count c.args.pages c.args.value
