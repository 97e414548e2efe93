use Rattle.std.proofs.Common.{◌≡◌, ◌+◌, ◌*◌, ◌≤◌, ◌∙◌, ap, get_or, pos, replicate, rules, zero, List, ℕ}
use Rattle.std.specs.Vec.{vec_capacity}
use Rattle.mgn_nets.specs.Pages.{listed}
use Rattle.mgn_nets.proofs.Paged.{flat-listed, flat-pages, flat-start, pages-as}
use Rattle.mgn_nets.proofs.nets.Nets.of_pages.Goals as goal

pub invariant_of-result : goal.invariant_of-result
invariant_of-result c =
    let starts : c.in_ok-starts.starts.items ≡ replicate c.args.pages zero = search rules in
    let cells : c.in_ok-cells.cells.items ≡ replicate 16 (pos 0) = search rules in
    let room : 16 * c.args.pages + 16 ≤ vec_capacity c.in_ok-cells.cells = search rules in
    record {
      pages =
          pages-as c.args.count _ c.in_ok-starts.starts.items _ c.in_ok-cells.cells.items (vec_capacity c.in_ok-cells.cells) (vec_capacity c.in_ok-cells.cells) starts cells (search rules) (
          flat-pages c.args.count c.args.pages (vec_capacity c.in_ok-cells.cells) c.requires.few c.requires.pages room
          );
      among = λ page none. ap (λ (xs : List ℕ). get_or xs page 0) starts ∙ flat-start c.args.pages page;
    }

pub returns : goal.returns
returns c =
    let starts : c.in_ok-starts.starts.items ≡ replicate c.args.pages zero = search rules in
    let cells : c.in_ok-cells.cells.items ≡ replicate 16 (pos 0) = search rules in
    (λ i. listed c.args.count (starts i) (cells i)) ∙ flat-listed c.args.count c.args.pages
