use Rattle.std.proofs.Common.{◌≡◌, ◌∙◌, ◌+◌, ◌*◌, ◌≤◌, ap, get_or, length, rules, List, ℕ}
use Rattle.std.specs.Vec.{vec_capacity}
use Rattle.mgn_nets.proofs.Paged.{pages-as, pages-with}
use Rattle.mgn_nets.proofs.nets.Nets.copy.Goals as goal

pub invariant_of-result : goal.invariant_of-result
invariant_of-result c =
    let starts : c.in_ok-starts.starts.items ≡ c.self.inside.starts.items = search rules in
    let cells : c.in_ok-cells.cells.items ≡ c.self.inside.cells.items = search rules in
    let room : 16 * length c.self.inside.starts.items + 16 ≤ vec_capacity c.in_ok-cells.cells = search rules in
    record {
      pages =
          pages-as c.self.inside.count c.self.inside.starts.items c.in_ok-starts.starts.items c.self.inside.cells.items c.in_ok-cells.cells.items (vec_capacity c.in_ok-cells.cells) (vec_capacity c.in_ok-cells.cells) starts cells (search rules) (
          pages-with c.self.inside.count c.self.inside.starts.items c.self.inside.cells.items (vec_capacity c.self.inside.cells) (vec_capacity c.in_ok-cells.cells) c.self.invariant.pages room
          );
      among = λ page none. ap (λ (xs : List ℕ). get_or xs page 0) starts ∙ c.self.invariant.among page none;
    }
