use Rattle.std.proofs.Common.{◌≡◌, ◌∙◌, ap, length, replicate, rules, sym, vec_len, zero, ℕ}
use Rattle.mgn_rows.specs.Pages.{paged}
use Rattle.mgn_rows.proofs.Paged.{flat-paged, list-long}
use Rattle.mgn_rows.proofs.list.SparseList.flatten.Goals as goal

pub returns : goal.returns
returns g c =
    let long : vec_len c.self.inside.places ≡ length c.self.inside.places.items = search rules in
    let places : c.fill.new.self.items ≡ replicate (length c.self.inside.places.items) zero = c.fill.ensures.items (λ y is. is) ∙ ap (λ (n : ℕ). replicate n zero) long in
    let cells : c.push_page.new.cells.items ≡ replicate 16 c.args.value = search rules in
    (λ i. paged c.self.inside.count (places i) (cells i))
    ∙ flat-paged c.self.inside.count (length c.self.inside.places.items) c.args.value
    ∙ ap (λ (n : ℕ). replicate n c.args.value) (sym (list-long c.self.inside.count c.self.inside.places.items c.self.inside.cells.items _ c.args.self.now c.self.invariant c.self.view_is))
