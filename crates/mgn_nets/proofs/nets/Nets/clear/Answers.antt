use Rattle.std.proofs.Common.{◌≡◌, ◌∙◌, ap, length, pos, replicate, rules, sym, vec_len, zero, ℕ}
use Rattle.mgn_nets.specs.Pages.{listed}
use Rattle.mgn_nets.proofs.Paged.{first-page, flat-listed, row-long}
use Rattle.mgn_nets.proofs.nets.Nets.clear.Goals as goal

pub returns : goal.returns
returns c =
    let long : vec_len c.self.inside.starts ≡ length c.self.inside.starts.items = search rules in
    let starts : c.fill.new.self.items ≡ replicate (length c.self.inside.starts.items) zero = c.fill.ensures.items (λ y is. is) ∙ ap (λ (n : ℕ). replicate n zero) long in
    let cells : c.truncate.new.self.items ≡ replicate 16 (pos 0) = c.truncate.ensures.items ∙ first-page c.self.inside.count c.self.inside.starts.items c.self.inside.cells.items _ c.self.invariant.pages in
    (λ i. listed c.self.inside.count (starts i) (cells i))
    ∙ flat-listed c.self.inside.count (length c.self.inside.starts.items)
    ∙ ap (λ (n : ℕ). replicate n (pos 0)) (sym (row-long c.self.inside.count c.self.inside.starts.items c.self.inside.cells.items c.args.self.now c.self.view_is))
