use Rattle.std.proofs.Common.{◌≡◌, ◌∙◌, ◌∷◌, [], ap, length, replicate, rules, sym, vec_len, zero, ℕ}
use Rattle.mgn_rows.specs.Rows.{listed}
use Rattle.mgn_rows.proofs.Kept.{flat-listed, listed-long, some-kept}
use Rattle.mgn_rows.proofs.rows.SparseRows.flatten.Goals as goal

pub returns : goal.returns
returns g c =
    let long : vec_len c.self.inside.places ≡ length c.self.inside.places.items = search rules in
    let places : c.fill.new.self.items ≡ replicate (length c.self.inside.places.items) zero = c.fill.ensures.items (λ y is. is) ∙ ap (λ (n : ℕ). replicate n zero) long in
    let kept : c.push_reserved.new.self.items ≡ c.args.value ∷ [] = search rules in
    let own = listed-long c.self.inside.places.items c.self.inside.kept.items (some-kept c.self.inside.places.items (length c.self.inside.kept.items) _ c.self.invariant) in
    (λ i. listed (places i) (kept i))
    ∙ flat-listed (length c.self.inside.places.items) c.args.value
    ∙ ap (λ (n : ℕ). replicate n c.args.value) (sym own ∙ ap length c.self.view_is)
