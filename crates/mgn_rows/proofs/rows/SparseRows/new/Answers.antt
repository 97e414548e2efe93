use Rattle.std.proofs.Common.{◌≡◌, ◌∙◌, ◌∷◌, [], replicate, rules, zero}
use Rattle.mgn_rows.specs.Rows.{listed}
use Rattle.mgn_rows.proofs.Kept.{flat-listed}
use Rattle.mgn_rows.proofs.rows.SparseRows.new.Goals as goal

pub returns : goal.returns
returns g c =
    let places : c.in_ok-places.places.items ≡ replicate c.args.count zero = search rules in
    let kept : c.push_reserved.new.self.items ≡ c.args.value ∷ [] = search rules in
    (λ i. listed (places i) (kept i)) ∙ flat-listed c.args.count c.args.value
