use Rattle.std.proofs.Common.{◌≡◌, ◌∙◌, ap, sym, refl, get_or, zero, suc, ℕ, List, [], ◌∷◌, Option, Some, None, option_map, slice_index_or, rules, Bor}
use Rattle.std.specs.Option.{unwrap_or}
use Rattle.csv.proofs.RecordFacts.{field-get}
use Rattle.csv.specs.Records.{field_at, fields_of}
use Rattle.mgn_setfile.proofs.detail.field_at.Goals as goal

no_field : (fields : List (List ℕ)) (i : ℕ) → field_at fields i ≡ None → get_or fields i [] ≡ []
unfolding field_at
no_field [] i e = refl
no_field (f ∷ fs) zero e = cc
no_field (f ∷ fs) (suc i) e = no_field fs i e

found : (o : Option (Bor (List ℕ))) (d : Bor (List ℕ)) (fields : List (List ℕ)) (i : ℕ) → d.now ≡ [] → option_map (λ s. s.now) o ≡ field_at fields i → (unwrap_or o d).now ≡ slice_index_or fields i []
found None d fields i none e = none ∙ sym (no_field fields i (sym e))
found (Some s) d fields i none e = sym (field-get fields i s.now (sym e))

pub returns : goal.returns
returns c =
    ap (λ (s : Bor (List ℕ)). s.now) c.unwrap_or.ensures
    ∙ found c.get.result c.as_slice.result (fields_of c.args.row.now) c.args.at (search rules) c.get.ensures.value
