use Rattle.std.proofs.Common.{◌≡◌, ◌∙◌, ap, arith, get_or, length, refl, set, sym, List, ℕ, ◌<◌}
use Rattle.std.proofs.lemmas.Grind.{get_or_default_zero}
use Rattle.mgn_rows.specs.Rows.{listed}
use Rattle.mgn_rows.proofs.Kept.{listed-at, listed-long, some-kept, written}
use Rattle.mgn_rows.proofs.rows.SparseRows.row_mut.Goals as goal

pub returns : goal.returns
returns g c =
    let places = c.keep.new.places.items in
    let kept = c.keep.new.kept.items in
    let own : listed places kept ≡ c.args.self.now = c.keep.ensures.same ∙ c.self.view_is in
    let some = some-kept places (length kept) _ c.keep.ensures.places in
    let within : c.args.i < length places = omega (arith, c.requires, ap length own, listed-long places kept some) in
    let place : c.from-place.result ≡ get_or places c.args.i 0 = c.from-place.ensures ∙ c.index.ensures ∙ get_or_default_zero places c.args.i c.index.result.now within in (
      (
        refl,
        λ w.
            ap (λ (p : ℕ). listed places (set kept p w)) place
            ∙ written places kept _ c.args.i w c.keep.ensures.places within c.keep.ensures.kept
            ∙ ap (λ (rows : List _). set rows c.args.i w) own,
      ),
      record {
        writes_back = tt;
        value = c.index_mut.ensures.value
            ∙ ap (λ (p : ℕ). get_or kept p c.index_mut.result.now) place
            ∙ sym (listed-at places kept c.args.i c.index_mut.result.now within (c.keep.ensures.places.inside c.args.i))
            ∙ ap (λ (rows : List _). get_or rows c.args.i c.index_mut.result.now) own;
      },
    )
