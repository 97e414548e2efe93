use Rattle.std.proofs.Common.{◌≡◌, ◌∙◌, ap, arith, length, List, replicate, sym}
use Rattle.std.proofs.lemmas.List.{ext_get_or, get_or-replicate, length-replicate, take_at}
use Rattle.mgn_params.proofs.rows.fill.Goals as goal

pub returns : goal.returns
returns g c =
    let n = length c.args.row.now.items in
    let value = c.args.value in
    let now = c.loop-place.place-items in
    let same : length now ≡ length c.deref_mut-place-items.result.now = c.loop-place.auto.place-items in
    let long : length now ≡ n = same ∙ ap (λ (xs : List g.row.T.Denot). length xs) c.deref_mut-place-items.ensures.value in
    take_at now _ c.args.row.now.len (same ∙ c.deref_mut-place-items.ensures.len) ∙ ext_get_or value now (replicate n value) (long ∙ sym (length-replicate n value))
    (λ k h. c.loop-place.invariant k (omega (arith, same)) ∙ sym (get_or-replicate n k value value (omega (arith, long))))
