use Rattle.std.proofs.Common.{arith}
use Rattle.std.proofs.lemmas.List.{length_push}
use Rattle.std.proofs.lemmas.Slice.Zip.{all_zipped_more}
use Rattle.mgn_server.proofs.place.end_all.Goals as goal

pub loop-place-preserved : goal.loop-place-preserved
loop-place-preserved g c =
    let push = c.push_reserved.ensures in (
      rw push.items (all_zipped_more _ _ _ _ _ c.loop-place.invariant.0 c.end.ensures),
      omega (arith, push.len, c.loop-place.invariant.1, length_push c.loop-place.yielded c.in-Some.place),
      omega (arith, push.capacity, c.loop-place.invariant.2),
    )
