use Rattle.std.proofs.Common.{arith, rules}
use Rattle.std.proofs.lemmas.List.{length_push}
use Rattle.std.proofs.lemmas.Slice.Zip.{all_zipped_more}
use Rattle.mgn_server.proofs.Facts.{goes_on, shut_since}
use Rattle.mgn_server.proofs.server.Server.place_all.Goals as goal

pub loop-seat-preserved : goal.loop-seat-preserved
loop-seat-preserved g c =
    let push = c.push_reserved.ensures in (
      rw push.items (all_zipped_more _ _ _ _ _ c.loop-seat.invariant.0 c.place.ensures.place),
      omega (arith, push.len, c.loop-seat.invariant.1, length_push c.loop-seat.yielded c.in-Some.seat),
      omega (arith, push.capacity, c.loop-seat.invariant.2),
      rw push.items (goes_on c.loop-seat.door c.place.new.door c.loop-seat.yielded c.loop-seat.places.items c.in-Some.seat c.place.result _ (search rules) (search rules) c.place.ensures.door c.loop-seat.invariant.3),
      shut_since c.loop-seat.door c.place.new.door c.loop-seat.yielded c.in-Some.seat c.place.result _ (search rules) c.place.ensures.door,
    )
