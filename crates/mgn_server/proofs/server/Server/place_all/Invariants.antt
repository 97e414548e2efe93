use Rattle.std.proofs.Common.{◌≡◌, ◌<◌, ◌≤◌, true, vec_len, vec_capacity, length}
use Rattle.std.specs.List.{AllZip}
use Rattle.mgn_session.specs.Session.{Answers, Calls}
use Rattle.mgn_server.specs.Places.{AreLeft, IsPlaceOf}
use Rattle.mgn_server.proofs.server.Server.place_all.Given as goal

abbrev pub invariant-loop-seat : goal.invariant-loop-seat
invariant-loop-seat g l =
    AllZip (IsPlaceOf (Answers (Calls g.E.Exec.entries g.E.Exec.is_full g.E.Exec.is_broken g.E.Exec.does) g.S.SetSource.gives))
    l.yielded l.places.items
    × (vec_len l.places ≡ length l.yielded)
    × (vec_len l.fn.seats ≤ vec_capacity l.places)
    × AreLeft l.yielded l.places.items l.door.accepted
    × (l.door.accepted < length l.yielded → l.door.has_failed ≡ true)
